-- The ones of an exclusive or are the bits that differ.
use Rattle.std.proofs.Common.{◌≡◌, ℕ, zero, suc, ◌+◌, ◌*◌, ◌/◌, ◌%◌, ◌^◌, ◌<◌, ◌≤◌, Bool, true, false, cond, eqb, List, [], ◌∷◌, ◌++◌}
use Rattle.std.proofs.Common.{length, take, get_or, refl, sym, ap, ◌∙◌, arith, bit_xor}
use Rattle.std.specs.Prelude.{◌==◌, not}
use Rattle.std.specs.Int.{bit_at}
use Rattle.std.specs.Int.RustNames.{count_ones}
use Rattle.std.proofs.lemmas.Nat.{xor_lt, ones_cat, shr-shr}
use Rattle.std.proofs.lemmas.Nat.Bits.{bit_at_xor}
use Rattle.std.proofs.lemmas.Bool.{eq-eqb}
use Rattle.std.proofs.lemmas.List.{take_more, length-take-le}
use Rattle.sdh_parity.specs.Violations.{differing_bits, violations_of}

ones_of_bit : (b : ℕ) → b < 2 → count_ones b ≡ b
unfolding count_ones
ones_of_bit zero h = refl
ones_of_bit (suc zero) h = refl
ones_of_bit (suc (suc b)) h = absurd (omega arith)

ones_half : (n : ℕ) → count_ones n ≡ count_ones (n / 2) + n % 2
ones_half n =
    let e : n / 2 * 2 ^ 1 + n % 2 ≡ n = omega arith in
    ap count_ones (sym e) ∙ ones_cat 1 (n / 2) (n % 2) (omega arith) ∙ ap (λ x. count_ones (n / 2) + x) (ones_of_bit (n % 2) (omega arith))

ones_of_zero : count_ones 0 ≡ 0
unfolding count_ones
ones_of_zero = refl

abbrev bits_sum : ℕ → ℕ
bits_sum n = bit_at n 0 + (bit_at n 1 + (bit_at n 2 + (bit_at n 3 + (bit_at n 4 + (bit_at n 5 + (bit_at n 6 + bit_at n 7))))))

-- the number of ones from bit j on is that from bit j + 1 on and bit j
ones_from : (n j : ℕ) → count_ones (n / 2 ^ j) ≡ count_ones (n / 2 ^ (j + 1)) + bit_at n j
ones_from n j = ones_half (n / 2 ^ j) ∙ ap (λ m. count_ones m + bit_at n j) (shr-shr n j 1)

ones_of_byte : (n : ℕ) → n < 256 → count_ones n ≡ bits_sum n
ones_of_byte n h =
    let h0 = ones_from n 0 in let h1 = ones_from n 1 in let h2 = ones_from n 2 in let h3 = ones_from n 3 in
    let h4 = ones_from n 4 in let h5 = ones_from n 5 in let h6 = ones_from n 6 in let h7 = ones_from n 7 in
    let whole : count_ones n ≡ count_ones (n / 1) = ap count_ones (omega arith) in
    let none : count_ones (n / 256) ≡ 0 = ap count_ones (omega arith) ∙ ones_of_zero in
    summed _ _ _ _ _ _ _ _ _ _ _ _ _ _ _ _ _ _ whole h0 h1 h2 h3 h4 h5 h6 h7 none
  where
    summed : (c c0 c1 c2 c3 c4 c5 c6 c7 c8 b0 b1 b2 b3 b4 b5 b6 b7 : ℕ) → c ≡ c0 → c0 ≡ c1 + b0 → c1 ≡ c2 + b1 → c2 ≡ c3 + b2 → c3 ≡ c4 + b3
        → c4 ≡ c5 + b4 → c5 ≡ c6 + b5 → c6 ≡ c7 + b6 → c7 ≡ c8 + b7 → c8 ≡ 0
        → c ≡ b0 + (b1 + (b2 + (b3 + (b4 + (b5 + (b6 + b7))))))
    summed c c0 c1 c2 c3 c4 c5 c6 c7 c8 b0 b1 b2 b3 b4 b5 b6 b7 e e0 e1 e2 e3 e4 e5 e6 e7 z = omega arith

-- whether two bits differ, as a number
abbrev differs : ℕ → ℕ → ℕ
differs a b = cond (not (a == b)) 1 0

one_bit : (a b : ℕ) → a < 2 → b < 2 → differs a b ≡ (a + b) % 2
one_bit zero zero ha hb = refl
one_bit zero (suc zero) ha hb = refl
one_bit (suc zero) zero ha hb = refl
one_bit (suc zero) (suc zero) ha hb = refl
one_bit (suc (suc a)) b ha hb = absurd (omega arith)
one_bit a (suc (suc b)) ha hb = absurd (omega arith)

differs-le : (a b : ℕ) → differs a b ≤ 1
differs-le a b = cond_le (not (a == b))
  where
    cond_le : (t : Bool) → cond t 1 0 ≤ 1
    cond_le true = omega arith
    cond_le false = omega arith

bit_of_xor : (x y j : ℕ) → differs (bit_at x j) (bit_at y j) ≡ bit_at (bit_xor x y) j
bit_of_xor x y j = one_bit (bit_at x j) (bit_at y j) (omega arith) (omega arith) ∙ sym (bit_at_xor x y j)

pub ones_of_xor : (x y : ℕ) → x < 2 ^ 8 → y < 2 ^ 8 → (count_ones (bit_xor x y) ≡ differing_bits x y) × (differing_bits x y ≤ 8)
unfolding differing_bits
ones_of_xor x y hx hy = (
  ones_of_byte (bit_xor x y) (xor_lt 8 x y hx hy) ∙ eight _ _ _ _ _ _ _ _ _ _ _ _ _ _ _ _ (bit_of_xor x y 0) (bit_of_xor x y 1)
      (bit_of_xor x y 2) (bit_of_xor x y 3) (bit_of_xor x y 4) (bit_of_xor x y 5) (bit_of_xor x y 6) (bit_of_xor x y 7),
  few _ _ _ _ _ _ _ _ (differs-le _ _) (differs-le _ _) (differs-le _ _) (differs-le _ _) (differs-le _ _) (differs-le _ _) (differs-le _ _)
      (differs-le _ _),
)
  where
    eight : (d0 d1 d2 d3 d4 d5 d6 d7 b0 b1 b2 b3 b4 b5 b6 b7 : ℕ) → d0 ≡ b0 → d1 ≡ b1 → d2 ≡ b2 → d3 ≡ b3 → d4 ≡ b4 → d5 ≡ b5 → d6 ≡ b6
        → d7 ≡ b7
        → b0 + (b1 + (b2 + (b3 + (b4 + (b5 + (b6 + b7)))))) ≡ 0 + d0 + d1 + d2 + d3 + d4 + d5 + d6 + d7
    eight d0 d1 d2 d3 d4 d5 d6 d7 b0 b1 b2 b3 b4 b5 b6 b7 e0 e1 e2 e3 e4 e5 e6 e7 = omega arith

    few : (d0 d1 d2 d3 d4 d5 d6 d7 : ℕ) → d0 ≤ 1 → d1 ≤ 1 → d2 ≤ 1 → d3 ≤ 1 → d4 ≤ 1 → d5 ≤ 1 → d6 ≤ 1 → d7 ≤ 1
        → 0 + d0 + d1 + d2 + d3 + d4 + d5 + d6 + d7 ≤ 8
    few d0 d1 d2 d3 d4 d5 d6 d7 h0 h1 h2 h3 h4 h5 h6 h7 = omega arith

bit-same : (b : ℕ) → differs b b ≡ 0
bit-same b = let e : eqb b b ≡ true = eq-eqb b b refl in rw e refl

pub differing_bits-same : (x : ℕ) → differing_bits x x ≡ 0
unfolding differing_bits
differing_bits-same x =
    let b0 = bit-same (bit_at x 0) in let b1 = bit-same (bit_at x 1) in let b2 = bit-same (bit_at x 2) in let b3 = bit-same (bit_at x 3) in
    let b4 = bit-same (bit_at x 4) in let b5 = bit-same (bit_at x 5) in let b6 = bit-same (bit_at x 6) in let b7 = bit-same (bit_at x 7) in
    omega arith

-- equal lists have no violations
pub violations_of-same : (xs : List ℕ) → violations_of xs xs ≡ 0
violations_of-same [] = refl
violations_of-same (x ∷ xs) = ap (λ d. d + violations_of xs xs) (differing_bits-same x) ∙ ap (λ v. 0 + v) (violations_of-same xs)

-- violations with one byte more at the end
pub violations_of-push : (xs ys : List ℕ) (x y : ℕ) → length xs ≡ length ys
    → violations_of (xs ++ x ∷ []) (ys ++ y ∷ []) ≡ violations_of xs ys + differing_bits x y
violations_of-push [] [] x y e = omega arith
violations_of-push [] (b ∷ ys) x y e = absurd (omega arith)
violations_of-push (a ∷ xs) [] x y e = absurd (omega arith)
violations_of-push (a ∷ xs) (b ∷ ys) x y e = let ih = violations_of-push xs ys x y (omega arith) in omega arith

-- violations with the next byte more
pub violations_of-more : (xs ys : List ℕ) (i : ℕ) → length xs ≡ length ys → i < length xs
    → violations_of (take (i + 1) xs) (take (i + 1) ys) ≡ violations_of (take i xs) (take i ys) + differing_bits (get_or xs i 0)
    (get_or ys i 0)
violations_of-more xs ys i e h =
    ap (λ zs. violations_of zs (take (i + 1) ys)) (take_more xs i 0 h)
    ∙ ap (violations_of (take i xs ++ get_or xs i 0 ∷ [])) (take_more ys i 0 (omega arith))
    ∙ violations_of-push (take i xs) (take i ys) _ _ (omega (arith, length-take-le i xs, length-take-le i ys))
