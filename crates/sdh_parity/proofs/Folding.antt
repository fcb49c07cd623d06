-- BIP of 48 bytes holds BIP of fewer bytes: each of its bytes is a sum of some of the 48.
use Rattle.std.proofs.Common.{◌≡◌, ◌≢◌, ℕ, zero, suc, ◌+◌, ◌*◌, ◌/◌, ◌%◌, ◌^◌, ◌<◌, true, false, List, [], ◌∷◌, length, get_or, refl, ap}
use Rattle.std.proofs.Common.{sym, ◌∙◌, arith, bit_xor, inl, inr}
use Rattle.std.specs.Prelude.{◌==◌}
use Rattle.std.specs.Int.Bits.{xor_assoc, xor_comm, xor_zero_l, xor_zero_r}
use Rattle.std.proofs.Math.Numerals.{suc-eq-add-one}
use Rattle.std.proofs.lemmas.Bool.{cases_eq, eq-eqb, ne_eqb}
use Rattle.sdh_basics.specs.Cells.{cells}
use Rattle.sdh_basics.specs.Parity.{bip8}
use Rattle.sdh_basics.proofs.ParityLaws.{bip8-nil, bip8-push, bip8-append, bip8-lt}
use Rattle.sdh_basics.proofs.CellsLaws.{cells-zero, cells-more, cells-same, cells-from}
use Rattle.sdh_parity.specs.Parity.{lane, lane_from}
use Rattle.sdh_parity.specs.Pieces.{HasLanes}

-- the BIP-8 of a list with one more byte in front
in-front : (x : ℕ) (xs : List ℕ) → x < 2 ^ 8 → bip8 (x ∷ xs) ≡ bit_xor x (bip8 xs)
in-front x xs small =
    bip8-append (x ∷ []) xs ∙ ap (λ z. bit_xor z (bip8 xs)) (bip8-push [] x small ∙ ap (λ z. bit_xor z x) bip8-nil ∙ xor_zero_l x)

pub one-more : (f : ℕ → ℕ) (c : ℕ) → f c < 2 ^ 8 → bip8 (cells f (suc c)) ≡ bit_xor (bip8 (cells f c)) (f c)
one-more f c small = ap (λ n. bip8 (cells f n)) (suc-eq-add-one c) ∙ ap bip8 (cells-more f c) ∙ bip8-push (cells f c) (f c) small

nothing : (f : ℕ → ℕ) (c : ℕ) → ((i : ℕ) → f i ≡ 0) → bip8 (cells f c) ≡ 0
nothing f zero none = ap bip8 (cells-zero f) ∙ bip8-nil
nothing f (suc c) none = let small : f c < 2 ^ 8 =
    omega (arith, none c) in one-more f c small ∙ ap (bit_xor (bip8 (cells f c))) (none c) ∙ xor_zero_r (bip8 (cells f c))
    ∙ nothing f c none

-- where x is added to one of the bytes, x is added to the parity
one-added : (f g : ℕ → ℕ) (x i c : ℕ) → i < c → f i ≡ bit_xor x (g i) → ((j : ℕ) → j ≢ i → f j ≡ g j) → ((j : ℕ) → f j < 2 ^ 8)
    → ((j : ℕ) → g j < 2 ^ 8) → bip8 (cells f c) ≡ bit_xor x (bip8 (cells g c))
one-added f g x i zero h here other sf sg = absurd (omega arith)
one-added f g x i (suc c) h here other sf sg =
    one-more f c (sf c)
    ∙ elim (cases_eq i c) [
      | inl e ↦
          ap (λ z. bit_xor z (f c)) (ap bip8 (cells-same f g c 0 (λ j lt. other j (λ (same : j ≡ i). omega arith))))
          ∙ ap (bit_xor (bip8 (cells g c))) (ap f (sym e) ∙ here ∙ ap (λ k. bit_xor x (g k)) e)
          ∙ sym (xor_assoc (bip8 (cells g c)) x (g c)) ∙ ap (λ z. bit_xor z (g c)) (xor_comm (bip8 (cells g c)) x)
          ∙ xor_assoc x (bip8 (cells g c)) (g c)
      | inr away ↦
          ap (λ z. bit_xor z (f c)) (one-added f g x i c (omega arith) here other sf sg)
          ∙ ap (bit_xor (bit_xor x (bip8 (cells g c)))) (other c (λ (same : c ≡ i). away (sym same)))
          ∙ xor_assoc x (bip8 (cells g c)) (g c)
    ]
    ∙ ap (bit_xor x) (sym (one-more g c (sg c)))

-- lanes modulo w = m c: each lane modulo m consists of c of them
module _ (m c w : ℕ) (divides : (k : ℕ) → k % w % m ≡ k % m) (few : (k : ℕ) → k % w / m < c)
    (whole : (k : ℕ) → k % w ≡ k % m + m * (k % w / m)) (apart : (a b : ℕ) → m * a ≡ m * b → a ≡ b)
    (behind : (j i : ℕ) → j < m → (j + m * i) % m ≡ j) where
  abbrev sum : ℕ → ℕ → List ℕ → ℕ → ℕ
  sum j k xs i = bip8 (lane_from w (j + m * i) k xs)

  hit : (j k x : ℕ) (xs : List ℕ) (i : ℕ) → k % w ≡ j + m * i → x < 2 ^ 8 → sum j k (x ∷ xs) i ≡ bit_xor x (sum j (k + 1) xs i)
  hit j k x xs i at small = let here : ((k % w) == (j + m * i)) ≡ true =
      eq-eqb _ _ at in rw here (in-front x (lane_from w (j + m * i) (k + 1) xs) small)

  miss : (j k x : ℕ) (xs : List ℕ) (i : ℕ) → k % w ≢ j + m * i → sum j k (x ∷ xs) i ≡ sum j (k + 1) xs i
  miss j k x xs i away = let none : ((k % w) == (j + m * i)) ≡ false = ne_eqb _ _ away in rw none refl

  pub folded : (j k : ℕ) (xs : List ℕ) → j < m → ((i : ℕ) → get_or xs i 0 < 2 ^ 8)
      → bip8 (lane_from m j k xs) ≡ bip8 (cells (λ i. bip8 (lane_from w (j + m * i) k xs)) c)
  folded j k [] h small = bip8-nil ∙ sym (nothing (sum j k []) c (λ i. bip8-nil))
  folded j k (x ∷ xs) h small =
      let byte : x < 2 ^ 8 = small 0 in
      let rest = folded j (k + 1) xs h (λ i. small (suc i)) in
      elim (cases_eq (k % m) j) [
        | inl e ↦ (
            let here : ((k % m) == j) ≡ true = eq-eqb _ _ e in
            let i : ℕ = k % w / m in
            let at : k % w ≡ j + m * i = whole k ∙ ap (λ z. z + m * i) e in
            rw here (in-front x (lane_from m j (k + 1) xs) byte ∙ ap (bit_xor x) rest
            ∙ sym (one-added (sum j k (x ∷ xs)) (sum j (k + 1) xs) x i c (few k) (hit j k x xs i at byte)
            (λ o away. miss j k x xs o (λ same. away (apart o i (let two : j + m * o ≡ j + m * i = sym same ∙ at in omega arith))))
            (λ o. bip8-lt _) (λ o. bip8-lt _))))
        | inr other ↦ (
            let none : ((k % m) == j) ≡ false = ne_eqb _ _ other in
            rw none (rest ∙ sym (ap bip8 (cells-same (sum j k (x ∷ xs)) (sum j (k + 1) xs) c 0
            (λ o lt. miss j k x xs o (λ same. other (sym (divides k) ∙ ap (λ z. z % m) same ∙ behind j o h)))))))
      ]

-- BIP of 12 bytes from BIP of 48 bytes
fold12 : (j : ℕ) (xs : List ℕ) → j < 12 → ((i : ℕ) → get_or xs i 0 < 2 ^ 8)
    → bip8 (lane 12 j xs) ≡ bip8 (cells (λ i. bip8 (lane 48 (j + 12 * i) xs)) 4)
fold12 j xs h small =
    folded 12 4 48 (λ k. omega arith) (λ k. omega arith) (λ k. omega arith) (λ a b e. omega arith) (λ a b g. omega arith) j 0 xs h small

-- BIP-8 from BIP of 48 bytes
fold1 : (xs : List ℕ) → ((i : ℕ) → get_or xs i 0 < 2 ^ 8) → bip8 (lane 1 0 xs) ≡ bip8 (cells (λ i. bip8 (lane 48 (0 + 1 * i) xs)) 48)
fold1 xs small =
    folded 1 48 48 (λ k. omega arith) (λ k. omega arith) (λ k. omega arith) (λ a b e. omega arith) (λ a b g. omega arith) 0 0 xs
    (omega arith) small

all-in-one : (k : ℕ) (xs : List ℕ) → lane_from 1 0 k xs ≡ xs
all-in-one k [] = refl
all-in-one k (x ∷ xs) = let here : ((k % 1) == 0) ≡ true = eq-eqb _ _ (omega arith) in rw here (ap (λ zs. x ∷ zs) (all-in-one (k + 1) xs))

pub sum-of-lanes : (xs lanes : List ℕ) → ((i : ℕ) → get_or xs i 0 < 2 ^ 8) → length lanes ≡ 48 → HasLanes 48 xs lanes → bip8 lanes ≡ bip8 xs
sum-of-lanes xs lanes small long has =
    sym (ap bip8 (sym (all-in-one 0 xs)) ∙ fold1 xs small
    ∙ ap bip8 (cells-from (λ i. bip8 (lane 48 (0 + 1 * i) xs)) 48 0 lanes long
    (λ k h. ap (λ i. bip8 (lane 48 i xs)) (omega arith) ∙ sym (has k h))))

-- one of 12 sums from four of 48
pub four-lanes : (j : ℕ) (xs lanes : List ℕ) → j < 12 → ((i : ℕ) → get_or xs i 0 < 2 ^ 8) → HasLanes 48 xs lanes
    → bit_xor (bit_xor (bit_xor (get_or lanes j 0) (get_or lanes (12 + j) 0)) (get_or lanes (24 + j) 0)) (get_or lanes (36 + j) 0)
    ≡ bip8 (lane 12 j xs)
four-lanes j xs lanes h small has =
    let f : ℕ → ℕ = λ i. bip8 (lane 48 (j + 12 * i) xs) in
    let is : (i k : ℕ) → k ≡ j + 12 * i → k < 48 → get_or lanes k 0 ≡ f i = λ i k e lt. has k lt ∙ ap (λ n. bip8 (lane 48 n xs)) e in
    sym (fold12 j xs h small ∙ one-more f 3 (bip8-lt _) ∙ ap (λ z. bit_xor z (f 3))
    (one-more f 2 (bip8-lt _) ∙ ap (λ z. bit_xor z (f 2))
    (one-more f 1 (bip8-lt _) ∙ ap (λ z. bit_xor z (f 1))
    (one-more f 0 (bip8-lt _) ∙ ap (λ z. bit_xor z (f 0)) (ap bip8 (cells-zero f) ∙ bip8-nil) ∙ xor_zero_l (f 0))))
    ∙ four (f 0) (f 1) (f 2) (f 3) _ _ _ _ (sym (is 0 j (omega arith) (omega arith))) (sym (is 1 (12 + j) (omega arith) (omega arith)))
    (sym (is 2 (24 + j) (omega arith) (omega arith))) (sym (is 3 (36 + j) (omega arith) (omega arith))))
  where
    four : (a b c d x y z w : ℕ) → a ≡ x → b ≡ y → c ≡ z → d ≡ w → bit_xor (bit_xor (bit_xor a b) c) d ≡ bit_xor (bit_xor (bit_xor x y) z) w
    four a b c d x y z w p q r s = cc
