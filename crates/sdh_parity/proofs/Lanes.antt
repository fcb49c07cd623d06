-- The parities of lanes by strides, part by part.
use Rattle.std.proofs.Common.{◌≡◌, ℕ, zero, suc, ◌+◌, ◌*◌, ◌-◌, ◌%◌, ◌^◌, ◌<◌, ◌≤◌, Bool, true, false, List, [], ◌∷◌, ◌++◌, length, take}
use Rattle.std.proofs.Common.{drop, get_or, refl, ap, sym, ◌∙◌, arith, bit_xor, inl, inr}
use Rattle.std.specs.Prelude.{◌==◌, if◌then◌else◌}
use Rattle.std.specs.Simd.Lanes.{zip2, chunk}
use Rattle.std.proofs.Math.Nat.{mod-eq_of_lt, mul-add-mod_self_right}
use Rattle.std.proofs.Math.Seq.{take-add}
use Rattle.std.proofs.lemmas.Bool.{cases_eq, eq-eqb, ne_eqb}
use Rattle.std.proofs.lemmas.List.{length-take-le, length-take, length-drop, get_or-take, get_or-drop}
use Rattle.std.proofs.lemmas.Simd.{length-zip2, get_or-zip2, length-chunk, get_or-chunk}
use Rattle.sdh_basics.specs.Parity.{bip8}
use Rattle.sdh_basics.proofs.ParityLaws.{bip8-nil, bip8-push}
use Rattle.sdh_basics.proofs.CellsLaws.{cells-zero, cells-more}
use Rattle.sdh_parity.specs.Parity.{lane_from, lane, every}

-- ---- lanes

pushed_in : (b : Bool) (x : ℕ) (xs ys : List ℕ) → (if b then x ∷ (xs ++ ys) else xs ++ ys) ≡ (if b then x ∷ xs else xs) ++ ys
pushed_in true x xs ys = refl
pushed_in false x xs ys = refl

pub lane_from-append : (m i k : ℕ) (xs ys : List ℕ) → lane_from m i k (xs ++ ys) ≡ lane_from m i k xs ++ lane_from m i (k + length xs) ys
lane_from-append m i k [] ys = ap (λ n. lane_from m i n ys) (omega arith)
lane_from-append m i k (x ∷ xs) ys =
    ap (λ zs. if (k % m) == i then x ∷ zs else zs) (lane_from-append m i (k + 1) xs ys
    ∙ ap (λ n. lane_from m i (k + 1) xs ++ lane_from m i n ys) (omega arith))
    ∙ pushed_in ((k % m) == i) x (lane_from m i (k + 1) xs) (lane_from m i (k + suc (length xs)) ys)

-- counting from a whole number of rows is counting from 0
lane_from-rows : (m i c k : ℕ) (ys : List ℕ) → lane_from m i (c * m + k) ys ≡ lane_from m i k ys
lane_from-rows m i c k [] = refl
lane_from-rows m i c k (y ∷ ys) =
    let e : (c * m + k) % m ≡ k % m = mul-add-mod_self_right c m k in
    ap (λ r. if r == i then y ∷ lane_from m i (c * m + k + 1) ys else lane_from m i (c * m + k + 1) ys) e
    ∙ ap (λ zs. if (k % m) == i then y ∷ zs else zs) (ap (λ n. lane_from m i n ys) (omega arith) ∙ lane_from-rows m i c (k + 1) ys)

pub lane-append : (m i c : ℕ) (xs ys : List ℕ) → length xs ≡ c * m → lane m i (xs ++ ys) ≡ lane m i xs ++ lane m i ys
lane-append m i c xs ys e =
    lane_from-append m i 0 xs ys ∙ ap (λ n. lane_from m i 0 xs ++ lane_from m i n ys) (omega arith)
    ∙ ap (λ zs. lane_from m i 0 xs ++ zs) (lane_from-rows m i c 0 ys)

-- in one row no byte of the lane is left after it
row_after : (m i k : ℕ) (ys : List ℕ) → i < k → k + length ys ≤ m → lane_from m i k ys ≡ []
row_after m i k [] h room = refl
row_after m i k (y ∷ ys) h room =
    let at : k < m = omega arith in
    let here : k % m ≡ k = mod-eq_of_lt at in
    let away : ((k % m) == i) ≡ false = ne_eqb _ _ (λ (e : k % m ≡ i). omega arith) in
    rw away (row_after m i (k + 1) ys (omega arith) (omega arith))

-- and one byte before
row_before : (m i k : ℕ) (ys : List ℕ) → k ≤ i → i < k + length ys → k + length ys ≤ m → lane_from m i k ys ≡ get_or ys (i - k) 0 ∷ []
row_before m i k [] low high room = absurd (omega arith)
row_before m i k (y ∷ ys) low high room =
    let at : k < m = omega arith in
    let here : k % m ≡ k = mod-eq_of_lt at in
    elim (cases_eq k i) [
      | inl same ↦ (
          let hit : ((k % m) == i) ≡ true = eq-eqb _ _ (here ∙ same) in
          let first : 0 ≡ i - k = omega arith in
          rw hit (ap (λ zs. y ∷ zs) (row_after m i (k + 1) ys (omega arith) (omega arith)) ∙ ap (λ j. get_or (y ∷ ys) j 0 ∷ []) first))
      | inr other ↦ (
          let away : ((k % m) == i) ≡ false = ne_eqb _ _ (λ (e : k % m ≡ i). other (sym here ∙ e)) in
          let later : suc (i - (k + 1)) ≡ i - k = omega arith in
          rw away (row_before m i (k + 1) ys (omega arith) (omega arith) (omega arith) ∙ ap (λ j. get_or (y ∷ ys) j 0 ∷ []) later))
    ]

-- fewer bytes than one row: one in each of the first lanes, and none in the others
pub lane-short : (m i : ℕ) (ys : List ℕ) → i < length ys → length ys ≤ m → lane m i ys ≡ get_or ys i 0 ∷ []
lane-short m i ys h room = row_before m i 0 ys (omega arith) (omega arith) (omega arith) ∙ ap (λ j. get_or ys j 0 ∷ []) (omega arith)

row_past : (m i k : ℕ) (ys : List ℕ) → k + length ys ≤ i → i < m → lane_from m i k ys ≡ []
row_past m i k [] past h = refl
row_past m i k (y ∷ ys) past h =
    let at : k < m = omega arith in
    let here : k % m ≡ k = mod-eq_of_lt at in
    let away : ((k % m) == i) ≡ false = ne_eqb _ _ (λ (e : k % m ≡ i). omega arith) in
    rw away (row_past m i (k + 1) ys (omega arith) h)

pub lane-past : (m i : ℕ) (ys : List ℕ) → length ys ≤ i → i < m → lane m i ys ≡ []
lane-past m i ys past h = row_past m i 0 ys (omega arith) h

lane-row : (m i : ℕ) (ys : List ℕ) → i < m → length ys ≡ m → lane m i ys ≡ get_or ys i 0 ∷ []
lane-row m i ys h e = row_before m i 0 ys (omega arith) (omega arith) (omega arith) ∙ ap (λ j. get_or ys j 0 ∷ []) (omega arith)

pub lane-rows : (m i : ℕ) (xs : List ℕ) (c : ℕ) → i < m → c * m ≤ length xs → lane m i (take (c * m) xs) ≡ every i m c xs
lane-rows m i xs zero h room = let none : zero * m ≡ 0 =
    omega arith in ap (λ n. lane m i (take n xs)) none ∙ sym (cells-zero (λ r. get_or xs (i + r * m) 0))
lane-rows m i xs (suc c) h room =
    let size : suc c * m ≡ c * m + m = omega arith in
    let row : List ℕ = take m (drop (c * m) xs) in
    let spot : c * m + i ≡ i + c * m = omega arith in
    let last : c + 1 ≡ suc c = omega arith in
    let long : length row ≡ m = length_part xs (c * m) m (omega arith) in
    ap (λ n. lane m i (take n xs)) size ∙ ap (lane m i) (take-add (c * m) m xs)
    ∙ lane-append m i c (take (c * m) xs) row (length-take-le (c * m) xs (omega arith))
    ∙ ap (λ zs. zs ++ lane m i row) (lane-rows m i xs c h (omega arith))
    ∙ ap (λ zs. every i m c xs ++ zs) (lane-row m i row h long
    ∙ ap (λ z. z ∷ []) (get_or-take m (drop (c * m) xs) i 0 h ∙ get_or-drop (c * m) xs i 0 ∙ ap (λ n. get_or xs n 0) spot))
    ∙ sym (cells-more (λ r. get_or xs (i + r * m) 0) c) ∙ ap (λ n. every i m n xs) last
  where
    length_part : (xs : List ℕ) (a n : ℕ) → a + n ≤ length xs → length (take n (drop a xs)) ≡ n
    length_part xs a n h = omega (arith, length-take n (drop a xs), length-drop a xs)

-- ---- vectors of sixteen lanes

pub next-length : (s a : List ℕ) (i : ℕ) → i + 16 ≤ length s → length a ≡ 16 → length (zip2 bit_xor a (chunk i 16 s)) ≡ 16
next-length s a i room e = length-zip2 bit_xor a (chunk i 16 s) (e ∙ sym (length-chunk i 16 s room)) ∙ e

-- one row more
pub next-lane : (s a : List ℕ) (at stride r : ℕ) → at + r * stride + 16 ≤ length s → length a ≡ 16 → ((k : ℕ) → get_or s k 0 < 2 ^ 8)
    → ((k : ℕ) → k < 16 → get_or a k 0 ≡ bip8 (every (at + k) stride r s))
    → (k : ℕ) → k < 16 → get_or (zip2 bit_xor a (chunk (at + r * stride) 16 s)) k 0 ≡ bip8 (every (at + k) stride (r + 1) s)
next-lane s a at stride r room e small each k h =
    let la : k < length a = omega arith in
    let lb : k < length (chunk (at + r * stride) 16 s) = omega (arith, length-chunk (at + r * stride) 16 s room) in
    get_or-zip2 bit_xor a (chunk (at + r * stride) 16 s) k 0 0 0 la lb
    ∙ ap (λ z. bit_xor z (get_or (chunk (at + r * stride) 16 s) k 0)) (each k h)
    ∙ ap (bit_xor (bip8 (every (at + k) stride r s))) (get_or-chunk (at + r * stride) 16 s k 0 h ∙ ap (λ i. get_or s i 0) (omega arith))
    ∙ sym (bip8-push (every (at + k) stride r s) (get_or s (at + k + r * stride) 0) (small (at + k + r * stride)))
    ∙ ap bip8 (sym (cells-more (λ i. get_or s (at + k + i * stride) 0) r))

pub first-lane : (s : List ℕ) (at stride k : ℕ) → 0 ≡ bip8 (every (at + k) stride 0 s)
first-lane s at stride k = sym (ap bip8 (cells-zero (λ i. get_or s (at + k + i * stride) 0)) ∙ bip8-nil)
