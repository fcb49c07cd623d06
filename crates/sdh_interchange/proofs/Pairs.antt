-- The last two of each four lanes of four rows.
use Rattle.std.proofs.Common.{◌≡◌, ℕ, ◌+◌, ◌*◌, ◌-◌, ◌/◌, ◌%◌, ◌<◌, inl, inr, List, [], ◌∷◌, ◌++◌, length, get_or, map, ap, sym, ◌∙◌, arith}
use Rattle.std.specs.List.{range_with_len}
use Rattle.std.proofs.lemmas.Bool.{cases_eq, cases_lt}
use Rattle.std.proofs.lemmas.List.{get_or_append_left, get_or-append_right}
use Rattle.std.proofs.lemmas.List.FromFn.{get_or-map-range_with_len}
use Rattle.sdh_interchange.specs.Tables.{cell}

-- the last two of each four lanes of two rows
abbrev pub pairs : List ℕ → List ℕ → List ℕ
pairs a b = map (λ k. get_or (a ++ b) (4 * (k / 2) + (2 + k % 2)) 0) (range_with_len 0 16)

pub in_second : (a b : List ℕ) (j : ℕ) → length a ≡ 16 → j < 8 → get_or (pairs a b) (8 + j) 0 ≡ get_or b (4 * (j / 2) + (2 + j % 2)) 0
in_second a b j long h =
    let i : ℕ = 4 * ((8 + j) / 2) + (2 + (8 + j) % 2) in
    let e : i - 16 ≡ 4 * (j / 2) + (2 + j % 2) = omega arith in
    get_or-map-range_with_len (λ k. get_or (a ++ b) (4 * (k / 2) + (2 + k % 2)) 0) 0 16 (8 + j) (8 + j) 0 (omega arith) (omega arith)
    ∙ get_or-append_right a b 16 i 0 long (omega arith) ∙ ap (λ m. get_or b m 0) e

-- xs are the last two of each four lanes of the rows t and t + 1
pub record ArePairs (v : List (List ℕ)) (t : ℕ) (xs : List ℕ) : Type 0 where
  pub long : length xs ≡ 16
  pub first : (j : ℕ) → j < 8 → get_or xs j 0 ≡ cell v t (4 * (j / 2) + (2 + j % 2))
  pub second : (j : ℕ) → j < 8 → get_or xs (8 + j) 0 ≡ cell v (t + 1) (4 * (j / 2) + (2 + j % 2))

-- every second byte of two vectors in a row, from byte a on
abbrev pub every_second : ℕ → List ℕ → List ℕ → List ℕ
every_second a xs ys = map (λ k. get_or (xs ++ ys) (2 * k + a) 0) (range_with_len 0 16)

module _ (v : List (List ℕ)) (t a : ℕ) (xs : List ℕ) (small : a < 2) (are : ArePairs v t xs) where
  in_pairs : (j : ℕ) → j < 8 → get_or xs (2 * j + a) 0 ≡ cell v (t + j / 4) (4 * (j % 4) + (2 + a))
  in_pairs j h =
      elim (cases_lt j 4) [
        | inl low ↦ (
            let row : t ≡ t + j / 4 = omega arith in
            let lane : 4 * ((2 * j + a) / 2) + (2 + (2 * j + a) % 2) ≡ 4 * (j % 4) + (2 + a) = omega arith in
            are.first (2 * j + a) (omega arith) ∙ ap (λ m. cell v m (4 * ((2 * j + a) / 2) + (2 + (2 * j + a) % 2))) row
            ∙ ap (cell v (t + j / 4)) lane)
        | inr high ↦ (
            let i : ℕ = 2 * j + a - 8 in
            let e : 2 * j + a ≡ 8 + i = omega arith in
            let row : t + 1 ≡ t + j / 4 = omega arith in
            let lane : 4 * (i / 2) + (2 + i % 2) ≡ 4 * (j % 4) + (2 + a) = omega arith in
            ap (λ m. get_or xs m 0) e ∙ are.second i (omega arith) ∙ ap (λ m. cell v m (4 * (i / 2) + (2 + i % 2))) row
            ∙ ap (cell v (t + j / 4)) lane)
      ]

module _ (v : List (List ℕ)) (a : ℕ) (xs ys : List ℕ) (small : a < 2) (low : ArePairs v 0 xs) (high : ArePairs v 2 ys) where
  pub in_row : (j : ℕ) → j < 16 → get_or (every_second a xs ys) j 0 ≡ cell v (j / 4) (4 * (j % 4) + (2 + a))
  in_row j h =
      get_or-map-range_with_len (λ k. get_or (xs ++ ys) (2 * k + a) 0) 0 16 j j 0 h (omega arith)
      ∙ elim (cases_lt j 8) [
        | inl front ↦ (
            let e : 0 + j / 4 ≡ j / 4 = omega arith in
            get_or_append_left xs ys 0 (2 * j + a) (omega (arith, low.long)) ∙ in_pairs v 0 a xs small low j front
            ∙ ap (λ m. cell v m (4 * (j % 4) + (2 + a))) e)
        | inr back ↦ (
            let i : ℕ = j - 8 in
            let e : 2 * j + a - 16 ≡ 2 * i + a = omega arith in
            let row : 2 + i / 4 ≡ j / 4 = omega arith in
            let lane : 4 * (i % 4) + (2 + a) ≡ 4 * (j % 4) + (2 + a) = omega arith in
            get_or-append_right xs ys 16 (2 * j + a) 0 low.long (omega arith) ∙ ap (λ m. get_or ys m 0) e
            ∙ in_pairs v 2 a ys small high i (omega arith)
            ∙ ap (λ m. cell v m (4 * (i % 4) + (2 + a))) row ∙ ap (cell v (j / 4)) lane)
      ]

-- both rows
pub in_both : (v : List (List ℕ)) (xs ys : List ℕ) → ArePairs v 0 xs → ArePairs v 2 ys → (a j : ℕ) → a < 2 → j < 16
    → cell (every_second 0 xs ys ∷ every_second 1 xs ys ∷ []) a j ≡ cell v (j / 4) (4 * (j % 4) + (2 + a))
in_both v xs ys low high a j small h =
    elim (cases_eq a 0) [
      | inl e ↦ ap (λ m. cell (every_second 0 xs ys ∷ every_second 1 xs ys ∷ []) m j) e ∙ in_row v 0 xs ys (omega arith) low high j h
          ∙ ap (λ m. cell v (j / 4) (4 * (j % 4) + (2 + m))) (sym e)
      | inr other ↦ (
          let e : a ≡ 1 = omega arith in
          ap (λ m. cell (every_second 0 xs ys ∷ every_second 1 xs ys ∷ []) m j) e ∙ in_row v 1 xs ys (omega arith) low high j h
          ∙ ap (λ m. cell v (j / 4) (4 * (j % 4) + (2 + m))) (sym e))
    ]
