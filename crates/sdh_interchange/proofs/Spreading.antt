-- Two rows whose bytes become the first two of each four lanes.
use Rattle.std.proofs.Common.{◌≡◌, ℕ, ◌+◌, ◌*◌, ◌/◌, ◌%◌, ◌<◌, ◌≤◌, inl, inr, List, [], ◌∷◌, ◌++◌, length, get_or, map, ap, ◌∙◌, arith}
use Rattle.std.specs.List.{range_with_len}
use Rattle.std.proofs.lemmas.Bool.{cases_eq}
use Rattle.std.proofs.lemmas.List.{get_or_append_left}
use Rattle.std.proofs.lemmas.List.FromFn.{get_or-map-range_with_len}
use Rattle.sdh_interchange.specs.Tables.{cell}
use Rattle.sdh_interchange.proofs.Turning.{by_turns, at_turn}

-- eight lanes from lane s on, pair by pair, each pair twice
abbrev pub twice : ℕ → List ℕ → List ℕ
twice s v = map (λ k. get_or (v ++ v) (s + (2 * (k / 4) + k % 2)) 0) (range_with_len 0 16)

pub in_twice : (s : ℕ) (v : List ℕ) (j : ℕ) → length v ≡ 16 → s ≤ 8 → j < 16
    → get_or (twice s v) j 0 ≡ get_or v (s + (2 * (j / 4) + j % 2)) 0
in_twice s v j long few h =
    get_or-map-range_with_len (λ k. get_or (v ++ v) (s + (2 * (k / 4) + k % 2)) 0) 0 16 j j 0 h (omega arith)
    ∙ get_or_append_left v v 0 (s + (2 * (j / 4) + j % 2)) (omega arith)

module _ (v : List (List ℕ)) (long : (i : ℕ) → i < 2 → length (get_or v i []) ≡ 16) where
  -- a byte of the result: rows 0 and 1 are interleaved from lane s on, and of these bytes eight are taken from byte t
  -- on
  in_turns : (s t k j : ℕ) (xs : List ℕ) → s ≤ 8 → t ≤ 8 → s + t / 2 ≡ 4 * k → t % 2 ≡ 0 → j < 16 → j % 4 < 2
      → get_or xs j 0 ≡ get_or (by_turns s (get_or v 0 []) (get_or v 1 [])) (t + (2 * (j / 4) + j % 2)) 0
      → get_or xs j 0 ≡ cell v (j % 4) (4 * k + j / 4)
  in_turns s t k j xs few half place even h lane is =
      let m : ℕ = t + (2 * (j / 4) + j % 2) in
      let e : s + m / 2 ≡ 4 * k + j / 4 = omega arith in
      is ∙ at_turn v 0 1 (j % 4) s m (long 0 (omega arith)) few (omega arith) (λ p. omega arith) (λ p. omega arith) ∙ ap (cell v (j % 4)) e

  module _ (a b c d : List ℕ)
      (low : (j : ℕ) → j < 16 → get_or a j 0 ≡ get_or (by_turns 0 (get_or v 0 []) (get_or v 1 [])) (0 + (2 * (j / 4) + j % 2)) 0)
      (low_more : (j : ℕ) → j < 16 → get_or b j 0 ≡ get_or (by_turns 0 (get_or v 0 []) (get_or v 1 [])) (8 + (2 * (j / 4) + j % 2)) 0)
      (high : (j : ℕ) → j < 16 → get_or c j 0 ≡ get_or (by_turns 8 (get_or v 0 []) (get_or v 1 [])) (0 + (2 * (j / 4) + j % 2)) 0)
      (high_more : (j : ℕ) → j < 16 → get_or d j 0 ≡ get_or (by_turns 8 (get_or v 0 []) (get_or v 1 []))
      (8 + (2 * (j / 4) + j % 2)) 0) where
    abbrev pub rows : List (List ℕ)
    rows = a ∷ b ∷ c ∷ d ∷ []

    pub spread-each : (k j : ℕ) → k < 4 → j < 16 → j % 4 < 2 → cell rows k j ≡ cell v (j % 4) (4 * k + j / 4)
    spread-each k j h small lane =
        elim (cases_eq k 0) [
          | inl e ↦ ap (λ m. cell rows m j) e ∙ in_turns 0 0 k j a (omega arith) (omega arith) (omega arith) (omega arith) small lane
              (low j small)
          | inr not0 ↦ elim (cases_eq k 1) [
            | inl e ↦ ap (λ m. cell rows m j) e ∙ in_turns 0 8 k j b (omega arith) (omega arith) (omega arith) (omega arith) small lane
                (low_more j small)
            | inr not1 ↦ elim (cases_eq k 2) [
              | inl e ↦ ap (λ m. cell rows m j) e ∙ in_turns 8 0 k j c (omega arith) (omega arith) (omega arith) (omega arith) small lane
                  (high j small)
              | inr not2 ↦ (let e : k ≡ 3 = omega arith in ap (λ m. cell rows m j) e
                  ∙ in_turns 8 8 k j d (omega arith) (omega arith) (omega arith) (omega arith) small lane (high_more j small))
            ]
          ]
        ]
