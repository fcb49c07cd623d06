-- Vectors whose lanes change places.
use Rattle.std.proofs.Common.{◌≡◌, ℕ, ◌+◌, ◌*◌, ◌-◌, ◌/◌, ◌%◌, ◌<◌, ◌≤◌, ◌⊎◌, inl, inr, List, [], ◌∷◌, ◌++◌, length, get_or, set, map, w8}
use Rattle.std.proofs.Common.{refl, ap, sym, ◌∙◌, arith}
use Rattle.std.specs.List.{range_with_len}
use Rattle.std.specs.Simd.Lanes.{chunk}
use Rattle.sdh_interchange.proofs.Vectors.{reads}
use Rattle.std.proofs.lemmas.Simd.{length-chunk, get_or-chunk, swz_l, length-swz_l}
use Rattle.std.proofs.lemmas.Bool.{cases_eq, cases_lt}
use Rattle.std.proofs.lemmas.List.{length-set, get_or-set_same, get_or-set_other, get_or_append_left, get_or-append_right}
use Rattle.std.proofs.lemmas.List.FromFn.{get_or-map-range_with_len}
use Rattle.sdh_interchange.specs.Tables.{cell}

-- the lanes of two vectors interleaved, from lane s of each on
abbrev pub by_turns : ℕ → List ℕ → List ℕ → List ℕ
by_turns s a b = map (λ k. get_or (a ++ b) (s + k / 2 + 16 * (k % 2)) 0) (range_with_len 0 16)

in_either : (v : List (List ℕ)) (i d t x p : ℕ) → length (get_or v i []) ≡ 16 → x < 16 → p < 2 → (p ≡ 0 → i ≡ t) → (p ≡ 1 → i + d ≡ t)
    → get_or (get_or v i [] ++ get_or v (i + d) []) (x + 16 * p) 0 ≡ cell v t x
in_either v i d t x p long h two low high =
    elim (cases_eq p 0) [
      | inl zero ↦ (
          let e : x + 16 * p ≡ x = omega arith in
          ap (λ k. get_or (get_or v i [] ++ get_or v (i + d) []) k 0) e
          ∙ get_or_append_left (get_or v i []) (get_or v (i + d) []) 0 x (omega arith)
          ∙ ap (λ k. get_or (get_or v k []) x 0) (low zero))
      | inr other ↦ (
          let e : x + 16 * p - 16 ≡ x = omega arith in
          get_or-append_right (get_or v i []) (get_or v (i + d) []) 16 (x + 16 * p) 0 long (omega arith)
          ∙ ap (λ k. get_or (get_or v (i + d) []) k 0) e ∙ ap (λ k. get_or (get_or v k []) x 0) (high (omega arith)))
    ]

pub at_turn : (v : List (List ℕ)) (i d t s j : ℕ) → length (get_or v i []) ≡ 16 → s ≤ 8 → j < 16 → (j % 2 ≡ 0 → i ≡ t)
    → (j % 2 ≡ 1 → i + d ≡ t) → get_or (by_turns s (get_or v i []) (get_or v (i + d) [])) j 0 ≡ cell v t (s + j / 2)
at_turn v i d t s j long few h low high =
    get_or-map-range_with_len (λ k. get_or (get_or v i [] ++ get_or v (i + d) []) (s + k / 2 + 16 * (k % 2)) 0) 0 16 j j 0 h (omega arith)
    ∙ in_either v i d t (s + j / 2) (j % 2) long (omega arith) (omega arith) low high

-- four rows
pub turned-four : (v : List (List ℕ)) → ((k : ℕ) → k < 4 → length (get_or v k []) ≡ 16) → (i j : ℕ) → i < 4 → j < 16
    → cell (by_turns 0 (get_or v 0 []) (get_or v 2 []) ∷ by_turns 8 (get_or v 0 []) (get_or v 2 [])
    ∷ by_turns 0 (get_or v 1 []) (get_or v 3 []) ∷ by_turns 8 (get_or v 1 []) (get_or v 3 []) ∷ []) i j
    ≡ cell v (2 * (j % 2) + i / 2) (8 * (i % 2) + j / 2)
turned-four v long i j h small =
    let rows : List (List ℕ) =
    by_turns 0 (get_or v 0 []) (get_or v 2 []) ∷ by_turns 8 (get_or v 0 []) (get_or v 2 []) ∷ by_turns 0 (get_or v 1 []) (get_or v 3 [])
    ∷ by_turns 8 (get_or v 1 []) (get_or v 3 []) ∷ [] in
    elim (cases_eq i 0) [
      | inl e ↦ ap (λ k. cell rows k j) e ∙ at_turn v 0 2 (2 * (j % 2) + i / 2) 0 j (long 0 (omega arith)) (omega arith) small
          (λ z. omega arith) (λ z. omega arith) ∙ ap (cell v (2 * (j % 2) + i / 2)) (omega arith)
      | inr not0 ↦ elim (cases_eq i 1) [
        | inl e ↦ ap (λ k. cell rows k j) e ∙ at_turn v 0 2 (2 * (j % 2) + i / 2) 8 j (long 0 (omega arith)) (omega arith) small
            (λ z. omega arith) (λ z. omega arith) ∙ ap (cell v (2 * (j % 2) + i / 2)) (omega arith)
        | inr not1 ↦ elim (cases_eq i 2) [
          | inl e ↦ ap (λ k. cell rows k j) e ∙ at_turn v 1 2 (2 * (j % 2) + i / 2) 0 j (long 1 (omega arith)) (omega arith) small
              (λ z. omega arith) (λ z. omega arith) ∙ ap (cell v (2 * (j % 2) + i / 2)) (omega arith)
          | inr not2 ↦ (
              let e : i ≡ 3 = omega arith in
              ap (λ k. cell rows k j) e ∙ at_turn v 1 2 (2 * (j % 2) + i / 2) 8 j (long 1 (omega arith)) (omega arith) small
              (λ z. omega arith) (λ z. omega arith) ∙ ap (cell v (2 * (j % 2) + i / 2)) (omega arith))
        ]
      ]
    ]

-- one row more, of sixteen bytes of one of several lists
module _ (n : ℕ) (rows own : List (List ℕ)) (v : List ℕ) (a from : ℕ) (many : length rows ≡ n) (small : a < n) (long_v : length v ≡ 16)
    (each : (k : ℕ) → k < 16 → get_or v k 0 ≡ cell own a (from + k)) where
  pub put-rows : length (set rows a v) ≡ n
  put-rows = length-set rows a _ ∙ many

  put-here : get_or (set rows a v) a [] ≡ v
  put-here = get_or-set_same rows a _ [] (omega arith)

  pub put-lanes : ((i : ℕ) → i < n → length (get_or rows i []) ≡ 16) → (i : ℕ) → i < n → length (get_or (set rows a v) i []) ≡ 16
  put-lanes long i h =
      elim (cases_eq i a) [
        | inl same ↦ ap (λ k. length (get_or (set rows a v) k [])) same ∙ ap length put-here ∙ long_v
        | inr other ↦ ap length (get_or-set_other rows a i _ [] other) ∙ long i h
      ]

  pub put-done : ((i k : ℕ) → i < a → k < 16 → cell rows i k ≡ cell own i (from + k)) → (i k : ℕ) → i < a + 1 → k < 16
      → cell (set rows a v) i k ≡ cell own i (from + k)
  put-done done i k h lt =
      elim (cases_eq i a) [
        | inl same ↦ ap (λ m. cell (set rows a v) m k) same ∙ ap (λ l. get_or l k 0) put-here ∙ each k lt
            ∙ ap (λ m. cell own m (from + k)) (sym same)
        | inr other ↦ ap (λ l. get_or l k 0) (get_or-set_other rows a i _ [] other) ∙ done i k (omega arith) lt
      ]

-- two more of 2 d rows
module _ (d : ℕ) (v out : List (List ℕ)) (i : ℕ) (h : i < d) (lanes : (k : ℕ) → k < 2 * d → length (get_or v k []) ≡ 16)
    (rows : length out ≡ 2 * d) where
  abbrev pub more : List (List ℕ)
  more =
      set (set out (2 * i) (by_turns 0 (get_or v i []) (get_or v (i + d) []))) (2 * i + 1)
      (by_turns 8 (get_or v i []) (get_or v (i + d) []))

  pub more-rows : length more ≡ 2 * d
  more-rows =
      length-set (set out (2 * i) (by_turns 0 (get_or v i []) (get_or v (i + d) []))) (2 * i + 1) _ ∙ length-set out (2 * i) _ ∙ rows

  first_long : length (set out (2 * i) (by_turns 0 (get_or v i []) (get_or v (i + d) []))) ≡ 2 * d
  first_long = length-set out (2 * i) _ ∙ rows

  more-high : get_or more (2 * i + 1) [] ≡ by_turns 8 (get_or v i []) (get_or v (i + d) [])
  more-high = get_or-set_same _ (2 * i + 1) _ [] (omega (arith, first_long))

  more-low : get_or more (2 * i) [] ≡ by_turns 0 (get_or v i []) (get_or v (i + d) [])
  more-low = get_or-set_other _ (2 * i + 1) (2 * i) _ [] (λ e. omega arith) ∙ get_or-set_same out (2 * i) _ [] (omega arith)

  more-other : (k : ℕ) → (k < 2 * i) ⊎ (2 * i + 2 ≤ k) → get_or more k [] ≡ get_or out k []
  more-other k (inl away) =
      get_or-set_other _ (2 * i + 1) k _ [] (λ e. omega arith) ∙ get_or-set_other out (2 * i) k _ [] (λ e. omega arith)
  more-other k (inr away) =
      get_or-set_other _ (2 * i + 1) k _ [] (λ e. omega arith) ∙ get_or-set_other out (2 * i) k _ [] (λ e. omega arith)

  pub more-lanes : ((k : ℕ) → k < 2 * d → length (get_or out k []) ≡ 16) → (k : ℕ) → k < 2 * d → length (get_or more k []) ≡ 16
  more-lanes long k lt =
      elim (cases_lt k (2 * i)) [
        | inl below ↦ ap length (more-other k (inl below)) ∙ long k lt
        | inr above ↦ elim (cases_eq k (2 * i)) [
          | inl low ↦ ap (λ m. length (get_or more m [])) low ∙ ap length more-low
          | inr not_low ↦ elim (cases_eq k (2 * i + 1)) [
            | inl high ↦ ap (λ m. length (get_or more m [])) high ∙ ap length more-high
            | inr not_high ↦ ap length (more-other k (inr (omega arith))) ∙ long k lt
          ]
        ]
      ]

  even_row : (p : ℕ) → p ≡ 0 → i ≡ d * p + i
  even_row p z = let e : d * 0 + i ≡ i = omega arith in sym (ap (λ q. d * q + i) z ∙ e)

  odd_row : (p : ℕ) → p ≡ 1 → i + d ≡ d * p + i
  odd_row p z = let e : d * 1 + i ≡ i + d = omega arith in sym (ap (λ q. d * q + i) z ∙ e)

  pub more-done : ((k j : ℕ) → k < 2 * i → j < 16 → cell out k j ≡ cell v (d * (j % 2) + k / 2) (8 * (k % 2) + j / 2))
      → (k j : ℕ) → k < 2 * (i + 1) → j < 16 → cell more k j ≡ cell v (d * (j % 2) + k / 2) (8 * (k % 2) + j / 2)
  more-done done k j lt small =
      elim (cases_lt k (2 * i)) [
        | inl below ↦ ap (λ l. get_or l j 0) (more-other k (inl below)) ∙ done k j below small
        | inr above ↦ elim (cases_eq k (2 * i)) [
          | inl low ↦ (
              let a : i ≡ k / 2 = omega arith in
              let b : 0 + j / 2 ≡ 8 * (k % 2) + j / 2 = omega arith in
              ap (λ m. cell more m j) low ∙ ap (λ l. get_or l j 0) more-low
              ∙ at_turn v i d (d * (j % 2) + i) 0 j (lanes i (omega arith)) (omega arith) small (even_row (j % 2)) (odd_row (j % 2))
              ∙ ap (λ m. cell v (d * (j % 2) + m) (0 + j / 2)) a ∙ ap (cell v (d * (j % 2) + k / 2)) b)
          | inr not_low ↦ (
              let high : k ≡ 2 * i + 1 = omega arith in
              let a : i ≡ k / 2 = omega arith in
              let b : 8 + j / 2 ≡ 8 * (k % 2) + j / 2 = omega arith in
              ap (λ m. cell more m j) high ∙ ap (λ l. get_or l j 0) more-high
              ∙ at_turn v i d (d * (j % 2) + i) 8 j (lanes i (omega arith)) (omega arith) small (even_row (j % 2)) (odd_row (j % 2))
              ∙ ap (λ m. cell v (d * (j % 2) + m) (8 + j / 2)) a ∙ ap (cell v (d * (j % 2) + k / 2)) b)
        ]
      ]

-- the numbers of the last eight lanes, twice
abbrev pub last : List ℕ
last = 8 ∷ 9 ∷ 10 ∷ 11 ∷ 12 ∷ 13 ∷ 14 ∷ 15 ∷ 8 ∷ 9 ∷ 10 ∷ 11 ∷ 12 ∷ 13 ∷ 14 ∷ 15 ∷ []

at_last : (a : ℕ) → a < 8 → get_or last a 0 ≡ 8 + a
at_last a h = let e : 8 + (0 + a) % 8 ≡ 8 + a =
    omega arith in get_or-map-range_with_len (λ k. 8 + k % 8) 0 16 a (0 + a) 0 (omega arith) refl ∙ e

-- two columns more
module _ (v out : List (List ℕ)) (i : ℕ) (h : i < 8) (lanes : (k : ℕ) → k < 8 → length (get_or v k []) ≡ 16) (rows : length out ≡ 16) where
  abbrev pub two : List (List ℕ)
  two = set (set out (2 * i) (get_or v i [])) (2 * i + 1) (swz_l w8 16 (get_or v i []) 0 last)

  first_two : length (set out (2 * i) (get_or v i [])) ≡ 16
  first_two = length-set out (2 * i) _ ∙ rows

  pub two-rows : length two ≡ 16
  two-rows = length-set (set out (2 * i) (get_or v i [])) (2 * i + 1) _ ∙ first_two

  two-odd : get_or two (2 * i + 1) [] ≡ swz_l w8 16 (get_or v i []) 0 last
  two-odd = get_or-set_same _ (2 * i + 1) _ [] (omega (arith, first_two))

  two-even : get_or two (2 * i) [] ≡ get_or v i []
  two-even = get_or-set_other _ (2 * i + 1) (2 * i) _ [] (λ e. omega arith) ∙ get_or-set_same out (2 * i) _ [] (omega arith)

  two-other : (k : ℕ) → (k < 2 * i) ⊎ (2 * i + 2 ≤ k) → get_or two k [] ≡ get_or out k []
  two-other k (inl away) = get_or-set_other _ (2 * i + 1) k _ [] (λ e. omega arith) ∙ get_or-set_other out (2 * i) k _ [] (λ e. omega arith)
  two-other k (inr away) = get_or-set_other _ (2 * i + 1) k _ [] (λ e. omega arith) ∙ get_or-set_other out (2 * i) k _ [] (λ e. omega arith)

  pub two-lanes : ((k : ℕ) → k < 16 → length (get_or out k []) ≡ 16) → (k : ℕ) → k < 16 → length (get_or two k []) ≡ 16
  two-lanes long k lt =
      elim (cases_lt k (2 * i)) [
        | inl below ↦ ap length (two-other k (inl below)) ∙ long k lt
        | inr above ↦ elim (cases_eq k (2 * i)) [
          | inl low ↦ ap (λ m. length (get_or two m [])) low ∙ ap length two-even ∙ lanes i h
          | inr not_low ↦ elim (cases_eq k (2 * i + 1)) [
            | inl high ↦ ap (λ m. length (get_or two m [])) high ∙ ap length two-odd ∙ length-swz_l w8 16 (get_or v i []) 0 last
            | inr not_high ↦ ap length (two-other k (inr (omega arith))) ∙ long k lt
          ]
        ]
      ]

  pub two-done : ((k a : ℕ) → k < 2 * i → a < 8 → cell out k a ≡ cell v (k / 2) (8 * (k % 2) + a)) → (k a : ℕ) → k < 2 * (i + 1) → a < 8
      → cell two k a ≡ cell v (k / 2) (8 * (k % 2) + a)
  two-done done k a lt small =
      elim (cases_lt k (2 * i)) [
        | inl below ↦ ap (λ l. get_or l a 0) (two-other k (inl below)) ∙ done k a below small
        | inr above ↦ elim (cases_eq k (2 * i)) [
          | inl low ↦ (
              let x : i ≡ k / 2 = omega arith in
              let y : a ≡ 8 * (k % 2) + a = omega arith in
              ap (λ m. cell two m a) low ∙ ap (λ l. get_or l a 0) two-even ∙ ap (λ m. cell v m a) x ∙ ap (cell v (k / 2)) y)
          | inr not_low ↦ (
              let high : k ≡ 2 * i + 1 = omega arith in
              let x : i ≡ k / 2 = omega arith in
              let y : 8 + a ≡ 8 * (k % 2) + a = omega arith in
              ap (λ m. cell two m a) high ∙ ap (λ l. get_or l a 0) two-odd
              ∙ reads (get_or v i []) last a (8 + a) (omega arith) refl (at_last a small) (omega arith) ∙ ap (λ m. cell v m (8 + a)) x
              ∙ ap (cell v (k / 2)) y)
        ]
      ]

-- one row more of eight lanes of sixteen rows
module _ (v out : List (List ℕ)) (s i : ℕ) (few : s ≤ 8) (h : i < 8) (lanes : (k : ℕ) → k < 16 → length (get_or v k []) ≡ 16)
    (rows : length out ≡ 8) where
  abbrev pub half : List (List ℕ)
  half = set out i (by_turns s (get_or v i []) (get_or v (i + 8) []))

  pub half-rows : length half ≡ 8
  half-rows = length-set out i _ ∙ rows

  half-here : get_or half i [] ≡ by_turns s (get_or v i []) (get_or v (i + 8) [])
  half-here = get_or-set_same out i _ [] (omega arith)

  pub half-lanes : ((k : ℕ) → k < 8 → length (get_or out k []) ≡ 16) → (k : ℕ) → k < 8 → length (get_or half k []) ≡ 16
  half-lanes long k lt =
      elim (cases_eq k i) [
        | inl same ↦ ap (λ m. length (get_or half m [])) same ∙ ap length half-here
        | inr other ↦ ap length (get_or-set_other out i k _ [] other) ∙ long k lt
      ]

  pub half-done : ((k j : ℕ) → k < i → j < 16 → cell out k j ≡ cell v (8 * (j % 2) + k) (s + j / 2)) → (k j : ℕ) → k < i + 1 → j < 16
      → cell half k j ≡ cell v (8 * (j % 2) + k) (s + j / 2)
  half-done done k j lt small =
      elim (cases_eq k i) [
        | inl same ↦ (
            ap (λ m. cell half m j) same ∙ ap (λ l. get_or l j 0) half-here
            ∙ at_turn v i 8 (8 * (j % 2) + i) s j (lanes i (omega arith)) few small (λ z. omega arith) (λ z. omega arith)
            ∙ ap (λ m. cell v (8 * (j % 2) + m) (s + j / 2)) (sym same))
        | inr other ↦ ap (λ l. get_or l j 0) (get_or-set_other out i k _ [] other) ∙ done k j (omega arith) small
      ]

-- one vector more of neighbouring ones
module _ (n : ℕ) (rows : List (List ℕ)) (s : List ℕ) (a at : ℕ) (many : length rows ≡ n) (small : a < n)
    (room : at + 16 * a + 16 ≤ length s) where
  pub load-rows : length (set rows a (chunk (at + 16 * a) 16 s)) ≡ n
  load-rows = length-set rows a _ ∙ many

  load-here : get_or (set rows a (chunk (at + 16 * a) 16 s)) a [] ≡ chunk (at + 16 * a) 16 s
  load-here = get_or-set_same rows a _ [] (omega arith)

  pub load-lanes : ((i : ℕ) → i < n → length (get_or rows i []) ≡ 16) → (i : ℕ) → i < n
      → length (get_or (set rows a (chunk (at + 16 * a) 16 s)) i []) ≡ 16
  load-lanes long i h =
      elim (cases_eq i a) [
        | inl same ↦ ap (λ k. length (get_or (set rows a (chunk (at + 16 * a) 16 s)) k [])) same ∙ ap length load-here
            ∙ length-chunk (at + 16 * a) 16 s room
        | inr other ↦ ap length (get_or-set_other rows a i _ [] other) ∙ long i h
      ]

  pub load-done : ((i k : ℕ) → i < a → k < 16 → cell rows i k ≡ get_or s (at + (16 * i + k)) 0) → (i k : ℕ) → i < a + 1 → k < 16
      → cell (set rows a (chunk (at + 16 * a) 16 s)) i k ≡ get_or s (at + (16 * i + k)) 0
  load-done done i k h lt =
      elim (cases_eq i a) [
        | inl same ↦ (
            let e : at + 16 * a + k ≡ at + (16 * i + k) = omega arith in
            ap (λ m. cell (set rows a (chunk (at + 16 * a) 16 s)) m k) same ∙ ap (λ l. get_or l k 0) load-here
            ∙ get_or-chunk (at + 16 * a) 16 s k 0 lt ∙ ap (λ m. get_or s m 0) e)
        | inr other ↦ ap (λ l. get_or l k 0) (get_or-set_other rows a i _ [] other) ∙ done i k (omega arith) lt
      ]
