-- The frame whose AU-4s come from two others, byte by byte.
use Rattle.std.proofs.Common.{◌≡◌, ◌≢◌, ℕ, zero, suc, ◌+◌, ◌*◌, ◌-◌, ◌/◌, ◌%◌, ◌<◌, ◌≤◌, ◌⊎◌, inl, inr, true, false, eqb, leb, List, []}
use Rattle.std.proofs.Common.{◌∷◌, length, get_or, map, replicate, refl, ap, sym, subst, ◌∙◌, arith}
use Rattle.std.specs.Prelude.{if◌then◌else◌}
use Rattle.std.proofs.lemmas.Bool.{cases_eq, cases_lt, eq-eqb, ne_eqb, le-leb, lt-leb}
use Rattle.std.proofs.lemmas.List.{get_or-replicate, get_or-map, length-map}
use Rattle.sdh_basics.proofs.CellsLaws.{get_or-cells}
use Rattle.sdh_ringmap.specs.declared.terms.Rate.{Rate}
use Rattle.sdh_ringmap.specs.declared.terms.Rate.TheVariants.{Four, Sixteen}
use Rattle.sdh_interchange.specs.declared.choose.Source.{Source}
use Rattle.sdh_interchange.specs.declared.choose.Source.TheVariants.{First, Second, Own, Ones}
use Rattle.sdh_interchange.specs.declared.pass.Inputs.{Inputs}
use Rattle.sdh_frame.specs.Sizes.{size_of}
use Rattle.sdh_ringmap.specs.Rates.{n_of}
use Rattle.sdh_frame.specs.Fields.{index_of, payload_place, place_of_pointer}
use Rattle.sdh_frame.specs.Aus.{payload_of, pointers_of, Au, au_of, ones}
use Rattle.sdh_interchange.specs.Choosing.{payload_in, au_from, assembled_frame, IsSource, AreSources, own_byte, picked, picked_at, is_au_byte}
use Rattle.sdh_interchange.specs.Lanes.{IsPlain}
use Rattle.sdh_frame.proofs.PlaceProofs.{IsIn, IsPointerByte}
use Rattle.sdh_frame.proofs.AuProofs.{au_byte, payload_byte-here, payload_byte-other, payload_byte-before, pointer_byte-here}
use Rattle.sdh_frame.proofs.AuProofs.{pointer_byte-other, pointer_byte-payload, pointer_byte-row}
use Rattle.sdh_frame.proofs.AllAus.{aus_byte, at_aus, in_rate}
use Rattle.sdh_frame.proofs.ByColumns.{by_rate}

-- ---- payloads of a node's own ports

pub own_byte-at : (n : ℕ) (own : List (List ℕ)) (i a q : ℕ) → 9 * n ≤ i % (270 * n) → i % n ≡ a
    → 261 * (i / (270 * n)) + (i % (270 * n) - 9 * n) / n ≡ q → own_byte n own i ≡ get_or (get_or own a []) q 0
unfolding own_byte
own_byte-at n own i a q h lane column = let behind : leb (9 * n) (i % (270 * n)) ≡ true = le-leb _ _ h in rw (behind, lane, column) refl

own_byte-none : (n : ℕ) (own : List (List ℕ)) (i : ℕ) → i % (270 * n) < 9 * n → own_byte n own i ≡ 0
unfolding own_byte
own_byte-none n own i h = let before : leb (9 * n) (i % (270 * n)) ≡ false = lt-leb _ _ h in rw before refl

pub either : (n : ℕ) (rate : Rate) → n_of rate ≡ n → (n ≡ 4) ⊎ (n ≡ 16)
either n Four e = inl (sym e)
either n Sixteen e = inr (sym e)

-- no own payload has bytes in the pointer columns of row 3
pub plain_pointer : (n : ℕ) (s : Source) (own : List (List ℕ)) (i : ℕ) → (n ≡ 4) ⊎ (n ≡ 16) → n * 810 ≤ i → i < n * 819
    → IsSource n (i % n + 1) s → IsPlain n s own i
plain_pointer n (First au) own i rate low high is = tt
plain_pointer n (Second au) own i rate low high is = tt
plain_pointer n (Own k) own i rate low high is =
    own_byte-none n own (i - i % n + (k - 1)) (by_rate (λ m. m * 810 ≤ i → i < m * 819 → k ≡ i % m + 1
    → (i - i % m + (k - 1)) % (270 * m) < 9 * m) n rate (λ a b e. omega arith) (λ a b e. omega arith) low high is)
plain_pointer n Ones own i rate low high is = tt

-- where a byte of a payload stands in its column
record IsOwn (n i k j : ℕ) : Type 0 where
  behind : 9 * n ≤ j % (270 * n)
  lane : j % n ≡ k - 1
  column : 261 * (j / (270 * n)) + (j % (270 * n) - 9 * n) / n ≡ 261 * (i / (270 * n)) + (i % (270 * n) - 9 * n) / n

own_there : (rate : Rate) (i k : ℕ) → 1 ≤ k → k ≤ n_of rate → 9 * n_of rate ≤ i % (270 * n_of rate)
    → IsOwn (n_of rate) i k (i - i % n_of rate + (k - 1))
own_there Four i k low high h = record { behind = omega arith; lane = omega arith; column = omega arith }
own_there Sixteen i k low high h = record { behind = omega arith; lane = omega arith; column = omega arith }

own_pointers : (rate : Rate) (i k : ℕ) → 1 ≤ k → k ≤ n_of rate → i % (270 * n_of rate) < 9 * n_of rate
    → (i - i % n_of rate + (k - 1)) % (270 * n_of rate) < 9 * n_of rate
own_pointers Four i k low high h = omega arith
own_pointers Sixteen i k low high h = omega arith

-- ---- one AU-4

au_byte-other : (n k : ℕ) (au : Au) (i x : ℕ) → i % n + 1 ≢ k → au_byte n k au i x ≡ x
unfolding au_byte
au_byte-other n k au i x h = pointer_byte-other n k au.pointers i _ h ∙ payload_byte-other n k au.payload i x h

au_byte-overhead : (n k : ℕ) (au : Au) (i x : ℕ) → i % (270 * n) < 9 * n → i / (270 * n) ≢ 3 → au_byte n k au i x ≡ x
unfolding au_byte
au_byte-overhead n k au i x h r = pointer_byte-row n k au.pointers i _ r ∙ payload_byte-before n k au.payload i x h

-- ---- all of them

aus_byte-after : (n k : ℕ) (aus : List Au) (i x : ℕ) → i % n + 1 < k → aus_byte n k aus i x ≡ x
unfolding aus_byte
aus_byte-after n k [] i x h = refl
aus_byte-after n k (au ∷ aus) i x h =
    aus_byte-after n (k + 1) aus i (au_byte n k au i x) (omega arith) ∙ au_byte-other n k au i x (λ e. omega arith)

pub aus_byte-at : (n k j : ℕ) (aus : List Au) (d : Au) (i x : ℕ) → i % n + 1 ≡ k + j → j < length aus
    → aus_byte n k aus i x ≡ au_byte n (k + j) (get_or aus j d) i x
unfolding aus_byte
aus_byte-at n k j [] d i x e lt = absurd (omega arith)
aus_byte-at n k zero (au ∷ aus) d i x e lt =
    aus_byte-after n (k + 1) aus i (au_byte n k au i x) (omega arith) ∙ ap (λ m. au_byte n m au i x) (omega arith)
aus_byte-at n k (suc j) (au ∷ aus) d i x e lt =
    aus_byte-at n (k + 1) j aus d i (au_byte n k au i x) (omega arith) (omega arith)
    ∙ ap (λ m. au_byte n m (get_or aus j d) i (au_byte n k au i x)) (omega arith)
    ∙ ap (au_byte n (k + suc j) (get_or aus j d) i) (au_byte-other n k au i x (λ f. omega arith))

aus_byte-overhead : (n k : ℕ) (aus : List Au) (i x : ℕ) → i % (270 * n) < 9 * n → i / (270 * n) ≢ 3 → aus_byte n k aus i x ≡ x
unfolding aus_byte
aus_byte-overhead n k [] i x h r = refl
aus_byte-overhead n k (au ∷ aus) i x h r = aus_byte-overhead n (k + 1) aus i (au_byte n k au i x) h r ∙ au_byte-overhead n k au i x h r

-- ---- where a byte of an AU-4 stands in its source

payload_from : (rate : Rate) (i au : ℕ) → 1 ≤ au → i < size_of rate → 9 * n_of rate ≤ i % (270 * n_of rate)
    → (index_of (n_of rate) (payload_place (n_of rate) au (261 * (i / (270 * n_of rate)) +
    (i % (270 * n_of rate) - 9 * n_of rate) / n_of rate)) ≡ i - i % n_of rate + (au - 1))
    × (261 * (i / (270 * n_of rate)) + (i % (270 * n_of rate) - 9 * n_of rate) / n_of rate < 2349)
payload_from Four i au low h col = (omega arith, omega arith)
payload_from Sixteen i au low h col = (omega arith, omega arith)

pointer_from : (rate : Rate) (i au : ℕ) → 1 ≤ au → i < size_of rate → i / (270 * n_of rate) ≡ 3 → i % (270 * n_of rate) < 9 * n_of rate
    → (index_of (n_of rate) (place_of_pointer (n_of rate) au (i % (270 * n_of rate) / n_of rate)) ≡ i - i % n_of rate + (au - 1))
    × (i % (270 * n_of rate) / n_of rate < 9)
pointer_from Four i au low h row col = (omega arith, omega arith)
pointer_from Sixteen i au low h row col = (omega arith, omega arith)

column_of : (rate : Rate) (i : ℕ) → 9 * n_of rate ≤ i % (270 * n_of rate)
    → i % (270 * n_of rate) + 1 ≡ 9 * n_of rate + ((i % (270 * n_of rate) - 9 * n_of rate) / n_of rate * n_of rate + (i % n_of rate + 1))
column_of Four i h = omega arith
column_of Sixteen i h = omega arith

module _ (rate : Rate) (i x : ℕ) (inside : i < size_of rate) where
  abbrev n : ℕ
  n = n_of rate

  is_in : 9 * n ≤ i % (270 * n) → IsIn n i (i / (270 * n)) ((i % (270 * n) - 9 * n) / n) (i % n + 1)
  is_in h = record { column = column_of rate i h; number = refl; behind = h; back = refl; row = refl; within = inside }

  is_pointer_byte : i / (270 * n) ≡ 3 → i % (270 * n) < 9 * n → IsPointerByte n i (i % (270 * n) / n) (i % n + 1)
  is_pointer_byte r h = record { row = r; before = h; number = refl; within = inside; back = refl }

  of_frame : (s : List ℕ) (au : ℕ) → 1 ≤ au → (9 * n ≤ i % (270 * n)) ⊎ ((i / (270 * n) ≡ 3) × (i % (270 * n) < 9 * n))
      → au_byte n (i % n + 1) (au_of n au s) i x ≡ get_or s (i - i % n + (au - 1)) 0
  unfolding au_byte payload_of pointers_of
  of_frame s au low (inl h) =
      let at = payload_from rate i au low inside h in
      pointer_byte-payload n _ _ i _ h ∙ payload_byte-here n _ _ _ _ i x (is_in h) ∙ get_or-cells _ 2349 _ 0 at.1
      ∙ ap (λ z. get_or s z 0) at.0
  of_frame s au low (inr h) =
      let at = pointer_from rate i au low inside h.0 h.1 in
      pointer_byte-here n _ _ _ i _ (is_pointer_byte h.0 h.1) ∙ get_or-cells _ 9 _ 0 at.1 ∙ ap (λ z. get_or s z 0) at.0

  of_ones : (9 * n ≤ i % (270 * n)) ⊎ ((i / (270 * n) ≡ 3) × (i % (270 * n) < 9 * n)) → au_byte n (i % n + 1) ones i x ≡ 0xFF
  unfolding au_byte
  of_ones (inl h) =
      pointer_byte-payload n _ _ i _ h ∙ payload_byte-here n _ _ _ _ i x (is_in h)
      ∙ get_or-replicate 2349 _ 0xFF 0 (payload_from rate i 1 (omega arith) inside h).1
  of_ones (inr h) =
      pointer_byte-here n _ _ _ i _ (is_pointer_byte h.0 h.1)
      ∙ get_or-replicate 9 _ 0xFF 0 (pointer_from rate i 1 (omega arith) inside h.0 h.1).1

  of_own : (own : List (List ℕ)) (k : ℕ) → 1 ≤ k → k ≤ n → (9 * n ≤ i % (270 * n)) ⊎ ((i / (270 * n) ≡ 3) × (i % (270 * n) < 9 * n))
      → au_byte n (i % n + 1) (record { pointers = replicate 9 0; payload = payload_in k own }) i x ≡ own_byte n own (i - i % n + (k - 1))
  unfolding au_byte
  of_own own k low high (inl h) =
      let there = own_there rate i k low high h in
      pointer_byte-payload n _ _ i _ h ∙ payload_byte-here n _ _ _ _ i x (is_in h)
      ∙ sym (own_byte-at n own (i - i % n + (k - 1)) (k - 1) _ there.behind there.lane there.column)
  of_own own k low high (inr h) =
      pointer_byte-here n _ _ _ i _ (is_pointer_byte h.0 h.1)
      ∙ get_or-replicate 9 _ 0 0 (pointer_from rate i 1 (omega arith) inside h.0 h.1).1
      ∙ sym (own_byte-none n own (i - i % n + (k - 1)) (own_pointers rate i k low high h.1))

  lane_in : i % n < n
  lane_in = in_rate rate i

  of_source : (s : Source) (first second : List ℕ) (own : List (List ℕ)) → IsSource n (i % n + 1) s
      → (9 * n ≤ i % (270 * n)) ⊎ ((i / (270 * n) ≡ 3) × (i % (270 * n) < 9 * n))
      → au_byte n (i % n + 1) (au_from n first second own s) i x ≡ picked n s first second own i
  of_source (First au) first second own is part = of_frame first au is.0 part
  of_source (Second au) first second own is part = of_frame second au is.0 part
  of_source (Own k) first second own is part = of_own own k (omega (arith, is)) (omega (arith, is, lane_in)) part
  of_source Ones first second own is part = of_ones part

  -- a byte of an AU-4
  chosen_in : (sources : List Source) (first second : List ℕ) (own : List (List ℕ)) → AreSources n sources
      → (9 * n ≤ i % (270 * n)) ⊎ ((i / (270 * n) ≡ 3) × (i % (270 * n) < 9 * n))
      → aus_byte n 1 (map (au_from n first second own) sources) i x ≡ picked_at n sources first second own i
  chosen_in sources first second own are part =
      let few : i % n < length sources = omega (arith, lane_in, are.many) in
      aus_byte-at n 1 (i % n) (map (au_from n first second own) sources) ones i x (omega arith)
      (omega (arith, length-map sources (au_from n first second own)))
      ∙ ap (λ m. au_byte n m (get_or (map (au_from n first second own) sources) (i % n) ones) i x) (omega arith)
      ∙ ap (λ a. au_byte n (i % n + 1) a i x) (get_or-map (au_from n first second own) sources (i % n) Ones ones few)
      ∙ of_source (get_or sources (i % n) Ones) first second own (are.each (i % n) lane_in) part

  chosen_byte : (sources : List Source) (first second : List ℕ) (own : List (List ℕ)) → AreSources n sources
      → aus_byte n 1 (map (au_from n first second own) sources) i x ≡ (if is_au_byte n i then picked_at n sources first second own i else x)
  chosen_byte sources first second own are =
      elim (cases_lt (i % (270 * n)) (9 * n)) [
        | inl before ↦ (
            let a : leb (9 * n) (i % (270 * n)) ≡ false = lt-leb _ _ before in
            elim (cases_eq (i / (270 * n)) 3) [
              | inl row ↦ (let b : eqb (i / (270 * n)) 3 ≡ true = eq-eqb _ _ row in rw (a, b)
                  (chosen_in sources first second own are (inr (row, before))))
              | inr row ↦ (let b : eqb (i / (270 * n)) 3 ≡ false = ne_eqb _ _ row in rw (a, b)
                  (aus_byte-overhead n 1 (map (au_from n first second own) sources) i x before row))
            ])
        | inr behind ↦ (let a : leb (9 * n) (i % (270 * n))
            ≡ true = le-leb _ _ behind in rw a (chosen_in sources first second own are (inl behind)))
      ]

-- byte by byte
pub chosen-at : (rate : Rate) (sources : List Source) (first second : List ℕ) (own : List (List ℕ)) (old : List ℕ) (i : ℕ)
    → length old ≡ size_of rate → i < size_of rate → AreSources (n_of rate) sources
    → get_or (assembled_frame (n_of rate) sources first second own old) i 0
    ≡ (if is_au_byte (n_of rate) i then picked_at (n_of rate) sources first second own i else get_or old i 0)
unfolding assembled_frame
chosen-at rate sources first second own old i whole inside are =
    at_aus rate 1 (map (au_from (n_of rate) first second own) sources) old i whole inside
    ∙ chosen_byte rate i (get_or old i 0) inside sources first second own are

-- all of it
abbrev pub PickedAt : Rate → List Source → List ℕ → List ℕ → List (List ℕ) → List ℕ → List ℕ → Type 0
PickedAt rate sources first second own old new =
    (i : ℕ) → i < size_of rate → get_or new i 0
    ≡ (if is_au_byte (n_of rate) i then picked_at (n_of rate) sources first second own i else get_or old i 0)

abbrev pub ChosenAt : Rate → List Source → List ℕ → List ℕ → List (List ℕ) → List ℕ → List ℕ → Type 0
ChosenAt rate sources first second own old new =
    (i : ℕ) → i < size_of rate → get_or new i 0 ≡ get_or (assembled_frame (n_of rate) sources first second own old) i 0

pub chosen-all : (rate : Rate) (sources : List Source) (first second : List ℕ) (own : List (List ℕ)) (old new : List ℕ)
    → length old ≡ size_of rate → AreSources (n_of rate) sources → PickedAt rate sources first second own old new
    → ChosenAt rate sources first second own old new
chosen-all rate sources first second own old new whole are picks =
    λ i inside. picks i inside ∙ sym (chosen-at rate sources first second own old i whole inside are)

-- what is picked from equal sources and equal inputs
pub picked-same : (rate : Rate) (sources sources' : List Source) (from from' : Inputs) (old new : List ℕ) → sources ≡ sources'
    → from ≡ from'
    → PickedAt rate sources from.first.now from.second.now from.own.now old new
    → PickedAt rate sources' from'.first.now from'.second.now from'.own.now old new
picked-same rate sources sources' from from' old new a b is =
    subst (λ l. PickedAt rate l from'.first.now from'.second.now from'.own.now old new) a
    (subst (λ (f : Inputs). PickedAt rate sources f.first.now f.second.now f.own.now old new) b is)

pub same-chosen : (rate rate' : Rate) (sources : List Source) (first first' second second' : List ℕ) (own : List (List ℕ))
    (old old' new : List ℕ) → rate ≡ rate' → first ≡ first' → second ≡ second' → old ≡ old'
    → ChosenAt rate sources first second own old new → ChosenAt rate' sources first' second' own old' new
same-chosen rate rate' sources first first' second second' own old old' new a b c d is =
    subst (λ m. ChosenAt m sources first' second' own old' new) a
    (subst (λ l. ChosenAt rate sources l second' own old' new) b
    (subst (λ l. ChosenAt rate sources first l own old' new) c (subst (λ l. ChosenAt rate sources first second own l new) d is)))

-- ---- row after row

-- the rows below this one, from 0, are picked, and the others are as they were
pub record PickedTo (n : ℕ) (picked : ℕ → ℕ) (row : ℕ) (old now : List ℕ) : Type 0 where
  pub done : (i : ℕ) → i < 2430 * n → i / (270 * n) < row → get_or now i 0 ≡ (if is_au_byte n i then picked i else get_or old i 0)
  pub rest : (i : ℕ) → row ≤ i / (270 * n) → get_or now i 0 ≡ get_or old i 0

pub picked-next : (n : ℕ) (picked : ℕ → ℕ) (row : ℕ) (old now new : List ℕ) → PickedTo n picked row old now
    → ((i : ℕ) → i < 2430 * n → i / (270 * n) ≡ row → get_or new i 0 ≡ (if is_au_byte n i then picked i else get_or now i 0))
    → ((i : ℕ) → i / (270 * n) ≢ row → get_or new i 0 ≡ get_or now i 0) → PickedTo n picked (row + 1) old new
picked-next n picked row old now new so here others = record {
  done = λ i inside below.
      elim (cases_eq (i / (270 * n)) row) [
        | inl at ↦ here i inside at ∙ ap (λ x. if is_au_byte n i then picked i else x) (so.rest i (omega (arith, at)))
        | inr away ↦ others i away ∙ so.done i inside (omega arith)
      ];
  rest = λ i behind. others i (λ (e : i / (270 * n) ≡ row). omega arith) ∙ so.rest i (omega arith);
}
