-- What the loops over one AU-4 make of a frame's bytes.
use Rattle.std.proofs.Common.{◌≡◌, ℕ, ◌+◌, ◌*◌, ◌-◌, ◌/◌, ◌%◌, ◌<◌, ◌≤◌, Bool, true, false, eqb, leb, List, length, get_or, replicate, refl}
use Rattle.std.proofs.Common.{ap, sym, ◌∙◌, arith}
use Rattle.std.specs.Prelude.{slice_index, if◌then◌else◌}
use Rattle.std.proofs.lemmas.Bool.{and_parts, eqb-true, leb-true}
use Rattle.std.proofs.lemmas.List.{ext_get_or, get_or-replicate}
use Rattle.sdh_basics.proofs.CellsLaws.{cells-from, get_or-cells, length-map_from, get_or-placed}
use Rattle.sdh_ringmap.specs.declared.terms.Rate.{Rate}
use Rattle.sdh_ringmap.specs.declared.terms.Rate.TheVariants.{Four, Sixteen}
use Rattle.sdh_frame.specs.Sizes.{size_of}
use Rattle.sdh_ringmap.specs.Rates.{n_of}
use Rattle.sdh_frame.specs.Fields.{index_of, payload_place}
use Rattle.sdh_frame.specs.Aus.{payload_of, payload_byte, pointer_byte, with_payload, with_pointers, is_payload, is_pointer}

-- two lists of the old length are equal if at every place i both have the byte `f i x`, where x is the old byte there
placed : (f : ℕ → ℕ → ℕ) (old new : List ℕ) → length new ≡ length old → ((i : ℕ) → i < length old → get_or new i 0 ≡ f i (get_or old i 0))
    → (zs : List ℕ) → length zs ≡ length old → ((i : ℕ) → i < length old → get_or zs i 0 ≡ f i (get_or old i 0)) → new ≡ zs
placed f old new len h zs len2 h2 = ext_get_or 0 new zs (len ∙ sym len2) (λ i lt. h i (omega arith) ∙ sym (h2 i (omega arith)))

-- the byte that is copied stands at its own index
pub source : (rate : Rate) (to from i : ℕ) → 1 ≤ from → i < size_of rate → i % n_of rate + 1 ≡ to → 9 * n_of rate ≤ i % (270 * n_of rate)
    → (index_of (n_of rate) (payload_place (n_of rate) from
    (261 * (i / (270 * n_of rate)) + (i % (270 * n_of rate) - 9 * n_of rate) / n_of rate)) ≡ i - to + from)
    × (261 * (i / (270 * n_of rate)) + (i % (270 * n_of rate) - 9 * n_of rate) / n_of rate < 2349)
source Four to from i hf hi au col = (omega arith, omega arith)
source Sixteen to from i hf hi au col = (omega arith, omega arith)

-- a byte by the two cases of its place
cases : (t : Bool) (x a b c : ℕ) → x ≡ (if t then a else b) → (t ≡ true → a ≡ c) → x ≡ (if t then c else b)
cases true x a b c h e = h ∙ e refl
cases false x a b c h e = h

index_small : (rate : Rate) (i : ℕ) → i < size_of rate → 9 * n_of rate ≤ i % (270 * n_of rate)
    → 261 * (i / (270 * n_of rate)) + (i % (270 * n_of rate) - 9 * n_of rate) / n_of rate < 2349
index_small Four i h col = omega arith
index_small Sixteen i h col = omega arith

module _ (rate : Rate) (to : ℕ) (old new : List ℕ) (high : to ≤ n_of rate) (whole : length old ≡ size_of rate)
    (len : length new ≡ length old) where
  pub stored : (p : List ℕ) → ((i : ℕ) → i < size_of rate → slice_index new i
      ≡ (if is_payload (n_of rate) to i then slice_index p (261 * (i / (270 * n_of rate)) +
      (i % (270 * n_of rate) - 9 * n_of rate) / n_of rate) else slice_index old i))
      → new ≡ with_payload (n_of rate) to p old
  unfolding with_payload payload_byte
  stored p h =
      placed (payload_byte (n_of rate) to p) old new len (λ i lt. h i (omega arith)) (with_payload (n_of rate) to p old)
      (length-map_from (payload_byte (n_of rate) to p) 0 old) (λ i lt. get_or-placed (payload_byte (n_of rate) to p) old i 0 0 lt)

  pub copied : (from : ℕ) (s : List ℕ) → 1 ≤ from → from ≤ n_of rate
      → ((i : ℕ) → i < size_of rate → slice_index new i ≡ (if is_payload (n_of rate) to i
      then slice_index s (i - to + from) else slice_index old i))
      → new ≡ with_payload (n_of rate) to (payload_of (n_of rate) from s) old
  unfolding payload_of
  copied from s low ok h =
      stored (payload_of (n_of rate) from s) (λ i lt. cases (is_payload (n_of rate) to i) _ _ _ _ (h i lt)
      (λ t. (let p = and_parts (eqb (i % n_of rate + 1) to) (leb (9 * n_of rate) (i % (270 * n_of rate))) t in
      let at = source rate to from i low lt (eqb-true _ _ p.0) (leb-true _ _ p.1) in
      ap (λ z. get_or s z 0) (sym at.0) ∙ sym (get_or-cells _ 2349 _ 0 at.1))))

  pub filled : ((i : ℕ) → i < size_of rate → slice_index new i ≡ (if is_payload (n_of rate) to i then 0xFF else slice_index old i))
      → new ≡ with_payload (n_of rate) to (replicate 2349 0xFF) old
  filled h =
      stored (replicate 2349 0xFF) (λ i lt. cases (is_payload (n_of rate) to i) _ _ _ _ (h i lt)
      (λ t. (let p = and_parts (eqb (i % n_of rate + 1) to) (leb (9 * n_of rate) (i % (270 * n_of rate))) t in
      sym (get_or-replicate 2349 _ 0xFF 0 (index_small rate i lt (leb-true _ _ p.1))))))

  pub pointed : (p : List ℕ) → ((i : ℕ) → i < size_of rate → slice_index new i
      ≡ (if is_pointer (n_of rate) to i then slice_index p (i % (270 * n_of rate) / n_of rate) else slice_index old i))
      → new ≡ with_pointers (n_of rate) to p old
  unfolding with_pointers pointer_byte
  pointed p h =
      placed (pointer_byte (n_of rate) to p) old new len (λ i lt. h i (omega arith)) (with_pointers (n_of rate) to p old)
      (length-map_from (pointer_byte (n_of rate) to p) 0 old) (λ i lt. get_or-placed (pointer_byte (n_of rate) to p) old i 0 0 lt)

pub taken : (n from : ℕ) (s d : List ℕ) → length d ≡ 2349 →
    ((j : ℕ) → j < 2349 → slice_index d j ≡ slice_index s (index_of n (payload_place n from j))) → d ≡ payload_of n from s
unfolding payload_of
taken n from s d len h = sym (cells-from _ 2349 0 d len (λ j lt. sym (h j lt)))
