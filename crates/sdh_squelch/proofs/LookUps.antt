-- Looking up the circuit on a span and slot.
use Rattle.std.proofs.Common.{◌≡◌, ℕ, zero, suc, ◌+◌, ◌<◌, List, [], ◌∷◌, ◌++◌, length, append_assoc, append-nil, subst, get_or, Bool, true}
use Rattle.std.proofs.Common.{false, cond, Option, Some, None, refl, ap, sym, ◌∙◌, inl, inr, arith}
use Rattle.std.specs.Prelude.{slice_get, position}
use Rattle.std.specs.List.{All, position_from}
use Rattle.std.proofs.lemmas.Bool.{cond-true, cond-false}
use Rattle.std.proofs.lemmas.List.Elements.{All-append}
use Rattle.std.proofs.lemmas.List.Quantifiers.{position-Some}
use Rattle.std.proofs.lemmas.Iterator.Adapters.{position_from-zero}
use Rattle.std.proofs.lemmas.Option.{get_or_from_slice_get, slice_get_within}
use Rattle.std.specs.Option.{option_map_or}
use Rattle.sdh_basics.specs.Cells.{cells}
use Rattle.sdh_basics.proofs.CellsLaws.{cells-zero, cells-more}
use Rattle.sdh_circuits.specs.Provisioned.{Provisioned, is_on}
use Rattle.sdh_circuits.specs.Provisioning.{Provisioning, IsProvisioning, IsInRing, ring_size, on_span}
use Rattle.sdh_ringmap.specs.declared.Pos.{Pos}
use Rattle.sdh_squelch.specs.declared.Row.{Row}
use Rattle.sdh_squelch.specs.Table.{circuit_from, circuit_on, HasEnds}
use Rattle.sdh_circuits.specs.Kept.{KeepsRing}

-- what a table says of a circuit
abbrev pub entry : ℕ → Provisioned → Row
entry i c = record { circuit = i; from = c.from; to = c.to }

-- the first circuit on a span and slot is found
pub first-at : (n s m i j : ℕ) (cs : List Provisioned) (c d : Provisioned) → slice_get cs j ≡ Some c → is_on n s m c ≡ true
    → ((k : ℕ) → k < j → is_on n s m (get_or cs k d) ≡ false) → circuit_from n s m i cs ≡ Some (entry (i + j) c)
first-at n s m i j [] c d e h none = cc
first-at n s m i zero (x ∷ cs) c d e h none =
    let same : x ≡ c = cc in
    cond-true (is_on n s m x) (Some (entry i x)) (circuit_from n s m (i + 1) cs) (ap (is_on n s m) same ∙ h)
    ∙ ap (λ (y : Provisioned). Some (entry i y)) same ∙ ap (λ k. Some (entry k c)) (omega arith)
first-at n s m i (suc j) (x ∷ cs) c d e h none =
    cond-false (is_on n s m x) (Some (entry i x)) (circuit_from n s m (i + 1) cs) (none 0 (omega arith))
    ∙ first-at n s m (i + 1) j cs c d e h (λ k g. none (suc k) (omega arith))
    ∙ ap (λ k. Some (entry k c)) (omega arith)

none_by : (b : Bool) (i : ℕ) (o : Option ℕ) → cond b (Some i) o ≡ None → (b ≡ false) × (o ≡ None)
none_by true i o e = cc
none_by false i o e = (refl, e)

none_from : (n s m i k : ℕ) (cs : List Provisioned) → position_from (is_on n s m) k cs ≡ None → circuit_from n s m i cs ≡ None
none_from n s m i k [] e = refl
none_from n s m i k (x ∷ cs) e =
    let t = none_by (is_on n s m x) k (position_from (is_on n s m) (k + 1) cs) e in
    cond-false (is_on n s m x) (Some (entry i x)) (circuit_from n s m (i + 1) cs) t.0 ∙ none_from n s m (i + 1) (k + 1) cs t.1

found_by : (n s m j : ℕ) (cs : List Provisioned) (c : Provisioned) → position (is_on n s m) cs ≡ Some j → slice_get cs j ≡ Some c
    → circuit_on n cs s m ≡ Some (entry j c)
found_by n s m j cs c e h =
    let p = position-Some (is_on n s m) cs j c e in
    first-at n s m 0 j cs c c h (ap (is_on n s m) (sym (get_or_from_slice_get cs j c c h)) ∙ p.1) p.2
    ∙ ap (λ k. Some (entry k c)) (omega arith)

module _ (p : Provisioning) (ids : List ℕ) (kept : KeepsRing p ids) where
  size : p.circuits ≡ [] → (s m : ℕ) → circuit_on (length ids) p.circuits s m ≡ circuit_on (ring_size p) p.circuits s m
  size e s m = ap (λ cs. circuit_on (length ids) cs s m) e ∙ sym (ap (λ cs. circuit_on (ring_size p) cs s m) e)

  sized : p.ring ≡ Some ids → ring_size p ≡ length ids
  sized e = ap (λ r. option_map_or length r 0) e

  same_size : (s m : ℕ) → circuit_on (length ids) p.circuits s m ≡ circuit_on (ring_size p) p.circuits s m
  same_size s m = elim kept [
    | inl none ↦ size none s m
    | inr ring ↦ ap (λ n. circuit_on n p.circuits s m) (let e : ring_size p ≡ length ids = sized ring in sym e)
  ]

  -- what a circuit map finds is what the table says
  pub row-found : (s m j : ℕ) (c : Provisioned) → on_span p s m ≡ Some j → slice_get p.circuits j ≡ Some c
      → circuit_on (length ids) p.circuits s m ≡ Some (entry j c)
  row-found s m j c e h = same_size s m ∙ found_by (ring_size p) s m j p.circuits c e h

  pub row-read : (s m j : ℕ) (c : Provisioned) (from to : Pos) → Some j ≡ on_span p s m → slice_get p.circuits j ≡ Some c → from ≡ c.from
      → to ≡ c.to
      → Some (record { circuit = j; from = from; to = to }) ≡ circuit_on (length ids) p.circuits s m
  row-read s m j c from to e h f t =
      ap (λ x. let r : Row = record { circuit = j; from = x; to = to } in Some r) f
      ∙ ap (λ x. let r : Row = record { circuit = j; from = c.from; to = x } in Some r) t
      ∙ sym (row-found s m j c (sym e) h)

  pub row-none : (s m : ℕ) → on_span p s m ≡ None → circuit_on (length ids) p.circuits s m ≡ None
  row-none s m e =
      same_size s m ∙ none_from (ring_size p) s m 0 0 p.circuits (sym (position_from-zero (is_on (ring_size p) s m) p.circuits) ∙ e)

  -- both ends of a circuit are in the ring
  pub row-ends : IsProvisioning p → (j : ℕ) (c : Provisioned) (from to : Pos) → slice_get p.circuits j ≡ Some c → from ≡ c.from → to ≡ c.to
      → (from.0 < length ids) × (to.0 < length ids)
  row-ends form j c from to h is_from is_to = elim kept [
    | inl none ↦ absurd (nothing (ap (λ cs. slice_get cs j) (sym none) ∙ h))
    | inr ring ↦ (
        let e : ring_size p ≡ length ids = sized ring in
        let inside : IsInRing (ring_size p) c =
        subst (IsInRing (ring_size p)) (get_or_from_slice_get p.circuits j c c h)
        (form.circuits.in_ring j c (slice_get_within p.circuits j c h)) in
        let f = inside.from_inside in let t = inside.to_inside in
        let a : from.0 ≡ c.from.0 = ap (λ (x : Pos). x.0) is_from in let b : to.0 ≡ c.to.0 = ap (λ (x : Pos). x.0) is_to in
        (omega arith, omega arith))
  ] where
    nothing : slice_get {X = Provisioned} [] j ≡ Some c → ⊥
    nothing e = cc

module _ (f : ℕ → Option Row) (old : List (Option Row)) where
  -- rows added one after another
  pub rows-none : old ≡ old ++ cells f 0
  rows-none = sym (ap (λ l. old ++ l) (cells-zero f) ∙ append-nil old)

  pub rows-more : (now : List (Option Row)) (i : ℕ) (x : Option Row) → now ≡ old ++ cells f i → x ≡ f i
      → now ++ x ∷ [] ≡ old ++ cells f (i + 1)
  rows-more now i x e h =
      ap (λ l. l ++ x ∷ []) e ∙ append_assoc old (cells f i) (x ∷ []) ∙ ap (λ y. old ++ (cells f i ++ y ∷ [])) h
      ∙ ap (λ l. old ++ l) (sym (cells-more f i))

one_end : (n : ℕ) (x : Option Row) → HasEnds n x → All (HasEnds n) (x ∷ [])
one_end n x h zero d lt = h
one_end n x h (suc i) d lt = absurd (omega arith)

pub ends-more : (n : ℕ) (now : List (Option Row)) (x : Option Row) → All (HasEnds n) now → HasEnds n x → All (HasEnds n) (now ++ x ∷ [])
ends-more n now x h g = All-append (HasEnds n) now (x ∷ []) h (one_end n x g)
