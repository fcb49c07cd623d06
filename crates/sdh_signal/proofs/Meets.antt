-- The looped slot as a law over the connections: what may be carried over a chain comes back at the chain's other end.
use Rattle.std.proofs.Common.{◌+◌, ◌≡◌, ℕ, ◌<◌, ◌≤◌, true, Option, Some, None, List, refl, ap, sym, ◌∙◌, arith}
use Rattle.std.specs.Prelude.{◌&&◌, ◌==◌, slice_get}
use Rattle.std.proofs.lemmas.Bool.{and_parts, eqb-true, false≢true}
use Rattle.sdh_circuits.specs.Provisioned.{Provisioned}
use Rattle.sdh_circuits.specs.declared.End.TheVariants.{A, B}
use Rattle.sdh_circuits.specs.Ends.{other_end}
use Rattle.sdh_ringmap.specs.Places.{opposite, span_at}
use Rattle.sdh_ringmap.specs.declared.Pos.{Pos}
use Rattle.sdh_ringmap.specs.declared.Side.{Side}
use Rattle.sdh_ringmap.specs.declared.Side.TheVariants.{East, West}
use Rattle.sdh_ringmap.proofs.Going.{going-inside, reached}
use Rattle.sdh_signal.proofs.Looped.{IsBeyond, beyond, comes-back}
use Rattle.sdh_signal.proofs.OnArcs.{near_at, near_end, on-arc, seen-on}
use Rattle.sdh_signal.proofs.Passing.{carries-by}
use Rattle.sdh_signal.proofs.Sights.{found-gives}
use Rattle.sdh_signal.proofs.Views.{AreOnRing, arc_length, carried, holds, is_in_chain}
use Rattle.sdh_ringmap.specs.Steps.{going}
use Rattle.sdh_signal.specs.Walks.{carries_in, port_at}
use Rattle.sdh_squelch.proofs.LookUps.{entry}
use Rattle.sdh_squelch.specs.Table.{circuit_from}
use Rattle.sdh_squelch.specs.declared.Row.{Row}

base_inside : (n : ℕ) → 0 < n → (c : Provisioned) (d : Side) → c.from.0 < n → near_at n c d < n
base_inside n some c East h = h
base_inside n some c West h = going-inside n some East c.from.0 (arc_length n c)

-- The circuit on the span of side d of the node at q, in slot m, which may be carried: the node lies some steps along
-- its arc on that side, and the chain's other end f is farther along it.
pub record IsFarther (n : ℕ) (cs : List Provisioned) (d : Side) (q m f : ℕ) : Type 0 where
  pub index : ℕ
  pub circuit : Provisioned
  pub is : slice_get cs index ≡ Some circuit
  pub row : circuit_from n (span_at n q d) m 0 cs ≡ Some (entry index circuit)
  pub slot : circuit.slot.0 ≡ m
  pub step : ℕ
  pub here : q ≡ going n d (near_at n circuit d) step
  pub last : ℕ
  pub there : going n d (near_at n circuit d) last ≡ f
  pub after : step < last
  pub within : last ≤ arc_length n circuit

module _ (n : ℕ) (cs : List Provisioned) (ring : AreOnRing n cs) (some : 0 < n) (d : Side) (q : ℕ) (m : ℕ) (f : Pos) (inside : q < n)
    (f_inside : f.0 < n) where
  by_entry : (o : Option Row) → circuit_from n (span_at n q d) m 0 cs ≡ o → carried n q o d f.0 ≡ true
      → IsFarther n cs d q m f.0 × (circuit_from n (span_at n f.0 (opposite d)) m 0 cs ≡ o)
  by_entry None e t = absurd (false≢true t)
  by_entry (Some e) h t =
      let found = found-gives n (span_at n q d) m 0 cs e h in
      let both = and_parts (found.circuit.slot.0 == m) (holds n found.circuit (span_at n q d)) found.on in
      let c = found.circuit in
      let at = on-arc n cs ring some c d q (ring.inside found.place c found.is).0 inside both.1 in
      let b = near_at n c d in
      let back = reached n some d f.0 q f_inside inside in
      let here : going n d b at.step ≡ q = sym at.there in
      let slot : c.slot.0 ≡ m = eqb-true c.slot.0 m both.0 in
      let seen = seen-on n cs ring found.place c found.is d in
      let in_both : (is_in_chain n d (going n d b at.step) f.0 (port_at c A) && is_in_chain n d (going n d b at.step) f.0 (port_at c B))
      ≡ true =
      ap (λ x. is_in_chain n d x f.0 (port_at c A) && is_in_chain n d x f.0 (port_at c B)) here
      ∙ ap (λ (x : Row). carried n q (Some x) d f.0) (sym found.row) ∙ t in
      let base = base_inside n some c d (ring.inside found.place c found.is).0 in
      let far : IsBeyond n cs some d b found.place c (near_end d)
      (other_end (near_end d)) seen at.step f.0 back.steps at.few f_inside back.few (back.there ∙ at.there) in_both base =
      beyond n cs some d b found.place c (near_end d) (other_end (near_end d)) seen at.step f.0 back.steps at.few f_inside back.few
      (back.there ∙ at.there) in_both base in
      let returned : circuit_from n (span_at n f.0 (opposite d)) c.slot.0 0 cs ≡ Some (entry found.place c) =
      comes-back n cs some d b found.place c (near_end d) (other_end (near_end d)) seen at.step f.0 back.steps at.few f_inside back.few
      (back.there ∙ at.there) in_both base in
      let row : e ≡ entry found.place c = found.row ∙ ap (λ k. entry k c) {x = 0 + found.place} (omega arith) in (
        record {
          index = found.place;
          circuit = c;
          is = found.is;
          row = h ∙ ap Some row;
          slot = slot;
          step = at.step;
          here = at.there;
          last = far.step;
          there = far.there;
          after = far.after;
          within = far.within;
        },
        ap (λ k. circuit_from n (span_at n f.0 (opposite d)) k 0 cs) (sym slot) ∙ returned ∙ ap Some (sym row),
      )

  -- at the far end's outward span one and the same circuit is met
  pub meets-own : carries_in n cs q d m (Some f) ≡ true → circuit_from n (span_at n f.0 (opposite d)) m 0 cs
      ≡ circuit_from n (span_at n q d) m 0 cs
  meets-own t = (by_entry (circuit_from n (span_at n q d) m 0 cs) refl (sym (carries-by n cs q d m f.0) ∙ t)).1

  -- the far end is farther along the circuit's arc
  pub meets-farther : carries_in n cs q d m (Some f) ≡ true → IsFarther n cs d q m f.0
  meets-farther t = (by_entry (circuit_from n (span_at n q d) m 0 cs) refl (sym (carries-by n cs q d m f.0) ∙ t)).0
