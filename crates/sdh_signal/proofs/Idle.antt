-- In a ring of idle nodes a walk from what leaves a node has fewer spans than the ring.
use Rattle.std.proofs.Common.{◌≡◌, ℕ, ◌-◌, ◌<◌, true, false, List, Option, Some, None, refl, ap, sym, subst, arith, inr}
use Rattle.std.specs.Prelude.{◌==◌}
use Rattle.std.proofs.lemmas.Bool.{and_parts, eqb-true}
use Rattle.sdh_ringmap.specs.declared.Side.{Side}
use Rattle.sdh_ringmap.specs.Places.{span_at}
use Rattle.sdh_ringmap.specs.Steps.{going}
use Rattle.sdh_circuits.specs.Provisioned.{Provisioned}
use Rattle.sdh_circuits.specs.declared.End.{End}
use Rattle.sdh_squelch.specs.Table.{circuit_from}
use Rattle.sdh_squelch.specs.declared.Row.{Row}
use Rattle.sdh_bridge.specs.declared.Origin.TheVariants.{Ais}
use Rattle.sdh_circuits.specs.Ends.{other_end}
use Rattle.sdh_signal.specs.Law.{Ends, all_idle}
use Rattle.sdh_signal.specs.Walks.{stand, working_in}
use Rattle.sdh_signal.proofs.Inhabited.{below-some}
use Rattle.sdh_signal.proofs.OnArcs.{near_at, near_end, on-arc, seen-on}
use Rattle.sdh_signal.proofs.Passing.{leaves-unused, settled-open}
use Rattle.sdh_signal.proofs.Seen.{Seen}
use Rattle.sdh_signal.proofs.Segments.{home, own}
use Rattle.sdh_signal.proofs.Sights.{found-gives}
use Rattle.sdh_signal.proofs.States.{Resting}
use Rattle.sdh_signal.proofs.Views.{AreOnRing, Idle, arc_length, holds, on-ring}
use Rattle.sdh_signal.specs.RouteLaws.{IdleWalksAreShort}

pub no_span : {A : Type 0} → false ≡ true → A
no_span e = cc

-- a ring of idle nodes, none of whose spans is applied
abbrev pub at_ease : (n : ℕ) → 0 < n → Resting n
at_ease n some = record {
  applied = λ s. false;
  state = all_idle;
  far = λ d q. None;
  far_first = λ d q k inside low high free hit. no_span hit;
  rest = all_idle;
  by_sides = λ d q. refl;
  passing = λ q s h hit. no_span hit;
  either = λ q. inr refl;
  top = 0;
  top_inside = some;
  top_stops = λ d q e. refl;
}

module _ (n : ℕ) (some : 0 < n) (cs : List Provisioned) (ring : AreOnRing n cs) where
  -- a walk ends that begins at step x of a circuit's arc
  on_way : (d : Side) (p index : ℕ) (c : Provisioned) (near distant : End) (seen : Seen n cs index c d p near distant) (x : ℕ)
      → x < arc_length n c
      → Ends n all_idle cs c.slot.0 (n - 1) (stand (going n d p x) (working_in n cs (going n d p x) Idle d c.slot.0))
  on_way d p index c near distant seen x h =
      let r = at_ease n some in
      let short = seen.short in
      record {
        spans = x;
        last = own n r cs some d p index c near distant seen;
        within = omega arith;
        over = tt;
        leads = home n r cs some d p index c near distant seen x d h (λ j g. refl) (settled-open n r d (going n d p x) refl);
      }

  module _ (d : Side) (q m : ℕ) (inside : q < n) where
    by_circuit : (o : Option Row) → circuit_from n (span_at n q d) m 0 cs ≡ o
        → Ends n all_idle cs m (n - 1) (stand q (working_in n cs q Idle d m))
    by_circuit None e = record {
      spans = 0;
      last = stand q Ais;
      within = omega arith;
      over = tt;
      leads = ap (stand q) (leaves-unused n cs q Idle d m e);
    }
    by_circuit (Some e) h =
        let found = found-gives n (span_at n q d) m 0 cs e h in
        let both = and_parts (found.circuit.slot.0 == m) (holds n found.circuit (span_at n q d)) found.on in
        let c = found.circuit in
        let at = on-arc n cs ring some c d q (ring.inside found.place c found.is).0 inside both.1 in
        let b = near_at n c d in
        let slot : c.slot.0 ≡ m = eqb-true c.slot.0 m both.0 in
        subst (λ k. Ends n all_idle cs k (n - 1) (stand q (working_in n cs q Idle d k))) slot
        (subst (λ q. Ends n all_idle cs c.slot.0 (n - 1) (stand q (working_in n cs q Idle d c.slot.0))) (sym at.there)
        (on_way d b found.place c (near_end d) (other_end (near_end d)) (seen-on n cs ring found.place c found.is d) at.step at.few))

    walk_ends : Ends n all_idle cs m (n - 1) (stand q (working_in n cs q Idle d m))
    walk_ends = by_circuit (circuit_from n (span_at n q d) m 0 cs) refl

pub idle_walks_are_short : IdleWalksAreShort
idle_walks_are_short n slots cs form d q m inside = walk_ends n (below-some n q inside) cs (on-ring n slots cs form) d q m inside
