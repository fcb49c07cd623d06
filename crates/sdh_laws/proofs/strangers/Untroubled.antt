-- A circuit on whose arc nothing is asked in a ring at rest, nor later: no side is switched there, whatever happens
-- elsewhere, so its ports deliver straight over the arc.
use Rattle.std.proofs.Common.{◌≡◌, ℕ, zero, suc, ◌+◌, ◌-◌, ◌<◌, ◌≤◌, Bool, true, false, List, [], ◌∷◌, length, map, get_or, Some, refl, ap}
use Rattle.std.proofs.Common.{sym, ◌∙◌, subst, arith, inl, inr}
use Rattle.std.specs.Prelude.{slice_get, slice_index, ◌==◌, ◌&&◌, nat_le, nat_lt}
use Rattle.std.proofs.lemmas.Bool.{cases_lt, and_right, ne_eqb}
use Rattle.std.proofs.lemmas.List.{length-map}
use Rattle.sdh_ringmap.specs.Arcs.{arc_span, holds_span, is_clear}
use Rattle.sdh_ringmap.specs.Fibres.{is_cut}
use Rattle.sdh_ringmap.specs.Places.{neighbour, span_at}
use Rattle.sdh_ringmap.specs.declared.Side.{Side}
use Rattle.sdh_ringmap.specs.declared.Side.TheVariants.{West, East}
use Rattle.std.proofs.Math.Nat.{mod-lt}
use Rattle.sdh_ringmap.proofs.Around.{eastwards-place, holds}
use Rattle.sdh_ringmap.proofs.Sides.{neighbour_back, neighbour_below}
use Rattle.sdh_ringmap.specs.Requests.{code_number}
use Rattle.sdh_ringmap.specs.declared.terms.Code.{Code}
use Rattle.sdh_ringmap.specs.declared.terms.Code.TheVariants.{Nr}
use Rattle.sdh_ringmap.proofs.Clear.{none_of-never}
use Rattle.sdh_circuits.specs.Provisioned.{Provisioned, arc_of}
use Rattle.sdh_circuits.specs.declared.PortId.{PortId}
use Rattle.sdh_payload.specs.Clock.{Clock}
use Rattle.sdh_restoration.specs.Applied.{applies, has_one_leader, highest, is_applied, span_requests}
use Rattle.sdh_restoration.proofs.Asked.{span_request}
use Rattle.sdh_restoration.specs.Changes.{Change, Stretch, rounds_in}
use Rattle.sdh_signal.specs.Law.{is_open}
use Rattle.sdh_signal.specs.Laws.{StillRingsAreSettled}
use Rattle.sdh_signal.specs.Signals.{no_needs, request_on}
use Rattle.sdh_signal.proofs.Requests.{applies_low, applies_top}
use Rattle.sdh_signal.proofs.Views.{AreOnRing, on-ring}
use Rattle.sdh_node.specs.Node.{Node, needed, receiving_on}
use Rattle.sdh_node.specs.Rings.Changes.{changed, after_stretch}
use Rattle.sdh_node.specs.Rings.Held.{node_at}
use Rattle.sdh_node.specs.Rings.Laws.{MayHappen}
use Rattle.sdh_node.specs.Rings.Rounds.{World, round}
use Rattle.sdh_node.specs.Rings.Sides.{world_in}
use Rattle.sdh_rounds.specs.Rounds as any_round
use Rattle.sdh_rounds.specs.Runs as any_run
use Rattle.sdh_laws.specs.Hearing.Laws.{IsWhole, RoundIsStill}
use Rattle.sdh_laws.specs.Hearing.Signalling.{signals_of, needs_in}
use Rattle.sdh_laws.specs.Carrying.Windows.{layout_of, slots_of, HasCircuits, span_requests_of}
use Rattle.sdh_laws.specs.Resting.Rest.{IsAtRest}
use Rattle.sdh_laws.specs.Strangers.Laws.{EachMay, AllMay}
use Rattle.sdh_laws.specs.Strangers.Untouched.{NoneSwitchesOnArc, AsksNothingOnArc, UnaskedPortsDeliver}
use Rattle.sdh_laws.proofs.hearing.Changes.{whole_changed}
use Rattle.sdh_laws.proofs.hearing.Nodes.{count, length-after}
use Rattle.sdh_laws.proofs.hearing.Rounds.{whole_round}
use Rattle.sdh_laws.proofs.hearing.Signalling.{calm_rounds_are_still, needs_at}
use Rattle.sdh_laws.proofs.hearing.Staying.{left_in}
use Rattle.sdh_laws.proofs.converging.Runs.{condition_run}
use Rattle.sdh_laws.proofs.resting.Signals.{same_at, words_on}
use Rattle.sdh_laws.proofs.strangers.Asking.{Harmless}
use Rattle.sdh_laws.proofs.strangers.Unasked.{AllUntroubled, says_nothing, open_here, kept_here, untroubled_round, untroubled_changed}
use Rattle.sdh_laws.proofs.strangers.Keeping.{kept_in}
use Rattle.sdh_laws.proofs.strangers.Untouched.{none_switches, delivers_straight}

-- a span for which nobody asks isn't applied
never_zero : (rs : List ℕ) → applies rs 0 ≡ false
never_zero rs = elim (cases_lt (highest rs) 11) [
  | inl low ↦ applies_low rs 0 low ∙ by_highest (highest rs) (has_one_leader rs)
  | inr high ↦ applies_top rs 0 high
]
  where
    by_highest : (h : ℕ) (one : Bool) → ((nat_lt 0 h && one) && (0 == h)) ≡ false
    by_highest zero one = refl
    by_highest (suc h) one = and_right (nat_lt 0 (suc h) && one) (0 == suc h) (ne_eqb 0 (suc h) (λ e. omega arith))

-- the requests of a span's two ends, in a ring of n nodes
span_asks : (v : World) (n s : ℕ) → length v.ring.nodes ≡ n → s < n → (receiving_on East (node_at v.ring.nodes s)).request ≡ Nr
    → (receiving_on West (node_at v.ring.nodes (neighbour n s East))).request ≡ Nr → slice_index (span_requests_of v) s ≡ 0
unfolding needs_in
span_asks v n s size low here there =
    let many : length (map needed v.ring.nodes) ≡ n = length-map v.ring.nodes needed ∙ size in
    let local : ℕ → Side → Code = λ p d. request_on (get_or (map needed v.ring.nodes) p no_needs) d in
    let next : neighbour n s East < n = neighbour_below n s East (omega arith) in
    let a : code_number (local s East) ≡ 0 = ap code_number (needs_at v.ring.nodes s East (omega arith) ∙ here) in
    let b : code_number (local (neighbour n s East) West) ≡ 0 =
    ap code_number (needs_at v.ring.nodes (neighbour n s East) West (omega arith) ∙ there) in
    subst (λ m. m ≡ n → slice_index (span_requests m local) s ≡ 0) (sym many)
    (λ same. (let r = span_request n local s low in omega arith)) many

clear_unasked : (v : World) (c : Provisioned) → length v.ring.nodes ≡ length v.ring.ids → AreOnRing (length v.ring.ids) v.ring.circuits.circuits
    → (i : ℕ) → slice_get v.ring.circuits.circuits i ≡ Some c → AsksNothingOnArc v c
    → is_clear (length v.ring.ids) (is_applied (span_requests_of v)) (arc_of (length v.ring.ids) c) ≡ true
unfolding is_clear
clear_unasked v c size ring i get asks =
    let n = length v.ring.ids in
    let arc = arc_of n c in
    let start_in = (ring.inside i c get).0 in
    let few : arc.spans < n = mod-lt (c.to.0 + (n - c.from.0)) (omega arith) in
    none_of-never (λ j. is_applied (span_requests_of v) (arc_span n arc j)) 0 arc.spans (λ j low high. (
    let s = arc_span n arc j in
    let below : s < n = mod-lt (arc.start + j) (omega arith) in
    let there = neighbour_below n s East (omega arith) in
    let held : holds_span n arc s ≡ true =
    holds n s arc below (omega (arith, eastwards-place n arc.start j start_in (omega arith))) in
    let back : span_at n (neighbour n s East) West ≡ s = neighbour_back n s East below in
    ap (applies (span_requests_of v)) (span_asks v n s size below (asks s East below held)
    (asks (neighbour n s East) West there (ap (holds_span n arc) back ∙ held))) ∙ never_zero (span_requests_of v)))

module _ (law : StillRingsAreSettled) (w : World) (clocks : PortId → ℕ → Clock) (rests : IsAtRest clocks w) (form : HasCircuits (layout_of w))
    (index : ℕ) (c : Provisioned) (get : slice_get w.ring.circuits.circuits index ≡ Some c) (before : AsksNothingOnArc (round w) c) where
  abbrev n : ℕ
  n = length w.ring.ids

  whole : IsWhole w
  whole = rests.whole

  clear : is_clear n (is_applied (span_requests_of (round w))) (arc_of n c) ≡ true
  unfolding any_round.round any_round.round_with
  clear =
      clear_unasked (round w) c (length-after w ∙ count w whole.placed)
      (on-ring n (slots_of (layout_of w)) w.ring.circuits.circuits form) index get before

  still : RoundIsStill w
  unfolding any_round.round any_run.run
  still = calm_rounds_are_still w whole (rests.calm 1 (omega arith))

  -- at rest no side is switched on the arc, and no word asks there
  begins : AllUntroubled c w
  unfolding any_round.round any_round.round_with any_run.run signals_of
  begins p h = record {
    words = λ e held. (
        let low : p < n = omega (arith, count w whole.placed) in
        subst Harmless (words_on e (node_at (round w).ring.nodes p) (node_at w.ring.nodes p) (still.same p h))
        (says_nothing w whole p e h (ap (nat_le 1) (rests.free p h)) (before p e low held)));
    open_sides = λ e held. (
        let low : p < n = omega (arith, count w whole.placed) in
        let hp : p < length (round w).ring.nodes = omega (arith, length-after w) in
        ap (λ st. is_open st e) (sym (same_at (λ (y : Node). y.state) (round w).ring.nodes w.ring.nodes p hp h still.states))
        ∙ (none_switches law w clocks rests form index c get clear 0 p e low held).0);
  }

  module _ (ss : List Stretch) (may : MayHappen w ss) (asks : (t : ℕ) → t < rounds_in ss → AsksNothingOnArc (round (world_in ss w t)) c) where
    abbrev Fine : World → Type 0
    Fine v = IsWhole v × AllUntroubled c v

    any_change : (v : World) (xs : List Change) → EachMay (λ u x. Unit {0}) v xs
    any_change v [] = tt
    any_change v (x ∷ xs) = (tt, any_change (changed x v) xs)

    any_changes : (v : World) (ss : List Stretch) → AllMay (λ u x. Unit {0}) v ss
    any_changes v [] = tt
    any_changes v (s ∷ ss) = (any_change v s.changes, any_changes (after_stretch s v) ss)

    stay_fine : (t : ℕ) → t ≤ rounds_in ss → Fine (world_in ss w t)
    stay_fine t few =
        kept_in (λ v. AsksNothingOnArc (round v) c) (λ v x. Unit {0}) (λ j v. Fine v)
        (λ j x v may any h. (whole_changed x v may h.0, untroubled_changed c x v h.1))
        (λ j v form h none. (whole_round v h.0, untroubled_round c v h.0 h.1 none)) ss 0 w t form (whole, begins) may (any_changes w ss) asks few

    none_on_arc : (t : ℕ) → t < rounds_in ss → NoneSwitchesOnArc (round (world_in ss w t)) c
    unfolding any_round.round any_round.round_with any_run.run
    none_on_arc t few p e low held =
        let v = world_in ss w t in
        let fine = stay_fine t (omega arith) in
        let h : p < length v.ring.nodes = omega (arith, count v fine.0.placed) in
        let ran : 0 < v.ring.rounds = omega (arith, (left_in ss w t (omega arith)).rounds, still.later) in (
          open_here c v fine.0 fine.1 (asks t few) p e h held,
          ap is_cut (condition_run v 1 p e) ∙ kept_here c v fine.0 fine.1 (asks t few) p e h held ran,
        )

pub unasked_ports_deliver : StillRingsAreSettled → UnaskedPortsDeliver
unasked_ports_deliver law w clocks rests form ss may index c get another before asks t few e =
    delivers_straight law w clocks rests form index c get (clear law w clocks rests form index c get before) ss may another
    (none_on_arc law w clocks rests form index c get before ss may asks) t few e
