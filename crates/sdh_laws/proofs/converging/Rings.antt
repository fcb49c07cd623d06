-- A ring for which the laws hold.
use Rattle.std.proofs.Common.{◌≡◌, ℕ, zero, suc, ◌+◌, ◌<◌, true, [], ◌∷◌, length, Some, refl, ap, sym, subst, ◌∙◌, arith}
use Rattle.std.specs.Prelude.{slice_get, slice_index}
use Rattle.std.proofs.lemmas.List.Elements.{All-nil, All-cons}
use Rattle.sdh_ringmap.specs.Ids.{AreIds}
use Rattle.sdh_ringmap.specs.declared.Side.TheVariants.{West, East}
use Rattle.sdh_circuits.specs.Naming.{is_name}
use Rattle.sdh_circuits.specs.Provisioned.{Provisioned}
use Rattle.sdh_circuits.specs.Provisioning.{IsInRing, IsInSlots, HasOffsets, AreCircuits}
use Rattle.sdh_signal.specs.Laws.{RingsSettle}
use Rattle.sdh_ringmap.specs.declared.terms.Condition.TheVariants.{Cut, Degraded}
use Rattle.sdh_circuits.specs.declared.End.TheVariants.{A}
use Rattle.sdh_circuits.specs.Ends.{port_id}
use Rattle.sdh_payload.specs.declared.clock.Turn.TheVariants.{Up}
use Rattle.sdh_payload.specs.Clock.{Clock, waiting}
use Rattle.sdh_plant.specs.Fibres.{Fibres, IsHonest}
use Rattle.sdh_ringmap.specs.Fibres.{IsConditionAt}
use Rattle.sdh_request.specs.declared.settings.Settings.{Settings}
use Rattle.sdh_node.specs.Rings.Clocks.{first_clock, waiting_at}
use Rattle.sdh_restoration.specs.Changes.{Fibre, Slip, Stretch}
use Rattle.sdh_node.specs.Rings.Changes.{after_stretch, new_world}
use Rattle.sdh_node.specs.Rings.Laws.{MayHappen}
use Rattle.sdh_node.proofs.RingLaws.Clocks.{clocks_go_on}
use Rattle.sdh_laws.specs.Hearing.Laws.{MayStart}
use Rattle.sdh_laws.proofs.hearing.Changes.{new_worlds_are_whole}
use Rattle.sdh_laws.proofs.hearing.Staying.{left_stretch}
use Rattle.sdh_laws.proofs.carrying.Owed.{port_is_there}
use Rattle.sdh_laws.specs.Converging.Rings.{settings, three, c1, one_circuit, troubles, ARingOccurs}
use Rattle.sdh_laws.proofs.converging.HealthyRounds.{healthy_steps_settle}
use Rattle.sdh_laws.proofs.converging.Stretches.{stretches_converge}

id_at : (i : ℕ) → i < length three → slice_index three i ≡ i + 1
id_at zero h = refl
id_at (suc zero) h = refl
id_at (suc (suc zero)) h = refl
id_at (suc (suc (suc i))) h = absurd (omega arith)

pub three_ids : AreIds three
three_ids = record {
  few = omega arith;
  enough = omega arith;
  small = λ i h. (let e = id_at i h in omega arith);
  distinct = λ i j h k same. (let e = id_at i h in let f = id_at j k in omega arith);
}

-- the only circuit is number 0
only : (i : ℕ) (c : Provisioned) → slice_get (c1 ∷ []) i ≡ Some c → i ≡ 0
only zero c e = refl
only (suc i) c e = cc

pub circuits_are : AreCircuits 3 2 (c1 ∷ [])
unfolding is_name
circuits_are = record {
  in_ring =
      All-cons (IsInRing 3) c1 [] (record { from_inside = omega arith; to_inside = omega arith; two_ends = λ e. omega arith })
      (All-nil (IsInRing 3));
  in_slots = All-cons (IsInSlots 2) c1 [] (record { from_1 = omega arith; small = omega arith }) (All-nil (IsInSlots 2));
  offsets = All-cons HasOffsets c1 [] (record { a = omega arith; b = omega arith }) (All-nil HasOffsets);
  named = All-cons (λ c. is_name c.name ≡ true) c1 [] refl (All-nil (λ c. is_name c.name ≡ true));
  named_apart = λ i j c d e f same. only i c e ∙ sym (only j d f);
  apart = λ i j s c d e f x y same. only i c e ∙ sym (only j d f);
}

-- no slip waits at the port before
waits_none : (f : Fibres) → IsHonest f → waiting_at (new_world settings three one_circuit f).ring (port_id 0 A) ≡ 0
unfolding first_clock
waits_none f honest =
    let w = new_world settings three one_circuit f in
    let there = port_is_there w (new_worlds_are_whole settings three one_circuit f three_ids honest) 0 c1 A refl (omega arith) in
    ap (λ (c : Clock). waiting c) (clocks_go_on.new settings three one_circuit (port_id 0 A) there)

may_happen : (f : Fibres) → IsHonest f → MayHappen (new_world settings three one_circuit f) troubles
may_happen f honest =
    let w = new_world settings three one_circuit f in
    let first : Stretch = record { changes = Slip (port_id 0 A) Up 3 ∷ Fibre 0 East Cut ∷ Fibre 1 West Cut ∷ []; rounds = 129 } in
    let degraded : IsConditionAt (after_stretch first w).ring.settings.rate (Degraded 3) =
    subst (λ (s : Settings). IsConditionAt s.rate (Degraded 3)) (sym (left_stretch first w).settings) (omega arith, omega arith) in
    ((omega (arith, waits_none f honest), (tt, (tt, tt))), ((degraded, (tt, (tt, tt))), tt))

pub a_ring_occurs : RingsSettle → ARingOccurs
a_ring_occurs law f honest =
    let may : MayStart settings three f = record { ids_ok = three_ids; honest = honest; least = omega arith } in
    record {
      may = may;
      circuits = circuits_are;
      happen = may_happen f honest;
      steps = healthy_steps_settle settings three one_circuit f may circuits_are;
      converges = stretches_converge law settings three one_circuit f troubles may (may_happen f honest) circuits_are;
    }
