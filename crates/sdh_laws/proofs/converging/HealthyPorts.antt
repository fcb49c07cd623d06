-- What ports of a healthy ring have delivered after each settle step.
use Rattle.std.proofs.Common.{◌≡◌, ℕ, ◌+◌, ◌-◌, ◌*◌, false, List, [], length, Some, ap, ◌∙◌, arith}
use Rattle.std.specs.Prelude.{slice_get, ◌/◌}
use Rattle.sdh_ringmap.specs.Rates.{n_of}
use Rattle.sdh_circuits.specs.declared.PortId.{PortId}
use Rattle.sdh_circuits.specs.Provisioning.{Provisioning}
use Rattle.sdh_payload.specs.Clock.{ticks}
use Rattle.sdh_plant.specs.Fibres.{Fibres}
use Rattle.sdh_signal.proofs.Ways.{end_inside}
use Rattle.sdh_request.specs.declared.settings.Settings.{Settings}
use Rattle.sdh_node.specs.Rings.Clocks.{first_clock, clocks_by, HasPortIn, clocks_from}
use Rattle.sdh_node.proofs.RingLaws.Clocks.{clocks_go_on}
use Rattle.sdh_laws.proofs.carrying.Owed.{port_is_there}
use Rattle.sdh_restoration.specs.Applied.{is_applied}
use Rattle.sdh_circuits.specs.Ends.{other_end, port_id}
use Rattle.sdh_laws.specs.Carrying.Laws.{due_by_clocks}
use Rattle.sdh_signal.specs.Laws.{StillRingsAreSettled}
use Rattle.sdh_node.specs.Rings.Held.{outlet_at}
use Rattle.sdh_node.specs.Rings.Rounds.{World}
use Rattle.sdh_node.specs.Rings.Runs.{run, course}
use Rattle.sdh_node.specs.Rings.Quiet.{EndsWindow}
use Rattle.sdh_node.specs.Rings.Changes.{new_world}
use Rattle.sdh_laws.proofs.hearing.Staying.{left_run}
use Rattle.sdh_laws.specs.Carrying.Windows.{span_requests_of}
use Rattle.sdh_laws.proofs.carrying.Settles.{window_restores, due_by}
use Rattle.sdh_laws.proofs.carrying.Ways.{layout_run}
use Rattle.sdh_laws.specs.Converging.Healthy.{HealthyStepsDeliver}
use Rattle.sdh_laws.proofs.converging.HealthySignals.{begin_whole}
use Rattle.sdh_laws.proofs.converging.HealthyRounds.{calm_from, left_steps, healthy_rings_apply_nothing}

-- a clock that starts with the ring
clock_from_new : (s : Settings) (ids : List ℕ) (circuits : Provisioning) (f : Fibres) (id : PortId)
    → HasPortIn (new_world s ids circuits f).ring id → (t : ℕ)
    → clocks_from (new_world s ids circuits f) id t ≡ clocks_by circuits.circuits [] id t
clock_from_new s ids circuits f id there t =
    ap (λ c. ticks (t - 0) c) (clocks_go_on.new s ids circuits id there)
    ∙ ap (λ k. ticks k (first_clock circuits.circuits id)) (let all : t - 0 ≡ t = omega arith in all)

pub healthy_steps_deliver : StillRingsAreSettled → HealthyStepsDeliver
healthy_steps_deliver law s ids circuits f may form steps index c some get e =
    let w = new_world s ids circuits f in
    let k = 128 * steps + 1 in
    let left = left_run k w in
    let size : length (run k w).ring.ids ≡ length ids = ap length left.ids in
    let number : (run k w).ring.rounds - 1 ≡ 128 * steps = (let r = left.rounds in omega arith) in
    let few = may.ids_ok.few in
    let ends : EndsWindow (course w) k = record {
      long = omega arith;
      calm = λ j early late. calm_from s ids circuits f may form j (omega arith);
      place = omega arith;
    } in
    let rs = span_requests_of (run k w) in
    let nothing : is_applied rs ≡ (λ span. false) = λ i span. healthy_rings_apply_nothing s ids circuits f may k span (omega arith) i in
    let there : slice_get (run k w).ring.circuits.circuits index ≡ Some c = ap (λ l. slice_get l.circuits index) (layout_run w k) ∙ get in
    let restored = window_restores law w (begin_whole s ids circuits f may) k ends form in
    let id = port_id index (other_end e) in
    let in_ring =
    port_is_there w (begin_whole s ids circuits f may) index c (other_end e) get
    (end_inside (length ids) (n_of s.rate / 2) circuits.circuits form index c get (other_end e)) in
    ap (λ (v : World). outlet_at v.ring (record { circuit = index; end = e })) (left_steps s ids circuits f may steps some)
    ∙ restored.ports index c there e
    ∙ due_by (length (run k w).ring.ids) (is_applied rs) c e (clocks_from w id) (clocks_by circuits.circuits [] id)
    ((run k w).ring.rounds - 1) (clock_from_new s ids circuits f id in_ring _)
    ∙ λ i. due_by_clocks (size i) (nothing i) c e (clocks_by circuits.circuits [] id) (number i)
