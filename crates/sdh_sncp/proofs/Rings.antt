-- What is true of a path ring, call by call.
use Rattle.std.proofs.Common.{◌≡◌, ℕ, ◌+◌, ◌/◌, ◌<◌, Bool, true, false, List, length, map, ap, refl, sym, subst, ◌∙◌, arith}
use Rattle.std.specs.Prelude.{All, ◌^◌, Result, Ok, Err, slice_get}
use Rattle.std.proofs.lemmas.Option.{get_or_from_slice_get, slice_get_within}
use Rattle.sdh_ringmap.specs.Rates.{n_of}
use Rattle.sdh_ringmap.specs.Ids.{AreIds}
use Rattle.sdh_ringmap.specs.Places.{position_of}
use Rattle.sdh_circuits.specs.declared.PortId.{PortId}
use Rattle.sdh_circuits.specs.Provisioned.{end_of}
use Rattle.sdh_circuits.specs.Provisioning.{Provisioning, IsProvisioning, AreCircuits}
use Rattle.sdh_circuits.specs.Kept.{KeepsRing}
use Rattle.sdh_request.specs.declared.settings.Settings.{Settings}
use Rattle.sdh_terminal.specs.Tributaries.{HasPort, outlet_of}
use Rattle.sdh_rounds.specs.Held as held
use Rattle.sdh_rounds.specs.Held.{IsNodeOf}
use Rattle.sdh_rounds.specs.Rounds as any_round
use Rattle.sdh_rounds.specs.Faults.{BreaksRound}
use Rattle.sdh_rounds.specs.Outcome.{Outcome, IsOneRound}
use Rattle.sdh_rounds.specs.declared.faults.PlantFault.{PlantFault as Fault}
use Rattle.sdh_rounds.specs.declared.faults.SettleError.{SettleError}
use Rattle.sdh_rounds.specs.declared.faults.SettleError.TheVariants.{Unsettled, PlantFault}
use Rattle.sdh_rounds.proofs.Keeping.{keeps_with, keeps_broken}
use Rattle.sdh_sncp.specs.Node.{PathNode, new_path_node}
use Rattle.sdh_sncp.specs.Stations.{path_node, MayRun}
use Rattle.sdh_sncp.specs.Ring.{HeldPath, new_nodes, new_ring, World, IsRound, nodes_with, outlet_at}
use Rattle.sdh_sncp.specs.Placed.{IsPlacedPathRing, IsPlaced}
use Rattle.sdh_sncp.specs.Fixed.{fixed_path, AreAlone, HaveRun, IsRing}
use Rattle.sdh_sncp.specs.Laws.{IsPairedPathRing, IsWholePathRing, HasPathCircuits, KeepsPathPromises}
use Rattle.sdh_circuits.proofs.Rings.{circuits_are, end_inside}
use Rattle.sdh_terminal.proofs.Found.{has_own}
use Rattle.sdh_sncp.proofs.Keeping.{fixed_told, fixed_next, all_rates, all_run_heard, all_run_next, node_is, has_fixed, new_has}
use Rattle.sdh_sncp.proofs.Keeping.{all_new, outlet_is}
use Rattle.sdh_sncp.proofs.Nodes.{placed_round}
use Rattle.sdh_sncp.proofs.New.{new_placed}
use Rattle.sdh_sncp.proofs.Converging.{steps_answer, steps_deliver}
use Rattle.sdh_sncp.proofs.Wholes.{whole_settled, whole_unsettled}

-- ---- a ring and its nodes

ring_with : (r : HeldPath) (ns : List PathNode) (rounds : ℕ) (broken : Bool) → IsRing r → map fixed_path ns ≡ map fixed_path r.nodes
    → (broken ≡ false → HaveRun rounds ns)
    → (broken ≡ false → IsPlacedPathRing (record r { nodes = ns; rounds = rounds; broken = broken }))
    → IsRing (record r { nodes = ns; rounds = rounds; broken = broken })
ring_with r ns rounds broken h same going placed = record {
  ids = h.ids;
  circuits = h.circuits;
  slots = h.slots;
  kept = h.kept;
  alone = h.alone;
  nodes = same ∙ h.nodes;
  going = going;
  placed = placed;
}

true_is_not_false : {P : Type 0} → true ≡ false → P
true_is_not_false e = cc

pub may_receive : (r : HeldPath) → IsRing r → All (λ (n : PathNode). n.west.section.rate ≡ r.settings.rate) r.nodes
may_receive r h = all_rates r.settings r.ids r.circuits.circuits (length r.ids) r.nodes h.nodes

pub may_send : (r : HeldPath) → IsRing r → r.broken ≡ false → r.rounds < 2 ^ 32 → All (MayRun r.moment) r.nodes
may_send r h whole few = λ p d lt. (let e = h.going whole p d lt in omega arith)

-- ---- a new ring

-- a new path ring is a new ring as `sdh_rounds` defines it for any kind of node
pub fresh_is : (s : Settings) (ids : List ℕ) (circuits : Provisioning) → held.new_ring path_node s ids circuits ≡ new_ring s ids circuits
unfolding new_nodes
fresh_is s ids circuits = refl

pub new_is_ring : (s : Settings) (ids : List ℕ) (circuits : Provisioning) → AreIds ids → IsProvisioning circuits
    → circuits.slots ≡ n_of s.rate / 2 → KeepsRing circuits ids → AreAlone circuits.circuits → IsRing (new_ring s ids circuits)
new_is_ring s ids circuits are form slots kept alone = record {
  ids = are;
  circuits = form;
  slots = slots;
  kept = kept;
  alone = alone;
  nodes = refl;
  going = λ _. all_new s ids circuits.circuits (length ids);
  placed = λ _. new_placed s ids circuits are;
}

-- ---- a round

ring_ran : (w after : World) → IsRing w.ring → w.ring.broken ≡ false → IsRound w after → IsRing after.ring
unfolding any_round.round_with
ring_ran w after h whole is =
    let heard = nodes_with is.arrivals w in
    subst (λ (x : World). IsRing x.ring) (sym is.after_is)
    (ring_with w.ring (map (path_node.after w.ring.moment) heard) (w.ring.rounds + 1) w.ring.broken h
    (keeps_with path_node fixed_path fixed_told (λ _. fixed_next) is.arrivals w)
    (λ _. all_run_next w.ring.rounds heard (all_run_heard is.arrivals w.ring.rounds w.ring.nodes (h.going whole)))
    (λ _. placed_round w is.arrivals (h.placed whole)))

ring_broke : (w left : World) → IsRing w.ring → BreaksRound path_node w left → IsRing left.ring
ring_broke w left h b =
    subst IsRing (sym b.ring) (ring_with w.ring left.ring.nodes w.ring.rounds true h
    (keeps_broken path_node fixed_path fixed_told (λ _. fixed_next) w left b) (λ e. true_is_not_false e) (λ e. true_is_not_false e))

-- a ring stays one over a round, whatever the round answered
pub ring_after : (exact : Bool) (w left : World) (before after : ℕ) (result : Result (Unit {0}) Fault) → IsRing w.ring
    → w.ring.broken ≡ false → IsOneRound path_node exact w result left before after → IsRing left.ring
ring_after exact w left before after (Ok u) h whole one = ring_ran w left h whole one.ok
ring_after exact w left before after (Err e) h whole one = ring_broke w left h one.breaks

-- ---- its circuits

pub rings_circuits : (r : HeldPath) → IsRing r → HasPathCircuits r
rings_circuits r is = record {
  are = subst (λ s. AreCircuits (length r.ids) s r.circuits.circuits) is.slots
      (circuits_are r.circuits r.ids is.circuits is.kept);
  alone = is.alone;
}

-- ---- the node of a port

pub has_port : (r : HeldPath) (id : PortId) (n : PathNode) → IsRing r → IsNodeOf r id n → HasPort n.ports id
has_port r id n h node =
    let cs = r.circuits.circuits in
    let c = node.place.circuit in
    let p = (end_of c id.end).0 in
    let below : id.circuit < length cs = slice_get_within cs id.circuit c node.place.circuit_is in
    let read = get_or_from_slice_get cs id.circuit c c node.place.circuit_is in
    let low : p < length r.ids = end_inside r.circuits r.ids id.circuit c id.end h.circuits h.kept below read in
    let there = get_or_from_slice_get r.nodes p n n (ap (slice_get r.nodes) (sym node.place.place) ∙ node.there) in
    subst (λ (m : PathNode). HasPort m.ports id) there
    (has_fixed id _ (new_path_node r.settings r.ids cs (position_of p))
    (node_is r.settings r.ids cs (length r.ids) r.nodes p n h.nodes low) (new_has r.settings r.ids cs p id (has_own cs c id below read)))

pub outlet_there : (r : HeldPath) (id : PortId) (n : PathNode) → IsNodeOf r id n → outlet_at r id ≡ outlet_of id n.ports
outlet_there r id n node =
    outlet_is r id node.place.circuit n node.place.circuit_is (ap (slice_get r.nodes) (sym node.place.place) ∙ node.there)

-- ---- a settle step

-- nodes are where they belong, so it is enough that ring and fibres are paired
abbrev whole_by : (w : World) → IsPlaced w → IsPairedPathRing w → IsWholePathRing w
whole_by w placed paired = record { placed = placed; paired = paired }

pub promises_kept : (w left : World) (limit : ℕ) (result : Result (Unit {0}) SettleError) → HasPathCircuits w.ring → IsPlaced w
    → Outcome path_node w limit result left → KeepsPathPromises w limit result left
promises_kept w left limit (Ok u) fit placed s = record {
  owed = λ paired. steps_deliver w left limit fit s (whole_by w placed paired);
  paired = λ _ paired. (whole_settled w left limit s (whole_by w placed paired)).paired;
  answers = λ paired large e. cc;
}
promises_kept w left limit (Err Unsettled) fit placed s = record {
  owed = tt;
  paired = λ _ paired. (whole_unsettled w left limit s (whole_by w placed paired)).paired;
  answers = λ paired large _. steps_answer w left limit fit (whole_by w placed paired) large s;
}
promises_kept w left limit (Err PlantFault) fit placed s = record {
  owed = tt;
  paired = λ no paired. absurd (no refl);
  answers = λ paired large e. cc;
}
