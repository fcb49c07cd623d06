-- Calls leave a ring and its fibres in order.
use Rattle.std.proofs.Common.{ℕ, ◌+◌, ◌≤◌, inr, sym, subst}
use Rattle.sdh_ringmap.specs.declared.Side.{Side}
use Rattle.sdh_request.specs.declared.Command.{Command}
use Rattle.sdh_plant.specs.Fibres.{Fibres}
use Rattle.sdh_node.specs.Receiving.{commanded_by}
use Rattle.sdh_node.specs.Node.{at_receiving, held_for, slips_at}
use Rattle.sdh_node.specs.Rings.Held.{HeldRing, at_place, node_at, place_of_port}
use Rattle.sdh_node.specs.Rings.Rounds.{world}
use Rattle.sdh_restoration.specs.Changes.{Order, Hold, Slip, Now}
use Rattle.sdh_circuits.specs.declared.PortId.{PortId}
use Rattle.sdh_payload.specs.declared.clock.Turn.{Turn}
use Rattle.sdh_payload.specs.Clock.{Clock}
use Rattle.sdh_node.specs.Rings.Clocks.{waiting_at}
use Rattle.sdh_node.proofs.RingLaws.Histories.{calls_change}
use Rattle.sdh_laws.specs.Hearing.Laws.{IsWhole, StayWhole}
use Rattle.sdh_laws.specs.Strangers.Vouched.{IsVouched, IsAside}
use Rattle.sdh_laws.specs.Strangers.Laws.{VouchedRingsStay}

pub whole_commanded : StayWhole → (r : HeldRing) (f : Fibres) (p : ℕ) (d : Side) (c : Command) → IsWhole (world r f)
    → IsWhole (world (record r { nodes = at_place p (at_receiving d (commanded_by c)) r.nodes }) f)
whole_commanded stay r f p d c whole = subst IsWhole (sym (calls_change.command r f p d c)) (stay.change (Order p d c) (world r f) tt whole)

pub whole_held : StayWhole → (r : HeldRing) (f : Fibres) (p turns : ℕ) → turns ≤ 100 → IsWhole (world r f)
    → IsWhole (world (record r { nodes = at_place p (held_for turns) r.nodes }) f)
whole_held stay r f p turns few whole =
    subst IsWhole (sym (calls_change.hold r f p turns)) (stay.change (Hold p turns) (world r f) few whole)

pub whole_slipped : StayWhole → (r : HeldRing) (f : Fibres) (port : PortId) (turn : Turn) (count : ℕ) → waiting_at r port + count ≤ 16
    → IsWhole (world r f) → IsWhole (world (record r { nodes = at_place (place_of_port r port) (slips_at port turn count) r.nodes }) f)
whole_slipped stay r f port turn count few whole =
    subst IsWhole (sym (calls_change.slip r f port turn count)) (stay.change (Slip port turn count) (world r f) few whole)

pub whole_later : StayWhole → (r : HeldRing) (f : Fibres) (t : ℕ) → IsWhole (world r f) → IsWhole (world (record r { moment = t }) f)
whole_later stay r f t whole = subst IsWhole (sym (calls_change.moment r f t)) (stay.change (Now t) (world r f) tt whole)

-- ---- and vouched for, but for those that hold the controller of a node that is neither idle nor isolated

module _ (stay : VouchedRingsStay) (r : HeldRing) (f : Fibres) (clocks : PortId → ℕ → Clock) (is : IsVouched clocks (world r f)) where
  pub vouched_commanded : (p : ℕ) (d : Side) (c : Command) → IsVouched clocks
      (world (record r { nodes = at_place p (at_receiving d (commanded_by c)) r.nodes }) f)
  vouched_commanded p d c =
      subst (IsVouched clocks) (sym (calls_change.command r f p d c)) (stay.change (Order p d c) (world r f) clocks tt tt is)

  pub vouched_slipped : (port : PortId) (turn : Turn) (count : ℕ) → waiting_at r port + count ≤ 16
      → IsVouched clocks (world (record r { nodes = at_place (place_of_port r port) (slips_at port turn count) r.nodes }) f)
  vouched_slipped port turn count few =
      subst (IsVouched clocks) (sym (calls_change.slip r f port turn count))
      (stay.change (Slip port turn count) (world r f) clocks few tt is)

  pub vouched_held : (p turns : ℕ) → turns ≤ 100 → IsAside (node_at r.nodes p).state
      → IsVouched clocks (world (record r { nodes = at_place p (held_for turns) r.nodes }) f)
  vouched_held p turns few aside =
      subst (IsVouched clocks) (sym (calls_change.hold r f p turns)) (stay.change (Hold p turns) (world r f) clocks few (inr aside) is)

  pub vouched_later : (t : ℕ) → IsVouched clocks (world (record r { moment = t }) f)
  vouched_later t = subst (IsVouched clocks) (sym (calls_change.moment r f t)) (stay.change (Now t) (world r f) clocks tt tt is)
