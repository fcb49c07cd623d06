-- Deliveries that wait at a node until they are asked for, by what its cross-connect keeps of the last round.
use Rattle.std.proofs.Common.{◌≡◌, ℕ, ◌+◌, ◌*◌, ◌/◌, ◌≤◌, Bool, List, length, refl, subst, arith}
use Rattle.std.specs.List.{position}
use Rattle.sdh_basics.proofs.CellsLaws.{length-map_from}
use Rattle.sdh_ringmap.specs.declared.Pos.{Pos}
use Rattle.sdh_ringmap.specs.declared.terms.Rate.{Rate}
use Rattle.sdh_ringmap.specs.Rates.{n_of}
use Rattle.sdh_ringmap.specs.declared.Side.{Side}
use Rattle.sdh_ringmap.specs.declared.Side.TheVariants.{West, East}
use Rattle.sdh_request.specs.declared.Command.{Command}
use Rattle.sdh_request.specs.declared.settings.Settings.{Settings}
use Rattle.sdh_circuits.specs.declared.PortId.{PortId}
use Rattle.sdh_circuits.specs.Provisioned.{Provisioned}
use Rattle.sdh_payload.specs.declared.clock.Turn.{Turn}
use Rattle.sdh_plant.specs.Fibres.{Arrival}
use Rattle.sdh_terminal.specs.Tributaries.{Tributary, tributaries_at, is_port, HasPort, waiting_of, with_slips}
use Rattle.sdh_terminal.proofs.Waiting.{place-waiting, has-under, waiting-under, slips-waiting, silent-lines, new-waiting}
use Rattle.sdh_node.specs.Receiving.{commanded_by, arrived_on}
use Rattle.sdh_node.specs.Crossing.{Cross, at_side, lines_of, drops, dropped_to, delivered_to, all_delivered}
use Rattle.sdh_node.specs.Node.{new_cross, at_receiving, IsNode}
use Rattle.sdh_terminal.specs.Sending.{Sending}
use Rattle.sdh_node.proofs.Turning.{node_of}

-- a slot of the first half is twice in all slots
pub twice_below : (rate : Rate) (k : ℕ) → k ≤ n_of rate / 2 → 2 * k ≤ n_of rate
twice_below rate k h = omega arith

pub count_waits : (x : Cross) (ports : List Tributary) → length (all_delivered x ports) ≡ length ports
unfolding all_delivered
count_waits x ports = length-map_from (λ i t. delivered_to x t) 0 ports

pub place_waits : (x : Cross) (id : PortId) (ports : List Tributary)
    → position (is_port id) (all_delivered x ports) ≡ position (is_port id) ports
unfolding all_delivered
place_waits x id ports = place-waiting (dropped_to x) id ports

pub has_waits : (x : Cross) (id : PortId) (ports : List Tributary) → HasPort (all_delivered x ports) id → HasPort ports id
unfolding all_delivered
has_waits x id ports h = has-under (dropped_to x) id ports h

pub waiting_waits : (x : Cross) (id : PortId) (ports : List Tributary) → waiting_of id (all_delivered x ports) ≡ waiting_of id ports
unfolding all_delivered
waiting_waits x id ports = waiting-under (dropped_to x) id ports

pub few_wait : (id : PortId) (count : ℕ) (x : Cross) (ports : List Tributary) → waiting_of id (all_delivered x ports) + count ≤ 16
    → waiting_of id ports + count ≤ 16
few_wait id count x ports few = subst (λ w. w + count ≤ 16) (waiting_waits x id ports) few

-- ---- between rounds

pub slips_later : (x : Cross) (id : PortId) (turn : Turn) (count : ℕ) (ports : List Tributary)
    → all_delivered x (with_slips id turn count ports) ≡ with_slips id turn count (all_delivered x ports)
unfolding all_delivered
slips_later x id turn count ports = slips-waiting (dropped_to x) (λ turn count t. refl) id turn count ports

pub commanded_later : (side : Side) (c : Command) (x : Cross) (ports : List Tributary)
    → all_delivered (at_side side (commanded_by c) x) ports ≡ all_delivered x ports
unfolding all_delivered drops
commanded_later West c x ports = refl
commanded_later East c x ports = refl

pub arrived_later : (side : Side) (a : Arrival) (x : Cross) (ports : List Tributary)
    → all_delivered (at_side side (arrived_on a) x) ports ≡ all_delivered x ports
unfolding all_delivered drops
arrived_later West a x ports = refl
arrived_later East a x ports = refl

-- a node on whose side a command was given, or something arrived
pub node_commanded : (side : Side) (c : Command) (s : Settings) (rounds turns : ℕ) (x : Cross) (kept : List Tributary) (wo eo : Sending)
    (calm : Bool) → node_of s rounds turns (at_side side (commanded_by c) x) (all_delivered (at_side side (commanded_by c) x) kept) wo eo calm
    ≡ at_receiving side (commanded_by c) (node_of s rounds turns x (all_delivered x kept) wo eo calm)
node_commanded West c s rounds turns x kept wo eo calm =
    λ j. node_of s rounds turns (at_side West (commanded_by c) x) (commanded_later West c x kept j) wo eo calm
node_commanded East c s rounds turns x kept wo eo calm =
    λ j. node_of s rounds turns (at_side East (commanded_by c) x) (commanded_later East c x kept j) wo eo calm

pub node_told : (side : Side) (a : Arrival) (s : Settings) (rounds turns : ℕ) (x : Cross) (kept : List Tributary) (wo eo : Sending)
    (calm : Bool) → node_of s rounds turns (at_side side (arrived_on a) x) (all_delivered (at_side side (arrived_on a) x) kept) wo eo calm
    ≡ at_receiving side (arrived_on a) (node_of s rounds turns x (all_delivered x kept) wo eo calm)
node_told West a s rounds turns x kept wo eo calm =
    λ j. node_of s rounds turns (at_side West (arrived_on a) x) (arrived_later West a x kept j) wo eo calm
node_told East a s rounds turns x kept wo eo calm =
    λ j. node_of s rounds turns (at_side East (arrived_on a) x) (arrived_later East a x kept j) wo eo calm

-- ---- before the first round

pub new_waits : (s : Settings) (ids : List ℕ) (circuits : List Provisioned) (at : Pos)
    → all_delivered (new_cross s ids circuits at) (tributaries_at at circuits) ≡ tributaries_at at circuits
unfolding all_delivered
new_waits s ids circuits at =
    let x = new_cross s ids circuits at in
    new-waiting (dropped_to x) (λ t. silent-lines (lines_of x) (n_of s.rate) (n_of s.rate) refl refl (drops x t.side t.slot.0)) at circuits

-- what is true of every node stays
pub commanded_stays : (side : Side) (c : Command) (s : Settings) (rounds turns : ℕ) (x : Cross) (kept : List Tributary) (wo eo : Sending)
    (calm : Bool) → IsNode (node_of s rounds turns x kept wo eo calm)
    → IsNode (node_of s rounds turns (at_side side (commanded_by c) x) kept wo eo calm)
commanded_stays West c s rounds turns x kept wo eo calm is = record {
  west_rate = is.west_rate;
  west_out_rate = is.west_out_rate;
  east_out_rate = is.east_out_rate;
  moments = is.moments;
  held = is.held;
  ports = is.ports;
}
commanded_stays East c s rounds turns x kept wo eo calm is = record {
  west_rate = is.west_rate;
  west_out_rate = is.west_out_rate;
  east_out_rate = is.east_out_rate;
  moments = is.moments;
  held = is.held;
  ports = is.ports;
}

-- what is true of every node stays
pub arrived_stays : (side : Side) (a : Arrival) (s : Settings) (rounds turns : ℕ) (x : Cross) (kept : List Tributary) (wo eo : Sending)
    (calm : Bool) → IsNode (node_of s rounds turns x kept wo eo calm)
    → IsNode (node_of s rounds turns (at_side side (arrived_on a) x) kept wo eo calm)
arrived_stays West a s rounds turns x kept wo eo calm is = record {
  west_rate = is.west_rate;
  west_out_rate = is.west_out_rate;
  east_out_rate = is.east_out_rate;
  moments = is.moments;
  held = is.held;
  ports = is.ports;
}
arrived_stays East a s rounds turns x kept wo eo calm is = record {
  west_rate = is.west_rate;
  west_out_rate = is.west_out_rate;
  east_out_rate = is.east_out_rate;
  moments = is.moments;
  held = is.held;
  ports = is.ports;
}
