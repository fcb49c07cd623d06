-- Deliveries that wait at a node of a path ring until somebody asks, by what its cross-connect keeps of the last round.
use Rattle.std.proofs.Common.{◌≡◌, ℕ, Bool, List, length, refl}
use Rattle.sdh_basics.proofs.CellsLaws.{length-map_from}
use Rattle.sdh_ringmap.specs.declared.terms.Rate.{Rate}
use Rattle.sdh_ringmap.specs.declared.Pos.{Pos}
use Rattle.sdh_ringmap.specs.Rates.{n_of}
use Rattle.sdh_ringmap.specs.declared.Side.{Side}
use Rattle.sdh_ringmap.specs.declared.Side.TheVariants.{West, East}
use Rattle.sdh_circuits.specs.Provisioned.{Provisioned}
use Rattle.sdh_plant.specs.Fibres.{Arrival}
use Rattle.sdh_terminal.specs.Sending.{Sending}
use Rattle.sdh_terminal.specs.Tributaries.{Tributary, tributaries_at, delivered_with, all_delivered_with}
use Rattle.sdh_terminal.proofs.Waiting.{silent-lines, new-waiting}
use Rattle.sdh_sncp.specs.Node.{PathCross, new_path_cross, cross_told, path_node_told, lines_of, path_drops, path_dropped_to}
use Rattle.sdh_sncp.proofs.Turning.{node_of}

abbrev pub delivers : PathCross → List Tributary → List Tributary
delivers x ports = all_delivered_with (path_dropped_to x) ports

pub count_waits : (x : PathCross) (ports : List Tributary) → length (delivers x ports) ≡ length ports
count_waits x ports = length-map_from (λ i t. delivered_with (path_dropped_to x) t) 0 ports

told_later : (side : Side) (a : Arrival) (x : PathCross) (ports : List Tributary) → delivers (cross_told side a x) ports ≡ delivers x ports
unfolding path_drops
told_later West a x ports = refl
told_later East a x ports = refl

-- a node on whose side something arrived
pub node_told : (side : Side) (a : Arrival) (threshold rounds : ℕ) (x : PathCross) (kept : List Tributary) (wo eo : Sending) (calm : Bool)
    → node_of threshold rounds (cross_told side a x) (delivers (cross_told side a x) kept) wo eo calm
    ≡ path_node_told side a (node_of threshold rounds x (delivers x kept) wo eo calm)
node_told West a threshold rounds x kept wo eo calm =
    λ j. node_of threshold rounds (cross_told West a x) (told_later West a x kept j) wo eo calm
node_told East a threshold rounds x kept wo eo calm =
    λ j. node_of threshold rounds (cross_told East a x) (told_later East a x kept j) wo eo calm

-- before the first round
pub new_waits : (rate : Rate) (circuits : List Provisioned) (at : Pos)
    → delivers (new_path_cross rate circuits at) (tributaries_at at circuits) ≡ tributaries_at at circuits
new_waits rate circuits at =
    let x = new_path_cross rate circuits at in
    new-waiting (path_dropped_to x) (λ t. silent-lines (lines_of x) (n_of rate) (n_of rate) refl refl (path_drops x t.side t.slot.0)) at circuits
