-- What holds on the sides of a world's nodes: the conditions of fibres, the commands and the moment.
use Rattle.std.specs.Prelude.{ℕ, ◌≡◌, ◌*◌, ◌-◌, nat_lt, if◌then◌else◌, List, [], ◌∷◌, map, length, slice_index_or}
use Rattle.sdh_ringmap.specs.declared.Side.{Side}
use Rattle.sdh_request.specs.declared.Command.{Command}
use Rattle.sdh_request.specs.declared.Command.TheVariants as command
use Rattle.sdh_ringmap.specs.declared.terms.Condition.{Condition}
use Rattle.sdh_ringmap.specs.Fibres.{fibre_to}
use Rattle.sdh_plant.specs.Arrivals.{condition_of}
use Rattle.sdh_node.specs.Node.{Node, receiving_on}
use Rattle.sdh_node.specs.Rings.Rounds.{World}
use Rattle.sdh_node.specs.Rings.Runs.{run}
use Rattle.sdh_restoration.specs.Changes.{Stretch}
use Rattle.sdh_restoration.specs.Sides.{Holding}
use Rattle.sdh_node.specs.Rings.Changes.{all_changed, after_stretch}

abbrev pub command_on : Side → Node → Command
command_on d n = (receiving_on d n).local.command

-- what holds on side d of position p in the next round of a world of n positions
unfoldable pub holding_of : ℕ → ℕ → Side → World → Holding
holding_of n p d w = record {
  condition = condition_of w.fibres (fibre_to n p d);
  command = slice_index_or (map (command_on d) w.ring.nodes) p command.Clear;
  moment = w.ring.moment;
}

-- the world in which round t of the stretches begins
abbrev pub world_in : List Stretch → World → ℕ → World
world_in [] w t = w
world_in (s ∷ ss) w t = if nat_lt t s.rounds then run t (all_changed s.changes w) else world_in ss (after_stretch s w) (t - s.rounds)

-- a world whose ring and fibres have n positions
pub record HasPositions (n : ℕ) (w : World) : Type 0 where
  pub conditions : length w.fibres.conditions ≡ 2 * n
  pub nodes : length w.ring.nodes ≡ n

-- the condition of the fibre that ends at position p on a side
abbrev pub condition_to : World → ℕ → Side → Condition
condition_to w p d = condition_of w.fibres (fibre_to (length w.ring.ids) p d)
