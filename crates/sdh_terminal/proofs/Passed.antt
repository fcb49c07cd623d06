-- The number of AU-4s that are sent.
use Rattle.std.proofs.Common.{◌≡◌, ℕ, List, Option, length}
use Rattle.sdh_basics.proofs.CellsLaws.{length-map_from}
use Rattle.sdh_terminal.specs.Passing.{Input, aus_sent}

pub length-aus_sent : (input : ℕ → Input) (states : List (Option ℕ)) → length (aus_sent input states) ≡ length states
unfolding aus_sent
length-aus_sent input states = length-map_from _ 0 states
