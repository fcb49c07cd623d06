-- Room for what the ports of the nodes of a ring deliver.
use Rattle.std.specs.Prelude.{ℕ, List, length}
use Rattle.sdh_ringmap.specs.Places.{position_of}
use Rattle.sdh_circuits.specs.Provisioned.{Provisioned}
use Rattle.sdh_payload.specs.Outlet.{Outlet}
use Rattle.sdh_terminal.specs.Tributaries.{tributaries_at}

-- how many ports of these circuits are at a position
abbrev pub ports_at : List Provisioned → ℕ → ℕ
ports_at circuits p = length (tributaries_at (position_of p) circuits)

-- for how many ports there is room, by the position of their node, and what the ports of one node delivered
pub record Rooms : Type 0 where
  pub counts : List ℕ
  pub taken : List Outlet
