-- The place of each port among the ports at a node.
use Rattle.std.specs.Prelude.{ℕ, ◌≡◌, ◌/◌, ◌%◌, ◌==◌, if◌then◌else◌, Option, None, List, slice_index_or, position}
use Rattle.sdh_circuits.specs.declared.End.TheVariants.{A, B}
use Rattle.sdh_circuits.specs.declared.PortId.{PortId}
use Rattle.sdh_circuits.specs.Ends.{port_number}
use Rattle.sdh_terminal.specs.Tributaries.{Tributary, is_port}

-- the port of this number
abbrev pub port_numbered : ℕ → PortId
port_numbered k = record { circuit = k / 2; end = if k % 2 == 0 then A else B }

-- `places` holds, at the number of each port, its place among `ports`, or None where it isn't one of them
abbrev pub ArePlaces : List (Option ℕ) → List Tributary → Type 0
ArePlaces places ports = (id : PortId) → slice_index_or places (port_number id) None ≡ position (is_port id) ports
