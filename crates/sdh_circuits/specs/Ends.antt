-- The two ends of a circuit, and the ports at them.
use Rattle.std.specs.Prelude.{ℕ, ◌+◌, ◌*◌}
use Rattle.sdh_ringmap.specs.declared.Side.{Side}
use Rattle.sdh_ringmap.specs.declared.Side.TheVariants.{West, East}
use Rattle.sdh_circuits.specs.declared.End.{End}
use Rattle.sdh_circuits.specs.declared.End.TheVariants.{A, B}
use Rattle.sdh_circuits.specs.declared.PortId.{PortId}

-- the other end of a circuit
abbrev pub other_end : End → End
other_end A = B
other_end B = A

-- the side of the node at this end on which the circuit's arc lies
abbrev pub inward : End → Side
inward A = East
inward B = West

-- the port at an end of the circuit of this number
abbrev pub port_id : ℕ → End → PortId
port_id index e = record { circuit = index; end = e }

-- the number of an end: A has 0, and B has 1
abbrev pub end_number : End → ℕ
end_number A = 0
end_number B = 1

-- the number of a port: the ports of a ring's circuits are counted from 0, circuit by circuit, A before B
abbrev pub port_number : PortId → ℕ
port_number id = 2 * id.circuit + end_number id.end
