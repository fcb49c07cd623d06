-- What is reported of a ring's ports, in the order of the circuits, a before b.
use Rattle.std.specs.Prelude.{ℕ, ◌+◌, ◌*◌, List, [], ◌∷◌}
use Rattle.sdh_payload.specs.Outlet.{Outlet}
use Rattle.sdh_circuits.specs.declared.End.{End}
use Rattle.sdh_circuits.specs.declared.End.TheVariants.{A, B}
use Rattle.sdh_circuits.specs.declared.PortId.{PortId}
use Rattle.sdh_circuits.specs.Provisioned.{Provisioned}
use Rattle.sdh_status.specs.PortLine.{PortLine}

-- the reports of the ports of these circuits, which are counted from `index`; `tells` gives that of one port
abbrev pub of_ports : {L : Type 0} → (ℕ → Provisioned → End → L) → ℕ → List Provisioned → List L
of_ports tells index [] = []
of_ports tells index (c ∷ cs) = tells index c A ∷ tells index c B ∷ of_ports tells (index + 1) cs

-- the line of the port at an end of the circuit of this number, where `gives` says what it delivers
abbrev pub port_line_at : (ℕ → Provisioned → End → Outlet) → ℕ → Provisioned → End → PortLine
port_line_at gives index c e = record { name = c.name; end = e; outlet = gives index c e }

-- the lines of the ports of these circuits, which are counted from a number
abbrev pub lines_from : (ℕ → Provisioned → End → Outlet) → ℕ → List Provisioned → List PortLine
lines_from gives = of_ports (port_line_at gives)

-- what the port at an end of the circuit of this number delivers, where `outlet` says it of each port
abbrev pub end_outlet : (PortId → Outlet) → ℕ → Provisioned → End → Outlet
end_outlet outlet index c e = outlet (record { circuit = index; end = e })

-- the lines of all ports of a ring with these circuits
abbrev pub port_lines : (PortId → Outlet) → List Provisioned → List PortLine
port_lines outlet circuits = lines_from (end_outlet outlet) 0 circuits

-- room enough for the line of a settle step and one for each port of `circuits` circuits: 96 bytes a line
abbrev pub lines_room : ℕ → ℕ
lines_room circuits = 96 + 192 * circuits
