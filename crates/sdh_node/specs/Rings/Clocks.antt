-- The clocks of a ring's ports, and what the stretches of a run make of them. No frame occurs in these definitions.
-- That a clock goes by what happened at its port is the law `clocks_tell_what_happened`.
use Rattle.std.specs.Prelude.{ℕ, ◌-◌, nat_lt, if◌then◌else◌, Option, IsSome, List, [], ◌∷◌, slice_get}
use Rattle.std.specs.Option.{option_map_or, option_and_then}
use Rattle.sdh_payload.specs.Clock.{Clock, new_clock, waiting, with_waiting, ticks}
use Rattle.sdh_circuits.specs.declared.PortId.{PortId}
use Rattle.sdh_circuits.specs.Provisioned.{Provisioned, customer_at, same_port}
use Rattle.sdh_terminal.specs.Tributaries.{Tributary, port_of}
use Rattle.sdh_node.specs.Rings.Held.{HeldRing, place_of_port}
use Rattle.sdh_node.specs.Rings.Rounds.{World}
use Rattle.sdh_restoration.specs.Changes.{Change, Slip, Stretch}

-- the offset of a port's customer
abbrev pub offset_of : List Provisioned → PortId → ℕ
offset_of circuits port = option_map_or (λ c. (customer_at c port.end).offset) (slice_get circuits port.circuit) 0

-- the clock of a port before round 0, in a ring with these circuits
unfoldable pub first_clock : List Provisioned → PortId → Clock
first_clock circuits port = new_clock (offset_of circuits port)

-- ---- in a ring

-- the port of a circuit, at the node where it is
abbrev pub port_in : HeldRing → PortId → Option Tributary
port_in r port = option_and_then (λ n. port_of port n.ports) (slice_get r.nodes (place_of_port r port))

-- the port is in the ring
abbrev pub HasPortIn : HeldRing → PortId → Type 0
HasPortIn r port = IsSome (port_in r port)

-- the clock of a port; a new one of offset 0 where the ring has no such port
unfoldable pub clock_at : HeldRing → PortId → Clock
clock_at r port = option_map_or (λ t. t.feed.clock) (port_in r port) (new_clock 0)

-- the number of slips that wait at a port
abbrev pub waiting_at : HeldRing → PortId → ℕ
waiting_at r port = waiting (clock_at r port)

-- the clock of a port before round t of a run from this world on, in which nothing happens but rounds
abbrev pub clocks_from : World → PortId → ℕ → Clock
clocks_from w port t = ticks (t - w.ring.rounds) (clock_at w.ring port)

-- ---- by history

-- the clock of a port after a change
abbrev pub clock_after : PortId → Change → Clock → Clock
clock_after port (Slip other turn count) c = if same_port port other then with_waiting turn count c else c
clock_after port change c = c

-- the clock of a port after these changes
abbrev pub clock_changed : PortId → List Change → Clock → Clock
clock_changed port [] c = c
clock_changed port (x ∷ xs) c = clock_changed port xs (clock_after port x c)

-- the clock of a port before round t of these stretches, or of rounds alone after them
abbrev pub clock_in : PortId → List Stretch → Clock → ℕ → Clock
clock_in port [] c t = ticks t c
clock_in port (s ∷ ss) c t =
    if nat_lt t s.rounds then ticks t (clock_changed port s.changes c)
    else clock_in port ss (ticks s.rounds (clock_changed port s.changes c)) (t - s.rounds)

-- the clock of a port before round t of these stretches, from a new ring with these circuits on
abbrev pub clocks_by : List Provisioned → List Stretch → PortId → ℕ → Clock
clocks_by circuits ss port t = clock_in port ss (first_clock circuits port) t
