-- What a port is owed in a ring that has come to rest, in customers' bytes alone. No frame occurs in it.
use Rattle.std.specs.Prelude.{ℕ, ◌-◌, Bool, false, if◌then◌else◌, List}
use Rattle.sdh_ringmap.specs.Numbering.{magnitude}
use Rattle.sdh_ringmap.specs.Arcs.{is_joined}
use Rattle.sdh_payload.specs.Customer.{Customer}
use Rattle.sdh_payload.specs.History.{Happening, first_byte_now, value_now}
use Rattle.sdh_payload.specs.Outlet.{Outlet, silent, delivering}
use Rattle.sdh_payload.specs.Stream.{stream_from}
use Rattle.sdh_circuits.specs.Provisioned.{Provisioned, arc_of}
use Rattle.sdh_restoration.specs.Routes.{hops}

-- no span is applied: a healthy ring
abbrev pub nothing_applied : ℕ → Bool
nothing_applied s = false

-- what a customer sends in the next round if its port doesn't justify in it, after all that happened at the port: 2349
-- bytes from the one with which the round begins, and the pointer value before the round
abbrev pub sends_by : Customer → List Happening → Outlet
sends_by customer history = delivering (magnitude (value_now customer.offset history)) (stream_from customer (first_byte_now history) 2349)

-- What a port of a circuit is owed in round t, in a ring of n in which these spans are applied. `sends` gives what the
-- customer at the circuit's other end sends in each round. Where the ends are joined, the port is owed what that
-- customer sent `hops` rounds before. Where they are not, it is owed AIS.
unfoldable pub due : ℕ → (ℕ → Bool) → Provisioned → (ℕ → Outlet) → ℕ → Outlet
due n applied c sends t = if is_joined n applied (arc_of n c) then sends (t - hops n applied (arc_of n c)) else silent
