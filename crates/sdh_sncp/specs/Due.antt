-- What a port of a path ring is owed: the bytes of the circuit's other port by the main way, or else by the spare one.
-- No frame, pointer or interpreter occurs in this definition. It is this project's own, after SNC/I of ITU-T G.841.
use Rattle.std.specs.Prelude.{ℕ, zero, suc, ◌-◌, ◌*◌, Bool, true, false, if◌then◌else◌}
use Rattle.sdh_ringmap.specs.declared.Side.{Side}
use Rattle.sdh_ringmap.specs.Places.{opposite, neighbour, eastwards}
use Rattle.sdh_payload.specs.Customer.{Customer}
use Rattle.sdh_payload.specs.Outlet.{Outlet, silent, delivering}
use Rattle.sdh_payload.specs.Stream.{stream_from}
use Rattle.sdh_circuits.specs.Provisioned.{Provisioned, customer_at, end_of}
use Rattle.sdh_circuits.specs.declared.End.{End}
use Rattle.sdh_circuits.specs.Ends.{other_end, inward}

-- No fibre is cut on the last k spans of the way that comes in at position p on side d, in a ring of n. `cut q d` says
-- whether the fibre is cut that ends at position q on side d.
abbrev pub way_clear : ℕ → (ℕ → Side → Bool) → ℕ → Side → ℕ → Bool
way_clear n cut p d zero = true
way_clear n cut p d (suc k) = if cut p d then false else way_clear n cut (neighbour n p d) d k

-- the number of spans of a circuit's main way, which is its arc
abbrev pub main_spans : ℕ → Provisioned → ℕ
main_spans n c = eastwards n c.from.0 c.to.0

-- the number of spans of a circuit's spare way, which is the opposite arc
abbrev pub spare_spans : ℕ → Provisioned → ℕ
spare_spans n c = n - main_spans n c

-- the 2349 bytes that a customer sent in round t, with its pointer value; clocks never slip here
abbrev pub sends_in : Customer → ℕ → Outlet
sends_in customer t = delivering customer.offset (stream_from customer (2349 * t) 2349)

-- what the port at this end of a circuit is owed in round t, in a ring of n
unfoldable pub due_path : ℕ → (ℕ → Side → Bool) → Provisioned → End → ℕ → Outlet
due_path n cut c e t =
    if way_clear n cut (end_of c e).0 (inward e) (main_spans n c) then sends_in (customer_at c (other_end e)) (t - main_spans n c) else
    if way_clear n cut (end_of c e).0 (opposite (inward e)) (spare_spans n c)
    then sends_in (customer_at c (other_end e)) (t - spare_spans n c) else silent
