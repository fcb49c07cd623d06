-- An AU-4 of slot m followed backwards through a ring, span by span: from where it is delivered or arrives to where
-- it was sent. The node at each position is in a given state and connects by that state and the circuits.
use Rattle.std.specs.Prelude.{ℕ, zero, suc, ◌≡◌, Bool, Option, List, [], ◌∷◌}
use Rattle.sdh_ringmap.specs.Places.{opposite, neighbour, span_at, position_of}
use Rattle.sdh_ringmap.specs.declared.Pos.{Pos}
use Rattle.sdh_ringmap.specs.declared.Side.{Side}
use Rattle.sdh_circuits.specs.Provisioned.{Provisioned, end_of}
use Rattle.sdh_circuits.specs.declared.End.{End}
use Rattle.sdh_squelch.specs.Table.{circuits_at}
use Rattle.sdh_nodestate.specs.declared.NodeState.{NodeState}
use Rattle.sdh_bridge.specs.Connections.{may_carry, stands_for, leaves_working, leaves_protection}
use Rattle.sdh_bridge.specs.declared.Origin.{Origin}
use Rattle.sdh_bridge.specs.declared.Origin.TheVariants.{Add, Working, Protection, Ais}
use Rattle.sdh_circuits.specs.Ends.{inward}

-- where a walk stands: at a position, with what is to be followed from there
pub record Stand : Type 0 where
  pub at : ℕ
  pub origin : Origin

abbrev pub stand : ℕ → Origin → Stand
stand p o = record { at = p; origin = o }

-- the port's own stream, by the circuit's number and the end
abbrev pub port : ℕ → End → Origin
port i e = Add (record { circuit = i; end = e })

-- the position of a circuit's port
abbrev pub port_at : Provisioned → End → ℕ
port_at c e = (end_of c e).0

-- the origin is an arrival, so the walk goes on over a span
abbrev pub IsArrival : Origin → Type 0
IsArrival Ais = ⊥
IsArrival (Add q) = ⊥
IsArrival (Working d) = Unit {0}
IsArrival (Protection d) = Unit {0}

-- the walk is over, since nothing is left to be followed: AIS, or a port's own stream
abbrev pub IsOver : Origin → Type 0
IsOver Ais = Unit {0}
IsOver (Add q) = Unit {0}
IsOver (Working d) = ⊥
IsOver (Protection d) = ⊥

-- the connections of the node at q, in a state, with these circuits of a ring of n
module _ (n : ℕ) (circuits : List Provisioned) (q : ℕ) where
  -- where side d is switched and this is the far end, the circuit there in slot m may be carried round
  abbrev pub carries_in : Side → ℕ → Option Pos → Bool
  carries_in d m far = may_carry n (position_of q) (circuits_at n circuits q m) d far

  module _ (state : NodeState) where
    -- the origin of what the node takes from side d in working slot m
    abbrev pub stands_in : Side → ℕ → Origin
    stands_in d m = stands_for n (position_of q) (circuits_at n circuits q m) state d

    -- the origin of what leaves on side d in working slot m
    abbrev pub working_in : Side → ℕ → Origin
    working_in d m = leaves_working n (position_of q) (circuits_at n circuits q m) state d

    -- the origin of what leaves on side d in protection slot m
    abbrev pub protection_in : Side → ℕ → Origin
    protection_in d m = leaves_protection n (position_of q) (circuits_at n circuits q m) state d

-- a ring of n whose node at position p is in `state p`
module _ (n : ℕ) (state : ℕ → NodeState) (circuits : List Provisioned) where
  -- slot m
  module _ (m : ℕ) where
    -- one span back: what arrives on a side left the neighbour there on its opposite side one round before
    abbrev pub back_from : ℕ → Origin → Stand
    back_from p Ais = stand p Ais
    back_from p (Add q) = stand p (Add q)
    back_from p (Working d) = let q = neighbour n p d in stand q (working_in n circuits q (state q) (opposite d) m)
    back_from p (Protection d) = let q = neighbour n p d in stand q (protection_in n circuits q (state q) (opposite d) m)

    -- x is led back to y, over exactly k spans
    abbrev pub Leads : ℕ → Stand → Stand → Type 0
    Leads zero x y = x ≡ y
    Leads (suc k) x y = IsArrival x.origin × Leads k (back_from x.at x.origin) y

    -- the spans `rest`, and before them the span over which the origin arrives at p, if it is an arrival
    abbrev pub with_span : ℕ → Origin → List ℕ → List ℕ
    with_span p Ais rest = rest
    with_span p (Add q) rest = rest
    with_span p (Working d) rest = span_at n p d ∷ rest
    with_span p (Protection d) rest = span_at n p d ∷ rest

    -- the spans over which the first k steps of a walk lead, in the walk's order
    abbrev pub crossed : ℕ → Stand → List ℕ
    crossed zero x = []
    crossed (suc k) x = with_span x.at x.origin (crossed k (back_from x.at x.origin))

  -- where the walk of a circuit's port begins: at the port's position, with what the port delivers
  unfoldable pub delivery : Provisioned → End → Stand
  delivery c e = let p = port_at c e in stand p (stands_in n circuits p (state p) (inward e) c.slot.0)
