-- Positions, sides and spans by arithmetic modulo the number of nodes n. Position p + 1 modulo n is east
-- of position p, and span p joins the two.
use Rattle.std.specs.Prelude.{ℕ, ◌+◌, ◌-◌, ◌%◌, Bool, nat_lt, ◌==◌, List, Option, option_map, position}
use Rattle.sdh_ringmap.specs.declared.Side.{Side}
use Rattle.sdh_ringmap.specs.declared.Side.TheVariants.{West, East}
use Rattle.sdh_ringmap.specs.declared.Chain.{Chain}
use Rattle.sdh_ringmap.specs.declared.Pos.{Pos}

-- the other side of a node
abbrev pub opposite : Side → Side
opposite West = East
opposite East = West

-- the position next to position p on a side, in a ring of n
abbrev pub neighbour : ℕ → ℕ → Side → ℕ
neighbour n p East = (p + 1) % n
neighbour n p West = (p + (n - 1)) % n

-- the span on a side of position p, in a ring of n
abbrev pub span_at : ℕ → ℕ → Side → ℕ
span_at n p East = p
span_at n p West = (p + (n - 1)) % n

-- the number of spans that lead eastwards from one position to another, 0 to n - 1
abbrev pub eastwards : ℕ → ℕ → ℕ → ℕ
eastwards n from to = (to + (n - from)) % n

-- position p is in the chain: the number of spans from the first position eastwards to p is less than the chain's
-- number of positions
abbrev pub in_chain : ℕ → Chain → ℕ → Bool
in_chain n chain p = nat_lt (eastwards n chain.first.0 p) chain.count

-- the position of the node with this identifier, if there is one
abbrev pub found_at : List ℕ → ℕ → Option Pos
found_at ids id = option_map (λ p. record { 0 = p }) (position (λ x. x == id) ids)

-- position p, as a value of its type
abbrev pub position_of : ℕ → Pos
position_of p = record { 0 = p }
