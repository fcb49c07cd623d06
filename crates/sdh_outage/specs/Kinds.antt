-- The kind of a round at a port, by what the port delivered in it and in the round before. The kinds are this project's
-- own.
use Rattle.std.specs.Prelude.{ℕ, ◌+◌, Bool, false, not, ◌&&◌, ◌==◌, if◌then◌else◌, List, [], ◌∷◌, ◌++◌, length, Option, Some, None}
use Rattle.std.specs.List.{list_all}
use Rattle.sdh_circuits.specs.declared.PortId.{PortId}
use Rattle.sdh_payload.specs.declared.delivered.Delivered.{Delivered}
use Rattle.sdh_payload.specs.declared.delivered.Delivered.TheVariants.{Ais, Chunk}
use Rattle.sdh_payload.specs.Customer.{Customer}
use Rattle.sdh_outage.specs.declared.kind.Kind.{Kind}
use Rattle.sdh_outage.specs.declared.kind.Kind.TheVariants as kind
use Rattle.sdh_outage.specs.Near.{near, is_part, is_torn}

-- all of these bytes are ones: nobody's bytes
abbrev pub are_ones : List ℕ → Bool
are_ones bytes = list_all (λ byte. byte == 255) bytes

-- a chunk doesn't follow what came in the round before, by these near bytes of a stream: what came was a chunk of
-- these bytes too, and the two don't stand there one after the other
abbrev pub jumps : List ℕ → Delivered → List ℕ → Bool
jumps others Ais bytes = false
jumps others (Chunk last) bytes = is_part last others && not (is_part (last ++ bytes) others)

-- the kind of a round that brings a chunk which doesn't stand in these bytes as one part; None where its pieces don't
-- either
abbrev pub kind_of_pieces : List ℕ → List ℕ → Option Kind
kind_of_pieces bytes others = if is_torn bytes others then Some kind.Torn else None

-- The kind of a round by the far customer's near bytes (`near`), what came in the round before it, and what came in it.
-- It is None where no such bytes came, nor AIS or ones. What comes first after AIS, ones or others' bytes is in order.
abbrev pub own_kind : List ℕ → Delivered → Delivered → Option Kind
own_kind others before Ais = Some kind.Ais
own_kind others before (Chunk bytes) =
    if are_ones bytes then Some kind.Ones else
    if is_part bytes others then (if jumps others before bytes then Some kind.Jump else Some kind.InOrder) else
    kind_of_pieces bytes others

-- the kind of a round that brought other bytes than the far customer's, by the port of another circuit that sends them,
-- if there is one
abbrev pub kind_of_others : Option PortId → Kind
kind_of_others None = kind.Strange
kind_of_others (Some port) = kind.Foreign port

-- the kind of a round by the far customer's bytes, and else by whose bytes they are
abbrev pub settled_kind : Option Kind → Option PortId → Kind
settled_kind None whose = kind_of_others whose
settled_kind (Some kind) whose = kind

-- which port of another circuit sends what was delivered in the round of this number, where one does
abbrev pub Whose : Type 0
Whose = ℕ → Delivered → Option PortId

-- The kind of a round, by the far customer, the port of another circuit whose bytes it may have brought (`whose`), the
-- number of the round, and what came in the round before it and in this one.
abbrev pub kind_of : Customer → Whose → ℕ → Delivered → Delivered → Kind
kind_of port whose round before now = settled_kind (own_kind (near port round) before now) (whose round now)

-- ---- round after round: what was delivered, the latest first

-- what came last; `before` where no round has run
abbrev pub last_heard : Delivered → List Delivered → Delivered
last_heard before [] = before
last_heard before (now ∷ earlier) = now

-- what the rounds were from round `first` on
abbrev pub kinds_of : Customer → Whose → ℕ → Delivered → List Delivered → List Kind
kinds_of port whose first before [] = []
kinds_of port whose first before (now ∷ earlier) =
    kind_of port whose (first + length earlier) (last_heard before earlier) now ∷ kinds_of port whose first before earlier
