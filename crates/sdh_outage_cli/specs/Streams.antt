-- Whose bytes a port delivered that weren't its own customer's.
use Rattle.std.specs.Prelude.{ℕ, ◌≡◌, ◌+◌, ◌^◌, ◌≤◌, ◌==◌, if◌then◌else◌, List, [], ◌∷◌, length, slice_get, Option, Some, None}
use Rattle.sdh_circuits.specs.declared.End.{End}
use Rattle.sdh_circuits.specs.declared.End.TheVariants.{A, B}
use Rattle.sdh_circuits.specs.declared.PortId.{PortId}
use Rattle.sdh_circuits.specs.Ends.{port_id}
use Rattle.sdh_circuits.specs.Provisioned.{Provisioned}
use Rattle.sdh_payload.specs.declared.delivered.Delivered.TheVariants.{Ais, Chunk}
use Rattle.sdh_outage.specs.Near.{near, holds}
use Rattle.sdh_outage.specs.Kinds.{Whose}
use Rattle.sdh_outage.specs.Kept.{Nearby}
use Rattle.sdh_outage_cli.specs.declared.streams.StreamPair.{StreamPair}

-- the end of a circuit whose port sends a piece of these bytes, among its bytes that are near in the round of this
-- number; A where both ports do
abbrev pub end_held : Provisioned → ℕ → List ℕ → Option End
end_held c round bytes =
    if holds bytes (near c.a round) then Some A else
    if holds bytes (near c.b round) then Some B else None

-- the port at that end of the circuit of this number, where there is one, or else another
abbrev pub port_or : Option End → ℕ → Option PortId → Option PortId
port_or None index other = other
port_or (Some end) index other = Some (port_id index end)

-- the first port of these circuits, which are counted from `index`, that sends what the bytes hold; none of circuit
-- `own`
unfoldable pub holder_from : ℕ → ℕ → List Provisioned → ℕ → List ℕ → Option PortId
holder_from own index [] round bytes = None
holder_from own index (c ∷ cs) round bytes =
    port_or (if index == own then None else end_held c round bytes) index (holder_from own (index + 1) cs round bytes)

-- whose bytes a port of circuit `own` delivered, among these circuits
abbrev pub holder_of : List Provisioned → ℕ → Whose
holder_of circuits own round Ais = None
holder_of circuits own round (Chunk bytes) = holder_from own 0 circuits round bytes

-- ---- what is kept for that

-- the bytes of both customers of a circuit that are near in a round
pub record IsNear (c : Provisioned) (round : ℕ) (pair : StreamPair) : Type 0 where
  pub a : (let n : Nearby = record { port = c.a; round = round } in pair.a ≡ n)
  pub b : (let n : Nearby = record { port = c.b; round = round } in pair.b ≡ n)

-- the bytes of the customers of all circuits that are near in a round
pub record AreNear (circuits : List Provisioned) (round : ℕ) (streams : List StreamPair) : Type 0 where
  pub many : length streams ≡ length circuits
  pub each : (i : ℕ) (c : Provisioned) (pair : StreamPair) → slice_get circuits i ≡ Some c → slice_get streams i ≡ Some pair → IsNear c round pair

-- the bytes that come to the port at an end
abbrev pub far_bytes : StreamPair → End → Nearby
far_bytes pair A = pair.b
far_bytes pair B = pair.a

-- rounds are numbered within 32 bits
abbrev pub AreEarly : List StreamPair → Type 0
AreEarly streams = (i : ℕ) (pair : StreamPair) → slice_get streams i ≡ Some pair
    → (pair.a.round ≤ 2 ^ 31 + 65536) × (pair.b.round ≤ 2 ^ 31 + 65536)

-- the bytes that are near one round later
pub record HaveStepped (before after : StreamPair) : Type 0 where
  pub a : after.a ≡ record before.a { round = before.a.round + 1 }
  pub b : after.b ≡ record before.b { round = before.b.round + 1 }
