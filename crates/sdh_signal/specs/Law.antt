-- What the routes law says of a port and of a walk, in a ring of n. The node at p is in `state p`, and span s is
-- applied where `applied s` holds.
use Rattle.std.specs.Prelude.{ℕ, ◌≡◌, ◌+◌, ◌*◌, ◌<◌, ◌≤◌, Bool, true, false, List, length, reverse}
use Rattle.sdh_ringmap.specs.Arcs.{is_clear, is_joined}
use Rattle.sdh_ringmap.specs.Places.{span_at}
use Rattle.sdh_ringmap.specs.declared.Side.{Side}
use Rattle.sdh_ringmap.specs.declared.Side.TheVariants.{East, West}
use Rattle.sdh_restoration.specs.Routes.{hops, route}
use Rattle.sdh_circuits.specs.Provisioned.{Provisioned, arc_of}
use Rattle.sdh_circuits.specs.declared.End.{End}
use Rattle.sdh_circuits.specs.declared.End.TheVariants.{A, B}
use Rattle.sdh_nodestate.specs.declared.NodeState.{NodeState}
use Rattle.sdh_nodestate.specs.declared.NodeState.TheVariants as state
use Rattle.sdh_bridge.specs.declared.Origin.{Origin}
use Rattle.sdh_bridge.specs.declared.Origin.TheVariants.{Add, Working, Protection, Ais}
use Rattle.sdh_circuits.specs.Ends.{other_end}
use Rattle.sdh_signal.specs.Walks.{crossed, Stand, stand, port, port_at, Leads, IsOver, stands_in, working_in, protection_in, delivery}

-- a walk leads to AIS, over fewer spans than the ring has
abbrev pub IsSilent : ℕ → (ℕ → NodeState) → List Provisioned → ℕ → Stand → Type 0
IsSilent n state cs m x = (k : ℕ) × (q : ℕ) × (k < n) × Leads n state cs m k x (stand q Ais)

-- a port of a joined circuit gets what the circuit's other port sends, over the spans of its route; every other port
-- gets AIS
pub record IsRouted (n : ℕ) (applied : ℕ → Bool) (state : ℕ → NodeState) (cs : List Provisioned) (index : ℕ) (c : Provisioned)
    (e : End) : Type 0 where
  pub joined : is_joined n applied (arc_of n c) ≡ true
      → Leads n state cs c.slot.0 (hops n applied (arc_of n c)) (delivery n state cs c e)
      (stand (port_at c (other_end e)) (port index (other_end e)))
  pub parted : is_joined n applied (arc_of n c) ≡ false → IsSilent n state cs c.slot.0 (delivery n state cs c e)

-- the walk of a joined circuit's port leads over the spans of the route, from port B in the opposite order
pub record IsAlongRoute (n : ℕ) (applied : ℕ → Bool) (state : ℕ → NodeState) (cs : List Provisioned) (c : Provisioned) : Type 0 where
  pub span_count : length (route n applied (arc_of n c)) ≡ hops n applied (arc_of n c)
  pub from_a : is_joined n applied (arc_of n c) ≡ true
      → crossed n state cs c.slot.0 (hops n applied (arc_of n c)) (delivery n state cs c A) ≡ route n applied (arc_of n c)
  pub from_b : is_joined n applied (arc_of n c) ≡ true
      → crossed n state cs c.slot.0 (hops n applied (arc_of n c)) (delivery n state cs c B) ≡ reverse (route n applied (arc_of n c))

-- a walk ends, over at most `bound` spans
pub record Ends (n : ℕ) (state : ℕ → NodeState) (cs : List Provisioned) (m : ℕ) (bound : ℕ) (x : Stand) : Type 0 where
  pub spans : ℕ
  pub last : Stand
  pub within : spans ≤ bound
  pub over : IsOver last.origin
  pub leads : Leads n state cs m spans x last

-- a ring of idle nodes
abbrev pub all_idle : ℕ → NodeState
all_idle q = state.Idle tt

-- a route has at least one span, at most n - 1 where the circuit's arc is clear, and at most 2n - 3 where it isn't
pub record IsShort (n : ℕ) (applied : ℕ → Bool) (c : Provisioned) : Type 0 where
  pub straight : is_clear n applied (arc_of n c) ≡ true → hops n applied (arc_of n c) + 1 ≤ n
  pub around : is_clear n applied (arc_of n c) ≡ false → hops n applied (arc_of n c) + 3 ≤ 2 * n
  pub some : 1 ≤ hops n applied (arc_of n c)

-- the origin at p isn't an arrival over an applied span
abbrev pub IsFree : ℕ → (ℕ → Bool) → ℕ → Origin → Type 0
IsFree n applied p Ais = Unit {0}
IsFree n applied p (Add port) = Unit {0}
IsFree n applied p (Working d) = applied (span_at n p d) ≡ false
IsFree n applied p (Protection d) = applied (span_at n p d) ≡ false

-- no connection of the node at p in slot m leads over an applied span
pub record ConnectsFree (n : ℕ) (applied : ℕ → Bool) (state : ℕ → NodeState) (cs : List Provisioned) (p : ℕ) (d : Side)
    (m : ℕ) : Type 0 where
  pub stands : IsFree n applied p (stands_in n cs p (state p) d m)
  pub working : IsFree n applied p (working_in n cs p (state p) d m)
  pub protection : IsFree n applied p (protection_in n cs p (state p) d m)

-- the node passes protection through
abbrev pub is_pass : NodeState → Bool
is_pass (state.PassThrough x) = true
is_pass (state.Isolated x) = false
is_pass (state.Idle x) = false
is_pass (state.SwitchWest far) = false
is_pass (state.SwitchEast far) = false

-- the node doesn't switch this side: what comes over the span there is what it takes
abbrev pub is_open : NodeState → Side → Bool
is_open (state.Isolated i) d = false
is_open (state.SwitchWest f) West = false
is_open (state.SwitchWest f) East = true
is_open (state.SwitchEast f) West = true
is_open (state.SwitchEast f) East = false
is_open (state.PassThrough i) d = true
is_open (state.Idle i) d = true
