-- What the watches on a ring's ports keep.
use Rattle.std.specs.Prelude.{ℕ, ◌≡◌, ◌+◌, ◌≤◌, Some, List, ◌∷◌, length, slice_get}
use Rattle.sdh_circuits.specs.declared.End.TheVariants.{A, B}
use Rattle.sdh_circuits.specs.declared.PortId.{PortId}
use Rattle.sdh_circuits.specs.Provisioned.{Provisioned}
use Rattle.sdh_circuits.specs.Ends.{port_id}
use Rattle.sdh_node.specs.Rings.Held.{HeldRing}
use Rattle.sdh_node.specs.Rings.Rounds.{World}
use Rattle.sdh_path.specs.History.{Given}
use Rattle.sdh_path.specs.Kept.{CameBy}
use Rattle.sdh_watch.specs.Watching.{given_of, Lead}
use Rattle.sdh_watch.specs.declared.ports.WatchPair.{WatchPair}

-- The watches on both ports of a circuit keep what follows from what was given to them. Each expects the trace of the
-- other port.
pub record IsWatching (c : Provisioned) (index : ℕ) (heard : PortId → List Given) (both : WatchPair) : Type 0 where
  pub at_a : CameBy c.b.trace (heard (port_id index A)) both.a
  pub at_b : CameBy c.a.trace (heard (port_id index B)) both.b

-- the watches of all circuits keep what follows from what was given to them
pub record AreWatching (circuits : List Provisioned) (heard : PortId → List Given) (watches : List WatchPair) : Type 0 where
  pub many : length watches ≡ length circuits
  pub each : (i : ℕ) (c : Provisioned) (both : WatchPair) → slice_get circuits i ≡ Some c → slice_get watches i ≡ Some both
      → IsWatching c i heard both

-- ---- what the watches do

-- each of these watches was given at most k chunks
abbrev pub AreFew : ℕ → List WatchPair → Type 0
AreFew k watches = (i : ℕ) (both : WatchPair) → slice_get watches i ≡ Some both → (both.a.chunks ≤ k) × (both.b.chunks ≤ k)

-- the watches on both ports of circuit number `index` were given what these ports delivered in the last round of a ring
pub record Looked (r : HeldRing) (index : ℕ) (before after : WatchPair) : Type 0 where
  pub a : (trace : List ℕ) (past : List Given) → CameBy trace past before.a → CameBy trace (given_of r (port_id index A) ∷ past) after.a
  pub b : (trace : List ℕ) (past : List Given) → CameBy trace past before.b → CameBy trace (given_of r (port_id index B) ∷ past) after.b
  pub few_a : after.a.chunks ≤ before.a.chunks + 1
  pub few_b : after.b.chunks ≤ before.b.chunks + 1

-- k rounds lead from a world to another, and the watches keep what follows from what was delivered in these rounds
pub record Shown (k : ℕ) (w left : World) (watches : List WatchPair) : Type 0 where
  pub heard : PortId → List Given
  pub rounds : Lead k w left heard
  pub watching : AreWatching w.ring.circuits.circuits heard watches
