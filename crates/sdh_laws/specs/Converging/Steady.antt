-- What stays the same from some round of a run on.
use Rattle.std.specs.Prelude.{ℕ, suc, ◌≡◌, ◌<◌, ◌≤◌, List, length}
use Rattle.sdh_ringmap.specs.declared.Side.{Side}
use Rattle.sdh_bridge.specs.declared.Origin.{Origin}
use Rattle.sdh_terminal.specs.Passing.{Input}
use Rattle.sdh_terminal.specs.Lines.{received}
use Rattle.sdh_node.specs.Node.{receiving_on, sending_on}
use Rattle.sdh_node.specs.Rings.Rounds.{World}
use Rattle.sdh_node.specs.Rings.Runs.{run}
use Rattle.sdh_laws.specs.Hearing.Signalling.{lines_at}
use Rattle.sdh_laws.specs.Hearing.Laws.{NoneWait}
use Rattle.sdh_laws.specs.Carrying.Windows.{value_at, sent_at, AreSettled}
use Rattle.sdh_node.specs.Rings.Held.{node_at, AtEach}

-- Round k of a run is the round that begins after k rounds.

-- what goes into AU-4 number au that leaves position p on side d in round k
abbrev pub went : World → ℕ → Side → ℕ → ℕ → Input
went w p d au k = sent_at (run k w) p d au

-- AU-4 number au that comes in at position p on side d in round k, with what its interpreter makes of it
abbrev pub brought_to : World → ℕ → Side → ℕ → ℕ → Input
brought_to w p d au k = received (lines_at (run k w) p) d au

-- what an origin in slot m brings at position p in round k
abbrev pub brought_in_slot : World → ℕ → ℕ → Origin → ℕ → Input
brought_in_slot w p m o k = value_at (run k w) p m o

-- no slip waits at any port
abbrev pub IsUnslipped : World → Type 0
IsUnslipped w = AtEach (λ p n. NoneWait n.ports) w.ring.nodes

-- no slip waits, and after each round the nodes are in the settled states of these requests of spans
pub record StaysSettled (w : World) (rs : List ℕ) : Type 0 where
  pub spans : length rs ≡ length w.ring.ids
  pub unslipped : IsUnslipped w
  pub settled_are : (k : ℕ) → 1 ≤ k → AreSettled (length w.ring.ids) rs (run k w)

-- round j left all generators and interpreters as they were
pub record HasStillPointers (w : World) (j : ℕ) : Type 0 where
  pub generators : (p : ℕ) (d : Side) → p < length w.ring.nodes
      → (sending_on d (node_at (run (suc j) w).ring.nodes p)).generators ≡ (sending_on d (node_at (run j w).ring.nodes p)).generators
  pub readings : (p : ℕ) (d : Side) → p < length w.ring.nodes
      → (receiving_on d (node_at (run (suc j) w).ring.nodes p)).readings ≡ (receiving_on d (node_at (run j w).ring.nodes p)).readings
