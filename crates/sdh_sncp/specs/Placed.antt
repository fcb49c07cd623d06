-- What each node of a path ring is: its place, the circuits that are at it, and the rounds that it has run.
use Rattle.std.specs.Prelude.{ℕ, ◌≡◌, ◌*◌, None, length, map, All}
use Rattle.sdh_ringmap.specs.Rates.{n_of}
use Rattle.sdh_ringmap.specs.Ids.{AreIds}
use Rattle.sdh_ringmap.specs.Places.{position_of}
use Rattle.sdh_ringmap.specs.declared.Side.{Side}
use Rattle.sdh_nodestate.specs.Words.{first_word}
use Rattle.sdh_payload.specs.Feed.{Fed}
use Rattle.sdh_terminal.specs.Tributaries.{Tributary, tributaries_at}
use Rattle.sdh_terminal.specs.Fixed.{fixed_port}
use Rattle.sdh_spans.specs.Sides.{IsInletAt, IsSenderAt}
use Rattle.sdh_sncp.specs.Slots.{uses_at}
use Rattle.sdh_sncp.specs.Node.{PathNode, inlet_on, path_sending_on}
use Rattle.sdh_sncp.specs.Ring.{HeldPath, AtEach, World}

-- what no round changes of the node at position p of a ring
pub record HasPlace (r : HeldPath) (p : ℕ) (n : PathNode) : Type 0 where
  pub uses : n.uses ≡ uses_at r.circuits.circuits p (n_of r.settings.rate)
  pub ports : map fixed_port n.ports ≡ map fixed_port (tributaries_at (position_of p) r.circuits.circuits)
  pub inlets : (d : Side) → IsInletAt r.settings.rate (inlet_on d n)
  pub senders : (d : Side) → IsSenderAt r.settings.rate (path_sending_on d n)
  pub words : (d : Side) → (path_sending_on d n).word ≡ first_word r.ids p d

-- a port's clock that never slipped, after this number of rounds
pub record IsUnslippedFeed (rounds : ℕ) (feed : Fed) : Type 0 where
  pub ups : feed.clock.ups ≡ 0
  pub downs : feed.clock.downs ≡ 0
  pub sent : feed.clock.sent ≡ 2349 * rounds
  pub value : feed.clock.value ≡ feed.port.offset

-- a node and the clocks of its ports have run this number of rounds
pub record HasRun (rounds : ℕ) (n : PathNode) : Type 0 where
  pub ran : n.rounds ≡ rounds
  pub clocks : All (λ (t : Tributary). IsUnslippedFeed rounds t.feed) n.ports

-- a node between two rounds: it and its ports' clocks have run this number of rounds, and nothing has arrived on a side
-- since the last one
pub record IsPathBetween (rounds : ℕ) (n : PathNode) : Type 0 where
  pub run : HasRun rounds n
  pub fresh : (d : Side) → (inlet_on d n).arrived ≡ None

-- each node of the ring is in its place, and between two rounds
pub record IsPlacedPathRing (r : HeldPath) : Type 0 where
  pub ids : AreIds r.ids
  pub size : length r.nodes ≡ length r.ids
  pub places : AtEach (HasPlace r) r.nodes
  pub between : AtEach (λ p n. IsPathBetween r.rounds n) r.nodes

abbrev pub IsPlaced : World → Type 0
IsPlaced w = IsPlacedPathRing w.ring
