-- What each node of a ring is: its place, its settings, its circuits, and the ports that are at it.
use Rattle.std.specs.Prelude.{ℕ, ◌≡◌, None, List, length, map, All}
use Rattle.sdh_ringmap.specs.Ids.{AreIds}
use Rattle.sdh_ringmap.specs.declared.Side.{Side}
use Rattle.sdh_request.specs.declared.settings.Settings.{Settings}
use Rattle.sdh_node.specs.Receiving.{inlet_of}
use Rattle.sdh_spans.specs.Sides.{IsInletAt, IsSenderAt}
use Rattle.sdh_payload.specs.Clock.{IsClock}
use Rattle.sdh_terminal.specs.Tributaries.{Tributary}
use Rattle.sdh_node.specs.Node.{Node, receiving_on, sending_on}
use Rattle.sdh_node.specs.Rings.Held.{HeldRing, new_nodes, AtEach}
use Rattle.sdh_node.specs.Rings.Fixed.{fixed}
use Rattle.sdh_node.specs.Rings.Rounds.{World}

-- all sides of a node are sides at the rate of these settings
pub record HasSides (s : Settings) (n : Node) : Type 0 where
  pub receives : (d : Side) → IsInletAt s.rate (inlet_of (receiving_on d n))
  pub sends : (d : Side) → IsSenderAt s.rate (sending_on d n)

-- the clocks of a node's ports have run this number of rounds
abbrev pub HaveGone : ℕ → List Tributary → Type 0
HaveGone rounds ports = All (λ (t : Tributary). IsClock t.feed.port.offset rounds t.feed.clock) ports

-- a node between two rounds: it and the clocks of its ports have run `rounds` rounds, and nothing has arrived on a side
-- since the last one
pub record IsBetween (rounds : ℕ) (n : Node) : Type 0 where
  pub ran : n.rounds ≡ rounds
  pub gone : HaveGone rounds n.ports
  pub fresh : (d : Side) → (receiving_on d n).arrived ≡ None

-- Each node of the ring is in its place: it is the new node of its position, except for what calls change.
pub record IsPlacedRing (r : HeldRing) : Type 0 where
  pub ids : AreIds r.ids
  pub nodes : map fixed r.nodes ≡ map fixed (new_nodes r.settings r.ids r.circuits.circuits (length r.ids))
  pub sides : AtEach (λ p n. HasSides r.settings n) r.nodes
  pub between : AtEach (λ p n. IsBetween r.rounds n) r.nodes

abbrev pub IsPlaced : World → Type 0
IsPlaced w = IsPlacedRing w.ring
