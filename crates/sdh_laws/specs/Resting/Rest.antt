-- A ring at rest. Nothing but its customers' bytes changes any more, as long as no call changes the ring or its fibres.
use Rattle.std.specs.Prelude.{ℕ, ◌≡◌, ◌≤◌, true}
use Rattle.sdh_payload.specs.Clock.{Clock}
use Rattle.sdh_circuits.specs.declared.PortId.{PortId}
use Rattle.sdh_node.specs.Rings.Held.{AtEach}
use Rattle.sdh_node.specs.Rings.Rounds.{World}
use Rattle.sdh_node.specs.Rings.Runs.{run, course}
use Rattle.sdh_node.specs.Rings.Quiet.{is_calm, IsCalm}
use Rattle.sdh_laws.specs.Hearing.Laws.{IsWhole}
use Rattle.sdh_laws.specs.Carrying.Windows.{span_requests_of}
use Rattle.sdh_laws.specs.Carrying.Laws.{DeliversWhatIsDue}

-- The ring and its fibres are paired, and no controller is held. Every later round is calm as long as nothing but
-- rounds happens, and each port delivers in it what it is owed under the requests of that round. `clocks` are the
-- ports' clocks before each round.
pub record IsAtRest (clocks : PortId → ℕ → Clock) (w : World) : Type 0 where
  pub whole : IsWhole w
  pub free : AtEach (λ p n. n.held ≡ 0) w.ring.nodes
  pub calm : (k : ℕ) → 1 ≤ k → IsCalm (course w) k
  pub due : (k : ℕ) → 1 ≤ k → DeliversWhatIsDue clocks (run k w) (span_requests_of (run k w))

-- what a round of a ring at rest leaves
pub record StaysAtRest (clocks : PortId → ℕ → Clock) (after : World) : Type 0 where
  pub calm : is_calm after.ring.nodes ≡ true
  pub due : DeliversWhatIsDue clocks after (span_requests_of after)
  pub rests : IsAtRest clocks after
