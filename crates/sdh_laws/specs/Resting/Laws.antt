-- The laws of rest after a quiet window. They are promised by the functions of this crate, which have no work to do.
use Rattle.std.specs.Prelude.{ℕ, ◌≤◌}
use Rattle.sdh_payload.specs.Clock.{Clock}
use Rattle.sdh_circuits.specs.declared.PortId.{PortId}
use Rattle.sdh_node.specs.Rings.Rounds.{World}
use Rattle.sdh_node.specs.Rings.Runs.{course, IsRound}
use Rattle.sdh_node.specs.Rings.Quiet.{IsCalm, Settles}
use Rattle.sdh_node.specs.Rings.Clocks.{clocks_from}
use Rattle.sdh_laws.specs.Hearing.Laws.{IsWhole}
use Rattle.sdh_laws.specs.Carrying.Windows.{layout_of, HasCircuits}
use Rattle.sdh_laws.specs.Resting.Rest.{IsAtRest, StaysAtRest}

-- Where six rounds in a row are calm and nothing but rounds happens, all later rounds are calm, whichever fibres are
-- cut or degraded. Over how many spans an AU-4 is carried doesn't matter. Calm rounds leave each interpreter and each
-- generator as it is, so what is known of one of them in one round is known of it in all of these rounds.
abbrev pub CalmGoesOn : Type 0
CalmGoesOn =
    (w : World) → IsWhole w → HasCircuits (layout_of w) → ((j : ℕ) → 1 ≤ j → j ≤ 6 → IsCalm (course w) j) → (j : ℕ) → 1 ≤ j
    → IsCalm (course w) j

-- where rounds alone turned the whole world w into `left`, it is at rest, by the clocks that the ports had
abbrev pub LeavesAtRest : World → World → Type 0
LeavesAtRest w left = IsWhole w → IsAtRest (clocks_from w) left

-- after a settle step that ended with a quiet window the ring is at rest
abbrev pub StepsLeaveAtRest : Type 0
StepsLeaveAtRest = (w left : World) (limit : ℕ) → HasCircuits (layout_of w) → Settles w limit left → LeavesAtRest w left

-- a round of a ring at rest is calm, delivers what is owed, and leaves the ring at rest
abbrev pub RestGoesOn : Type 0
RestGoesOn = (w after : World) → IsRound w after → (clocks : PortId → ℕ → Clock) → IsAtRest clocks w → StaysAtRest clocks after
