-- The failures of a ring, each with the steps that make it.
use Rattle.std.specs.Prelude.{ℕ, ◌<◌, ◌-◌, ◌*◌, ◌/◌, ◌%◌, ◌==◌, nat_lt, if◌then◌else◌, List, [], ◌∷◌, ◌++◌}
use Rattle.sdh_ringmap.specs.declared.Pos.{Pos}
use Rattle.sdh_ringmap.specs.declared.Side.{Side}
use Rattle.sdh_ringmap.specs.declared.Side.TheVariants.{West, East}
use Rattle.sdh_ringmap.specs.Places.{neighbour}
use Rattle.sdh_ringmap.specs.declared.terms.Condition.{Condition}
use Rattle.sdh_ringmap.specs.declared.terms.Condition.TheVariants as condition
use Rattle.sdh_request.specs.declared.Command.TheVariants as command
use Rattle.sdh_plan.specs.declared.step.Step.{Step}
use Rattle.sdh_plan.specs.declared.step.Step.TheVariants as step
use Rattle.sdh_verdicts.specs.declared.failure.Failure.{Failure}
use Rattle.sdh_verdicts.specs.declared.failure.Failure.TheVariants.{Degraded, Cut, Span, Node, Manual, Forced}

-- the failure is one of a ring of n
abbrev pub IsFailureIn : ℕ → Failure → Type 0
IsFailureIn n (Degraded at side) = at.0 < n
IsFailureIn n (Cut at side) = at.0 < n
IsFailureIn n (Span at) = at.0 < n
IsFailureIn n (Node at) = at.0 < n
IsFailureIn n (Manual at side) = at.0 < n
IsFailureIn n (Forced at side) = at.0 < n

-- the step that gives a condition to the fibre that leaves a position on a side
abbrev pub condition_step : Condition → Pos → Side → Step
condition_step c at side = step.Fibre (record { at = at; side = side; condition = c })

-- the position next to this one on that side
abbrev pub neighbour_position : ℕ → Pos → Side → Pos
neighbour_position n at side = record { 0 = neighbour n at.0 side }

-- the steps of a failure, in a ring of n where `threshold` violations are a degradation
abbrev pub steps_of : ℕ → ℕ → Failure → List Step
steps_of n threshold (Degraded at side) = condition_step (condition.Degraded threshold) at side ∷ []
steps_of n threshold (Cut at side) = condition_step condition.Cut at side ∷ []
steps_of n threshold (Span at) =
    condition_step condition.Cut at East ∷ condition_step condition.Cut (neighbour_position n at East) West ∷ []
steps_of n threshold (Node at) =
    condition_step condition.Cut at East ∷ condition_step condition.Cut (neighbour_position n at East) West
    ∷ condition_step condition.Cut (neighbour_position n at West) East ∷ condition_step condition.Cut at West ∷ []
steps_of n threshold (Manual at side) = step.Order at side command.Manual ∷ []
steps_of n threshold (Forced at side) = step.Order at side command.Forced ∷ []

-- the steps of a case, one failure after the other
abbrev pub case_steps : ℕ → ℕ → List Failure → List Step
case_steps n threshold [] = []
case_steps n threshold (failure ∷ others) = steps_of n threshold failure ++ case_steps n threshold others

-- ---- by number

-- the side that has a number, where sides are counted by position, west before east
abbrev pub side_of : ℕ → Side
side_of number = if number % 2 == 0 then West else East

-- the position of the side that has a number
abbrev pub half : ℕ → Pos
half number = record { 0 = number / 2 }

-- The failures of a ring of n in their order, counted from 0: fibres degraded, fibres cut, spans, nodes, manual
-- switches, forced switches; each by position, west before east. Of two failures that set the same fibre or the command
-- of the same side, the worse one has the higher number. So where a case has its failures in this order, the worse one
-- comes last and stays in force.
unfoldable pub failure_at : ℕ → ℕ → Failure
failure_at n i =
    if nat_lt i (2 * n) then Degraded (half i) (side_of i) else
    if nat_lt i (4 * n) then Cut (half (i - 2 * n)) (side_of (i - 2 * n)) else
    if nat_lt i (5 * n) then Span (record { 0 = i - 4 * n }) else
    if nat_lt i (6 * n) then Node (record { 0 = i - 5 * n }) else
    if nat_lt i (8 * n) then Manual (half (i - 6 * n)) (side_of (i - 6 * n)) else
    Forced (half (i - 8 * n)) (side_of (i - 8 * n))
