-- What a step of a script changes in a ring of any kind and its fibres before any round runs, and what a script has led
-- to so far.
use Rattle.std.specs.Prelude.{ℕ}
use Rattle.sdh_plant.specs.Calls.{after_apply}
use Rattle.sdh_rounds.specs.Held.{HeldRing, World}
use Rattle.sdh_rounds.specs.Changing.{Changing, at_moment}
use Rattle.sdh_plan.specs.declared.step.Step.{Step}
use Rattle.sdh_plan.specs.declared.step.Step.TheVariants as step
use Rattle.sdh_plan.specs.Steps.{Past}

-- the ring and its fibres after the change of a step; a settle step makes none
abbrev pub stepped : {N : Type 0} → Changing N → Step → World N → World N
stepped changes (step.Fibre e) w = record w { fibres = after_apply w.fibres e.at.0 e.side e.condition }
stepped changes (step.Order at side command) w = record w { ring = changes.commanded at.0 side command w.ring }
stepped changes (step.Hold at turns) w = record w { ring = changes.held_for at.0 turns w.ring }
stepped changes (step.Slip port turn count) w = record w { ring = changes.slipped port turn count w.ring }
stepped changes (step.Moment now) w = record w { ring = at_moment now.0 w.ring }
stepped changes step.Settle w = w

-- what the script has led to so far: the ring's moment, the number of settle steps, and the slips that wait at its
-- ports
abbrev pub script_past : {N : Type 0} → Changing N → ℕ → HeldRing N → Past
script_past changes before r = record { moment = r.moment; settles = before; slips = changes.waiting_at r }
