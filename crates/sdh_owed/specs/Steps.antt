-- What a step of a script changes in a ring and its fibres before any round runs, and what a script has led to so far.
use Rattle.std.specs.Prelude.{ℕ}
use Rattle.sdh_node.specs.Rings.Held.{HeldRing}
use Rattle.sdh_node.specs.Rings.Rounds.{World}
use Rattle.sdh_node.specs.Rings.Clocks.{waiting_at}
use Rattle.sdh_node.specs.Rings.Changes.{all_changed}
use Rattle.sdh_plan.specs.declared.step.Step.{Step}
use Rattle.sdh_plan.specs.Steps.{Past}
use Rattle.sdh_promise.specs.Scenes.{changes_of}

abbrev pub world_after_step : Step → World → World
world_after_step s w = all_changed (changes_of s) w

-- what the script has led to so far: the ring's moment, the number of settle steps, and the slips that wait at its
-- ports
abbrev pub past_of : ℕ → HeldRing → Past
past_of before r = record { moment = r.moment; settles = before; slips = waiting_at r }
