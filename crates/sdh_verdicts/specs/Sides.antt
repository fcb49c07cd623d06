-- A side on its way through a script, step by step, and what the program keeps of it.
use Rattle.std.specs.Prelude.{ℕ, option_map, List, [], ◌∷◌}
use Rattle.sdh_ringmap.specs.declared.Side.{Side}
use Rattle.sdh_plan.specs.declared.step.Step.{Step}
use Rattle.sdh_plan.specs.declared.step.Step.TheVariants as step
use Rattle.sdh_promise.specs.Scenes.{changes_of}
use Rattle.sdh_restoration.specs.Sides.{all_holding}
use Rattle.sdh_verdicts.specs.Resting as rest
use Rattle.sdh_verdicts.specs.declared.resting.Resting.{Resting}

-- what the program keeps of a side, as the definitions have it
abbrev pub resting_of : Resting → rest.Resting
resting_of r = record {
  holding = record { condition = r.condition; command = r.command; moment = r.moment.0 };
  defect = r.defect;
  ended = option_map (λ m. m.0) r.ended;
}

-- the state of a side after a settle step that leaves its condition, command and moment as they are
abbrev pub at_rest_now : ℕ → rest.Resting → rest.Resting
at_rest_now threshold r = rest.at_rest threshold r.holding r

-- the state of side d of position p in a ring of n after a step: a change is in force at once, and in a settle step the
-- side comes to rest
abbrev pub rest_after : ℕ → ℕ → ℕ → Side → Step → rest.Resting → rest.Resting
rest_after threshold n p d step.Settle r = at_rest_now threshold r
rest_after threshold n p d s r = record r { holding = all_holding n p d (changes_of s) r.holding }

-- the state of side d of position p in a ring of n after some steps
abbrev pub rests : ℕ → ℕ → ℕ → Side → List Step → rest.Resting → rest.Resting
rests threshold n p d [] r = r
rests threshold n p d (s ∷ later) r = rests threshold n p d later (rest_after threshold n p d s r)
