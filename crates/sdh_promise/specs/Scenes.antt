-- What a plan's script says of a ring: the change that each step makes, and the changes before each settle step.
use Rattle.std.specs.Prelude.{List, [], ◌∷◌, ◌++◌}
use Rattle.sdh_plan.specs.declared.step.Step.{Step}
use Rattle.sdh_plan.specs.declared.step.Step.TheVariants as step
use Rattle.sdh_restoration.specs.Changes.{Change, Fibre, Order, Hold, Slip, Now}

-- the change that a step makes; a settle step makes none
abbrev pub changes_of : Step → List Change
changes_of (step.Fibre e) = Fibre e.at.0 e.side e.condition ∷ []
changes_of (step.Order p d command) = Order p.0 d command ∷ []
changes_of (step.Moment now) = Now now.0 ∷ []
changes_of (step.Hold p turns) = Hold p.0 turns ∷ []
changes_of (step.Slip port turn count) = Slip port turn count ∷ []
changes_of step.Settle = []

-- for each settle step among these steps, the changes since the settle step before it; `changes` were made before these
-- steps
abbrev pub scenes : List Change → List Step → List (List Change)
scenes changes [] = []
scenes changes (step.Settle ∷ later) = changes ∷ scenes [] later
scenes changes (s ∷ later) = scenes (changes ++ changes_of s) later
