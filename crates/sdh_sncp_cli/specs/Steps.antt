-- Which steps of a script are those of a path ring.
use Rattle.std.specs.Prelude.{ℕ, ◌≡◌, ◌+◌, ◌<◌, ◌≤◌, Bool, true, false, Option, None, List, [], ◌∷◌, option_map, position}
use Rattle.sdh_ringmap.specs.declared.terms.Rate.{Rate}
use Rattle.sdh_ringmap.specs.Fibres.{IsConditionAt}
use Rattle.sdh_plan.specs.declared.step.Step.{Step}
use Rattle.sdh_plan.specs.declared.step.Step.TheVariants as step

-- a path ring doesn't have the step: a path ring's steps give a fibre a condition, or settle
abbrev pub is_strange : Step → Bool
is_strange (step.Fibre e) = false
is_strange (step.Order p d c) = true
is_strange (step.Moment m) = true
is_strange (step.Hold p turns) = true
is_strange (step.Slip port turn count) = true
is_strange step.Settle = false

-- the number of the first step that a path ring doesn't have, counted from 1
unfoldable pub first_strange : List Step → Option ℕ
first_strange steps = option_map (λ i. i + 1) (position is_strange steps)

-- all steps are a path ring's
abbrev pub AreKnown : List Step → Type 0
AreKnown steps = first_strange steps ≡ None

-- the steps can be done in a path ring of `size` nodes, after `before` settle steps; a script has at most 64 of them
abbrev pub MayDo : Rate → ℕ → ℕ → List Step → Type 0
MayDo rate size before [] = Unit {0}
MayDo rate size before (step.Fibre e ∷ later) = (e.at.0 < size) × IsConditionAt rate e.condition × MayDo rate size before later
MayDo rate size before (step.Settle ∷ later) = (before + 1 ≤ 64) × MayDo rate size (before + 1) later
MayDo rate size before (s ∷ later) = ⊥
