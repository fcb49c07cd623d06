-- A plan's steps can be done in a path ring where none of them is strange.
use Rattle.std.proofs.Common.{◌≡◌, ℕ, ◌+◌, ◌≤◌, Bool, true, false, None, Some, List, [], ◌∷◌, length, refl, arith}
use Rattle.std.specs.Prelude.{nat_lt, option_map, cond}
use Rattle.std.specs.List.{position_or_len}
use Rattle.std.proofs.lemmas.Bool.Decides.{nat_tests}
use Rattle.sdh_ringmap.specs.declared.terms.Rate.{Rate}
use Rattle.sdh_plan.specs.declared.step.Step.{Step}
use Rattle.sdh_plan.specs.declared.step.Step.TheVariants as step
use Rattle.sdh_plan.specs.Steps.{Past, after, new_past}
use Rattle.sdh_plan.specs.Scripts.{AreSteps}
use Rattle.sdh_sncp_cli.specs.Steps.{is_strange, first_strange, AreKnown, MayDo}

-- where no step is strange, the search for one goes past the last step
none_here : (steps : List Step) → AreKnown steps → length steps ≤ position_or_len is_strange steps
unfolding first_strange
none_here steps none = by (nat_lt (position_or_len is_strange steps) (length steps)) refl none
  where
    by : (b : Bool) → nat_lt (position_or_len is_strange steps) (length steps) ≡ b
        → option_map (λ (i : ℕ). i + 1) (cond b (Some (position_or_len is_strange steps)) None) ≡ None
        → length steps ≤ position_or_len is_strange steps
    by true e x = absurd (grind arith)
    by false e x = grind (arith, nat_tests)

may_do : (rate : Rate) (size circuits : ℕ) (steps : List Step) (past : Past) → length steps ≤ position_or_len is_strange steps
    → AreSteps rate size circuits past steps → MayDo rate size past.settles steps
may_do rate size circuits [] past none fit = tt
may_do rate size circuits (step.Fibre e ∷ later) past none fit =
    (fit.0.in_ring.0, fit.0.in_ring.1, may_do rate size circuits later past (omega (arith, none)) fit.1)
may_do rate size circuits (step.Settle ∷ later) past none fit =
    (fit.0.few_settles, may_do rate size circuits later (after past step.Settle) (omega (arith, none)) fit.1)
may_do rate size circuits (step.Order p d c ∷ later) past none fit = absurd (omega (arith, none))
may_do rate size circuits (step.Moment m ∷ later) past none fit = absurd (omega (arith, none))
may_do rate size circuits (step.Hold p turns ∷ later) past none fit = absurd (omega (arith, none))
may_do rate size circuits (step.Slip port turn count ∷ later) past none fit = absurd (omega (arith, none))

pub fits : (rate : Rate) (size circuits : ℕ) (steps : List Step) → AreKnown steps → AreSteps rate size circuits new_past steps
    → MayDo rate size 0 steps
fits rate size circuits steps none fit = may_do rate size circuits steps new_past (none_here steps none) fit
