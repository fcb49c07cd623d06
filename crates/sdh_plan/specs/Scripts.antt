-- What is true of the script of every plan.
use Rattle.std.specs.Prelude.{ℕ, ◌+◌, ◌<◌, ◌≤◌, List, [], ◌∷◌}
use Rattle.sdh_ringmap.specs.declared.terms.Rate.{Rate}
use Rattle.sdh_ringmap.specs.Fibres.{IsConditionAt}
use Rattle.sdh_circuits.specs.declared.PortId.{PortId}
use Rattle.sdh_plan.specs.declared.step.Step.{Step}
use Rattle.sdh_plan.specs.declared.step.Step.TheVariants as step
use Rattle.sdh_plan.specs.Steps.{Past, after}

-- the step can be done in a ring of `size` nodes with `circuits` circuits
abbrev pub IsStepIn : Rate → ℕ → ℕ → Step → Type 0
IsStepIn rate size circuits (step.Fibre event) = (event.at.0 < size) × IsConditionAt rate event.condition
IsStepIn rate size circuits (step.Order at on c) = at.0 < size
IsStepIn rate size circuits (step.Moment m) = m.0 ≤ 1000000000
IsStepIn rate size circuits (step.Hold at turns) = (at.0 < size) × (1 ≤ turns) × (turns ≤ 100)
IsStepIn rate size circuits (step.Slip port turn count) = (port.circuit < circuits) × (1 ≤ count) × (count ≤ 16)
IsStepIn rate size circuits step.Settle = Unit {0}

-- each port has at most 16 slips after the step, with those that it got since the last settle step
abbrev pub HasRoom : (PortId → ℕ) → Step → Type 0
HasRoom slips (step.Fibre event) = Unit {0}
HasRoom slips (step.Order at on c) = Unit {0}
HasRoom slips (step.Moment m) = Unit {0}
HasRoom slips (step.Hold at turns) = Unit {0}
HasRoom slips (step.Slip port turn count) = slips port + count ≤ 16
HasRoom slips step.Settle = Unit {0}

-- the step can be done after what the script has led to: it is one of the ring, no moment goes back, at most 64 steps
-- run rounds, and no port is given too many slips
pub record Fits (rate : Rate) (size circuits : ℕ) (past : Past) (s : Step) : Type 0 where
  pub in_ring : IsStepIn rate size circuits s
  pub forward : past.moment ≤ (after past s).moment
  pub few_settles : (after past s).settles ≤ 64
  pub few_slips : HasRoom past.slips s

-- the steps can be done one after the other
abbrev pub AreSteps : Rate → ℕ → ℕ → Past → List Step → Type 0
AreSteps rate size circuits past [] = Unit {0}
AreSteps rate size circuits past (s ∷ later) = Fits rate size circuits past s × AreSteps rate size circuits (after past s) later

-- what a script has led to after these steps
abbrev pub after_all : Past → List Step → Past
after_all past [] = past
after_all past (s ∷ later) = after_all (after past s) later
