-- What one step of a script comes to.
use Rattle.std.specs.Prelude.{ℕ, ◌≡◌, List, Option}
use Rattle.std.specs.Io.KnownBytes.{Appends}
use Rattle.sdh_plant.specs.Fibres.{Fibres}
use Rattle.sdh_rounds.specs.Held.{World}
use Rattle.sdh_rounds.specs.Quiet.{Unsettles}
use Rattle.sdh_rounds.specs.declared.faults.SettleError.{SettleError}
use Rattle.sdh_rounds.specs.declared.faults.SettleError.TheVariants.{Unsettled, PlantFault}
use Rattle.sdh_plan.specs.declared.step.Step.{Step}
use Rattle.sdh_plan.specs.declared.step.Step.TheVariants as step
use Rattle.sdh_scripts.specs.Walks.{Walk}
use Rattle.sdh_scripts.specs.Scripts.{Ended, Breaks}

-- a fibre's step was refused, and the fibres are as they were; no other step is refused
abbrev pub Refused : Step → Fibres → Fibres → Type 0
Refused (step.Fibre e) f g = g ≡ f
Refused s f g = ⊥

-- a settle step ended, and what is written of it was appended
pub record WroteStep {N T : Type 0} (walk : Walk N T) (limit number : ℕ) (text_of : T → List ℕ) (w left : World N)
    (old new : Option (List ℕ)) : Type 0 where
  pub told : T
  pub ended : Ended walk limit number w told left
  pub text : Appends old new (text_of told)

-- why a settle step, with the rounds after it, didn't end
abbrev pub EndsBy : {N T : Type 0} → Walk N T → ℕ → World N → SettleError → World N → Type 0
EndsBy walk limit w Unsettled left = Unsettles walk.station w limit left
EndsBy walk limit w PlantFault left = Breaks walk limit w left.fibres
