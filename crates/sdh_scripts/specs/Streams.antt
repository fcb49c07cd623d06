-- What is written of a script, step by step, while it runs. The run begins with a plant that has made no fibres.
use Rattle.std.specs.Prelude.{ℕ, ◌≡◌, ◌≢◌, ◌⊎◌, ◌+◌, List, [], ◌∷◌, ◌++◌, length, Option}
use Rattle.std.specs.List.{flat_map}
use Rattle.std.specs.Io.KnownBytes.{Appends}
use Rattle.sdh_plant.specs.Fibres.{Fibres}
use Rattle.sdh_rounds.specs.Held.{World}
use Rattle.sdh_plan.specs.declared.step.Step.{Step}
use Rattle.sdh_plan.specs.declared.step.Step.TheVariants as step
use Rattle.sdh_status.specs.declared.Status.{Status}
use Rattle.sdh_status.specs.declared.Status.TheVariants as status
use Rattle.sdh_scripts.specs.Walks.{Walk}
use Rattle.sdh_scripts.specs.Scripts.{Ended, Refuses, Runs}
use Rattle.sdh_scripts.specs.Tellers.{Begun, OneMore}
use Rattle.sdh_scripts.specs.Texts.{Stopped}

-- the plant made no fibres, and nothing ran
abbrev pub NoneMade : {N T : Type 0} → Fibres → List T → Status → World N → Type 0
NoneMade f reports end left = (end ≡ status.PlantFault) × (reports ≡ []) × (left.fibres ≡ f)

-- What is written after the settle steps that ended. It is nothing where the script was done, or the plant made no
-- fibres. Otherwise a settle step ended the script, and what is written of the rounds that it ran is the tail.
abbrev pub IsTail : {N T : Type 0} → Walk N T → ℕ → (T → List ℕ) → List Step → World N → Fibres → List T → List ℕ → Status → World N → Type 0
IsTail walk limit begun_of steps w f reports tail end left =
    ((tail ≡ []) × ((end ≡ status.Ok) ⊎ NoneMade f reports end left)) ⊎ Stopped walk limit begun_of steps w reports tail end left

-- No write failed: what is written of each report was written, and then what is written of the step with which the
-- script stopped before its end. The fibres were `f`, and the script ran over those that were prepared for the ring.
pub record WroteSteps {N T : Type 0} (walk : Walk N T) (limit : ℕ) (text_of begun_of : T → List ℕ) (steps : List Step) (w : World N)
    (f : Fibres) (old new : Option (List ℕ)) (end : Status) (left : World N) : Type 0 where
  pub reports : List T
  pub ran : NoneMade f reports end left ⊎ Runs walk limit 0 steps w reports end left
  pub tail : List ℕ
  pub tail_is : IsTail walk limit begun_of steps w f reports tail end left
  pub text : Appends old new (flat_map text_of reports ++ tail)

-- ---- what is reported of the step with which a script ended

-- of a settle step the rounds that ran are reported, without the one that a plant's fault broke off; of a step that was
-- refused, nothing
abbrev pub LastTold : {N T : Type 0} → Walk N T → ℕ → ℕ → Step → World N → List T → Status → World N → Type 0
LastTold {T = T} walk limit before step.Settle w begun end left =
    Runs {T = T} walk limit before (step.Settle ∷ []) w [] end left
    × (x : Begun walk limit (before + 1) (λ told. []) w [] left) × (begun ≡ x.told ∷ []) × (end ≢ status.PlantFault → left ≡ x.mid)
LastTold {T = T} walk limit before s w begun end left = Refuses {T = T} s w [] end left × (begun ≡ [])

-- the script ended with the step after those that gave `reports`, and `begun` is reported of it
pub record StoppedTold {N T : Type 0} (walk : Walk N T) (limit : ℕ) (steps : List Step) (w : World N) (reports begun : List T)
    (end : Status) (left : World N) : Type 0 where
  pub gone : List Step
  pub stops : Step
  pub later : List Step
  pub steps_are : steps ≡ gone ++ stops ∷ later
  pub mid : World N
  pub went : Runs walk limit 0 gone w reports status.Ok mid
  pub last : LastTold walk limit (length reports) stops mid begun end left

-- A write failed in a settle step, and nothing more was run. This had been reported: `done` of the settle steps before it,
-- and `shown` of its rounds. This was to be reported then: `ended` of the settle steps that ended, and `begun` of the rounds
-- of that step where it hadn't ended. Of its rounds `shown` is without the one that ran last, or it has all where the step
-- ended.
pub record CutTold {N T : Type 0} (walk : Walk N T) (limit : ℕ) (steps : List Step) (w : World N) (done shown ended begun : List T)
    (left : World N) : Type 0 where
  pub gone : List Step
  pub later : List Step
  pub steps_are : steps ≡ gone ++ step.Settle ∷ later
  pub mid : World N
  pub went : Runs walk limit 0 gone w done status.Ok mid
  pub was : ((before : T) × (told : T) × OneMore walk limit (length done + 1) mid before told left × (shown ≡ before ∷ []) × (ended ≡ done)
      × (begun ≡ told ∷ []))
      ⊎ ((told : T) × Ended walk limit (length done + 1) mid told left × (shown ≡ told ∷ []) × (ended ≡ done ++ told ∷ []) × (begun ≡ []))
