-- What comes of a script whose fibres aren't made yet.
use Rattle.std.specs.Prelude.{ℕ, ◌≡◌, ◌≢◌, ◌⊎◌, List, [], length, take}
use Rattle.std.specs.List.{flat_map}
use Rattle.sdh_plant.specs.Fibres.{Fibres}
use Rattle.sdh_plant.specs.Calls.{prepared}
use Rattle.sdh_rounds.specs.Held.{HeldRing, World, world}
use Rattle.sdh_rounds.specs.Laws.{Appends}
use Rattle.sdh_plan.specs.declared.step.Step.{Step}
use Rattle.sdh_status.specs.declared.Status.{Status}
use Rattle.sdh_status.specs.declared.Status.TheVariants as status
use Rattle.sdh_scripts.specs.Walks.{Walk}
use Rattle.sdh_scripts.specs.Scripts.{Runs, Ran, reports_within}

-- a ring over fibres that were just prepared for it
abbrev pub with_fibres : {N : Type 0} → HeldRing N → Fibres → World N
with_fibres r f = world r (prepared r.settings.rate (length r.ids) f)

-- What comes of steps over any plant. Either it made no fibres, and nothing ran; or these are the reports of the steps
-- from this world, which has the fibres that were prepared.
abbrev pub ComesOfSteps : {N T : Type 0} → Walk N T → ℕ → List Step → World N → Fibres → List T → Status → Fibres → Type 0
ComesOfSteps {N} walk limit steps w f reports end left =
    ((end ≡ status.PlantFault) × (reports ≡ []) × (left ≡ f))
    ⊎ ((last : World N) × (last.fibres ≡ left) × Runs walk limit 0 steps w reports end last)

-- the text is what is written of each report of what came, over any plant
pub record Came {N T : Type 0} (walk : Walk N T) (limit : ℕ) (text_of : T → List ℕ) (steps : List Step) (w : World N) (f : Fibres)
    (text : List ℕ) (end : Status) (left : Fibres) : Type 0 where
  pub reports : List T
  pub text_is : text ≡ flat_map text_of reports
  pub ran : ComesOfSteps walk limit steps w f reports end left

-- A run ended so where the arrivals are known: its reports, its ending and its fibres are those that the script comes
-- to, with all frames sent.
pub record IsDone {N T : Type 0} (r : Ran N T) (reports : List T) (end : Status) (left : Fibres) : Type 0 where
  pub reports_are : reports ≡ r.reports
  pub end_is : end ≡ r.ending
  pub left_is : left ≡ r.left.fibres

-- A fault broke a run off when the first `count` of its frames were sent, in a ring of n. The reports are those of
-- exactly the settle steps that had sent all their frames, which are those of the step's own rounds and of the rounds
-- that are run after it.
pub record IsCut {N T : Type 0} (walk : Walk N T) (r : Ran N T) (n : ℕ) (f : Fibres) (reports : List T) (left : Fibres) : Type 0 where
  pub count : ℕ
  pub frames : Appends f (take count r.frames) left
  pub reports_are : reports ≡ reports_within walk n count r.reports

abbrev pub ComesOfKnownRun : {N T : Type 0} → Walk N T → Ran N T → ℕ → Fibres → List T → Status → Fibres → Type 0
ComesOfKnownRun walk r n f reports end left = IsDone r reports end left ⊎ ((end ≡ status.PlantFault) × IsCut walk r n f reports left)

-- no settle step was unsettled
abbrev pub AllSettled : Status → Type 0
AllSettled end = (k : ℕ) → end ≢ status.Unsettled k
