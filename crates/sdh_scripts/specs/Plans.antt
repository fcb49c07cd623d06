-- What is reported of a plan, for a ring of any kind. The run begins with a plant that has made no fibres.
use Rattle.std.specs.Prelude.{ℕ, ◌≡◌, ◌⊎◌, ◌≤◌, true, List, length}
use Rattle.std.specs.List.{flat_map}
use Rattle.sdh_plant.specs.Fibres.{Fibres}
use Rattle.sdh_plant.specs.Arrivals.{Knows}
use Rattle.sdh_rounds.specs.Held.{HeldRing, World}
use Rattle.sdh_rounds.specs.Quiet.{enough_for}
use Rattle.sdh_plan.specs.Planned.{Planned}
use Rattle.sdh_status.specs.declared.Status.{Status}
use Rattle.sdh_status.specs.declared.Status.TheVariants as status
use Rattle.sdh_scripts.specs.Walks.{Walk}
use Rattle.sdh_scripts.specs.Scripts.{Ran, script}
use Rattle.sdh_scripts.specs.Outcomes.{with_fibres, AllSettled, ComesOfSteps, ComesOfKnownRun}

-- how plans are run and reported over rings of some kind
pub record Account (N T : Type 0) : Type 1 where
  -- what a script does with such a ring, and what is reported of a settle step
  pub walk : Walk N T
  -- the ring of a plan, in which no round has run
  pub new_ring : Planned → HeldRing N

-- what reports of a plan owe over these fibres, which are honest, with this ending and the fibres that were left
abbrev pub ReportsOwe : Type 0 → Type 1
ReportsOwe T = Planned → Fibres → List T → Status → Fibres → Type 0

-- the ring of a plan, over fibres that were just prepared for it
abbrev pub world_of : {N T : Type 0} → Account N T → Planned → Fibres → World N
world_of t plan f = with_fibres (t.new_ring plan) f

-- what the script of a plan comes to over these fibres, where the arrivals are known
abbrev pub ran_of : {N T : Type 0} → Account N T → Planned → Fibres → Ran N T
ran_of t plan f = script t.walk plan.limit 0 plan.steps (world_of t plan f)

-- what comes of the script of a plan over any plant
abbrev pub Comes : {N T : Type 0} → Account N T → Planned → Fibres → List T → Status → Fibres → Type 0
Comes t plan f reports end left = ComesOfSteps t.walk plan.limit plan.steps (world_of t plan f) f reports end left

-- what comes of the script of a plan where the arrivals are known
abbrev pub ComesKnown : {N T : Type 0} → Account N T → Planned → Fibres → List T → Status → Fibres → Type 0
ComesKnown t plan f reports end left = ComesOfKnownRun t.walk (ran_of t plan f) (length plan.nodes) f reports end left

-- A script that settles: either the arrivals are known, and with them each settle step has a quiet window within the
-- limit; or the fibres are honest and the limit is large.
abbrev pub MaySettle : {N T : Type 0} → Account N T → Planned → Fibres → Type 0
MaySettle t plan f =
    (Knows (world_of t plan f).fibres × ((ran_of t plan f).ending ≡ status.Ok))
    ⊎ ((f.honest ≡ true) × (enough_for (length plan.nodes) ≤ plan.limit))

-- What holds of one list of reports. Over every plant they are those of the rounds that ran. Where the arrivals are
-- known, they are those that the script comes to; after a fault, the first of them. Over honest fibres they show what
-- is owed, and with a limit that is always enough no settle step is unsettled.
pub record IsRunOf {N T : Type 0} (t : Account N T) (Owes : ReportsOwe T) (plan : Planned) (f : Fibres) (reports : List T) (end : Status)
    (left : Fibres) : Type 0 where
  pub ran : Comes t plan f reports end left
  pub known : Knows (world_of t plan f).fibres → ComesKnown t plan f reports end left
  pub owed : f.honest ≡ true → Owes plan f reports end left
  pub settles : f.honest ≡ true → enough_for (length plan.nodes) ≤ plan.limit → AllSettled end

-- the text is what is written of each report of a run
pub record Tells {N T : Type 0} (t : Account N T) (Owes : ReportsOwe T) (text_of : T → List ℕ) (plan : Planned) (f : Fibres)
    (text : List ℕ) (end : Status) (left : Fibres) : Type 0 where
  pub reports : List T
  pub text_is : text ≡ flat_map text_of reports
  pub came : IsRunOf t Owes plan f reports end left
