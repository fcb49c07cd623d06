-- What a program may promise of a plan that is run.
use Rattle.std.specs.Prelude.{ℕ, ◌≡◌, ◌⊎◌, ◌≤◌, List, ◌++◌, length, Option, Some, None}
use Rattle.std.specs.Io.KnownBytes.{Appends}
use Rattle.sdh_plant.specs.Fibres.{Fibres}
use Rattle.sdh_plan.specs.Planned.{Planned}
use Rattle.sdh_status.specs.declared.Status.{Status}
use Rattle.sdh_status.specs.declared.Status.TheVariants as status
use Rattle.sdh_rounds.specs.Quiet.{enough_for}
use Rattle.sdh_scripts.specs.Outcomes.{AllSettled}
use Rattle.sdh_shell.specs.Reading.{TellsPlan}
use Rattle.sdh_shell.specs.Calls.{HasRun}
use Rattle.sdh_programs.specs.Programs.{Deed, Refuses, Writes, Runs, Program}

-- the plan of what is asked: the one that it names by itself, or else that of the source's bytes
abbrev pub is_plan_for : Option Planned → List ℕ → Planned → Type 0
is_plan_for None bytes plan = TellsPlan bytes plan
is_plan_for (Some own) bytes plan = plan ≡ own

abbrev pub IsPlanFor : {A L T E : Type 0} → Program A L T E → A → List ℕ → Planned → Type 0
IsPlanFor program ask bytes plan = is_plan_for (program.own_plan ask) bytes plan

-- Where a plan is run and the run came to its end, the text is what is listed of the settle steps' reports, and the
-- last line. `P` holds of the plan, the reports and how the run ended.
abbrev pub Shows : {A L T E : Type 0} → Program A L T E → A → (Planned → List T → Status → Type 0) → List ℕ → E → Option (List ℕ)
    → Option (List ℕ) → Type 0
Shows {L = L} {T = T} program ask P bytes how old new = (plan : Planned) (listing : L) (end : Status) → IsPlanFor program ask bytes plan
    → program.Does ask plan (Runs listing) → how ≡ program.endings.of end → HasRun end
    → (told : List T) × Appends old new (program.text_of listing told ++ program.endings.line how) × P plan told end

-- where `Known` holds of the plan, the run ended as `ending` says of the plan, or a plant's call failed
abbrev pub EndsAs : (Planned → Type 0) → (Planned → Status) → List ℕ → Status → Type 0
EndsAs Known ending bytes how =
    (plan : Planned) → TellsPlan bytes plan → HasRun how → Known plan → (how ≡ ending plan) ⊎ (how ≡ status.PlantFault)

-- with a limit that is always enough no settle step is unsettled
abbrev pub AlwaysSettles : List ℕ → Status → Type 0
AlwaysSettles bytes how = (plan : Planned) → TellsPlan bytes plan → enough_for (length plan.nodes) ≤ plan.limit → AllSettled how

-- All that a deed needs is given. To write a text of the plan nothing is needed. To run the plan to its end `MaySettle`
-- has to hold for what is listed. A deed that refuses the plan can't be done, whatever is given.
abbrev pub may_do_by : {L E : Type 0} → (L → Planned → Fibres → Type 0) → Deed L E → Planned → Fibres → Type 0
may_do_by MaySettle (Refuses why) plan f = ⊥
may_do_by MaySettle (Writes told) plan f = Unit {0}
may_do_by MaySettle (Runs listing) plan f = MaySettle listing plan f

abbrev pub may_do : {A L T E : Type 0} → Program A L T E → Deed L E → Planned → Fibres → Type 0
may_do program = may_do_by program.MaySettle

-- with this plan, what is asked is a deed that has all it needs
abbrev pub may_go_by : {A L E : Type 0} → (A → Planned → Deed L E → Type 0) → (L → Planned → Fibres → Type 0) → A → Planned → Fibres → Type 0
may_go_by {L = L} {E = E} Does MaySettle ask plan f = (deed : Deed L E) × Does ask plan deed × may_do_by MaySettle deed plan f

abbrev pub MayGo : {A L T E : Type 0} → Program A L T E → A → Planned → Fibres → Type 0
MayGo program = may_go_by program.Does program.MaySettle

-- What is asked can be done. The source's bytes are known, and the deed has all it needs with the plan that what is
-- asked names by itself, or else with the plan of the bytes.
abbrev pub may_be_done_by : {A : Type 0} → (A → Option Planned) → (A → Planned → Fibres → Type 0) → A → Option (List ℕ) → Fibres → Type 0
may_be_done_by own_plan May ask None f = ⊥
may_be_done_by own_plan May ask (Some bytes) f = (plan : Planned) × is_plan_for (own_plan ask) bytes plan × May ask plan f

abbrev pub MayBeDone : {A L T E : Type 0} → Program A L T E → A → Option (List ℕ) → Fibres → Type 0
MayBeDone program = may_be_done_by program.own_plan (MayGo program)
