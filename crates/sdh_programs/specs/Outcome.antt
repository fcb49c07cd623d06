-- How a call of a program ends: each ending, when it is answered, and the text that goes with it.
use Rattle.std.specs.Prelude.{◌≡◌, ◌⊎◌, ℕ, Bool, true, false, List, ◌++◌, Option, Some, None}
use Rattle.sdh_plant.specs.Fibres.{Fibres}
use Rattle.sdh_plan.specs.Planned.{Planned}
use Rattle.sdh_status.specs.declared.Status.{Status}
use Rattle.sdh_status.specs.declared.Status.TheVariants as status
use Rattle.sdh_report.specs.Lines.{own_line}
use Rattle.sdh_shell.specs.Calls.{HasRun}
use Rattle.sdh_shell.specs.Endings.{RefusesPlan}
use Rattle.sdh_shell.specs.Reading.{HasNoPlan, TellsPlan, told_if}
use Rattle.sdh_shell.specs.Failing.{Counts, EndsWithCause}
use Rattle.sdh_shell.specs.Writing.{Parts, joined, Says, WritesWith}
use Rattle.sdh_programs.specs.Programs.{Deed, Refuses, Writes, Runs, Program}

-- ---- with a plan

-- A plan was run over new fibres and the run came to its end: the text is what is listed of its settle steps' reports,
-- and then the last line.
pub record IsRunOutcome {A L T E : Type 0} (program : Program A L T E) (listing : L) (plan : Planned) (f : Fibres) (how : E)
    (text : Parts) (left : Fibres) : Type 0 where
  pub status : Status
  pub ends : HasRun status
  pub told : List T
  pub how_is : how ≡ program.closing.ends listing told status
  pub text_is : text ≡ record { first = program.text_of listing told; last = program.closing.line listing how }
  pub came : program.IsRunOf plan f told status left

-- How a deed with a plan ends, with this text and these fibres left. Where no round is run the fibres are left alone,
-- and the text is the last line alone, or the text that is written of the plan and the last line.
abbrev pub OfDeed : {A L T E : Type 0} → Program A L T E → Deed L E → Planned → Fibres → E → Parts → Fibres → Type 0
OfDeed program (Refuses why) plan f how text left =
    (how ≡ why) × RefusesPlan program.endings how × Says (program.endings.line how) text f left
OfDeed program (Writes told) plan f how text left =
    (how ≡ program.endings.of status.Ok) × Says (told ++ program.endings.line how) text f left
OfDeed program (Runs listing) plan f how text left = IsRunOutcome program listing plan f how text left

-- with this plan, what is asked has this ending and this text, and leaves these fibres
abbrev pub OfPlan : {A L T E : Type 0} → Program A L T E → A → Planned → Fibres → E → Parts → Fibres → Type 0
OfPlan {L = L} {E = E} program ask plan f how text left =
    (deed : Deed L E) × program.Does ask plan deed × OfDeed program deed plan f how text left

-- ---- with the bytes of a source

-- no plan came of the bytes, the last line is all of the text, and the fibres are left alone
pub record HasRefused {A L T E : Type 0} (program : Program A L T E) (bytes : List ℕ) (f : Fibres) (how : E) (text : Parts)
    (left : Fibres) : Type 0 where
  pub status : Status
  pub how_is : how ≡ program.endings.of status
  pub none : HasNoPlan bytes status
  pub says : Says (program.endings.line how) text f left

-- the bytes are refused, or what is asked has this ending and this text with the plan of the bytes
abbrev pub OfBytes : {A L T E : Type 0} → Program A L T E → A → List ℕ → Fibres → E → Parts → Fibres → Type 0
OfBytes program ask bytes f how text left =
    HasRefused program bytes f how text left ⊎ ((plan : Planned) × TellsPlan bytes plan × OfPlan program ask plan f how text left)

-- ---- with the words

-- what is asked has this ending and this text, with the plan that it names or with the bytes of a source
abbrev pub OfOwnPlan : {A L T E : Type 0} → Program A L T E → A → Option Planned → List ℕ → Fibres → E → Parts → Fibres → Type 0
OfOwnPlan program ask None bytes f how text left = OfBytes program ask bytes f how text left
OfOwnPlan program ask (Some plan) bytes f how text left = OfPlan program ask plan f how text left

-- What the words ask for, if anything, ends so with this text, where the source had these bytes left. No outcome is a
-- write fault or a lack of memory: each of these may stand in place of an outcome.
abbrev pub IsOutcome : {A L T E : Type 0} → Program A L T E → Option A → List ℕ → Fibres → E → Parts → Fibres → Type 0
IsOutcome program None bytes f how text left = (how ≡ program.endings.of status.Usage) × Says (own_line program.usage) text f left
IsOutcome program (Some ask) bytes f how text left = OfOwnPlan program ask (program.own_plan ask) bytes f how text left

-- an outcome that, if it is a read fault or a plant fault, has its cause in a call that failed
abbrev pub MayEndIn : {A L T E : Type 0} → Program A L T E → Option A → List ℕ → Fibres → Counts → Counts → E → Parts → Fibres → Type 0
MayEndIn program asked bytes f reads calls how text left =
    IsOutcome program asked bytes f how text left × EndsWithCause program.endings reads calls how

-- the same where the text is written in one go
abbrev pub MayEnd : {A L T E : Type 0} → Program A L T E → Option A → List ℕ → Fibres → Counts → Counts → E → List ℕ → Fibres → Type 0
MayEnd program asked bytes f reads calls how all left =
    (text : Parts) × (all ≡ joined text) × MayEndIn program asked bytes f reads calls how text left

-- what was written when the program ended with this number
pub record Answers {A L T E : Type 0} (program : Program A L T E) (asked : Option A) (bytes : List ℕ) (f left : Fibres)
    (reads calls : Counts) (number : ℕ) (old new : Option (List ℕ)) : Type 0 where
  pub ending : E
  pub numbered : number ≡ program.endings.number ending
  pub writes : WritesWith program.endings (λ how text. MayEnd program asked bytes f reads calls how text left) ending old new

-- ---- what is needed of source and plant

-- the source is read where what is asked names no plan by itself
abbrev pub reads_without : Option Planned → Bool
reads_without None = true
reads_without (Some plan) = false

-- the source is read for what is asked; `own_plan` gives the plan that it names by itself, if it names one
abbrev pub reads_by : {A : Type 0} → (A → Option Planned) → Option A → Bool
reads_by own_plan None = false
reads_by own_plan (Some ask) = reads_without (own_plan ask)

abbrev pub reads_source : {A L T E : Type 0} → Program A L T E → Option A → Bool
reads_source program = reads_by program.own_plan

-- what has to be known of a source: its bytes, or nothing where it isn't read
abbrev pub known_by : {A : Type 0} → (A → Option Planned) → Option A → Option (List ℕ) → Option (List ℕ)
known_by own_plan asked left = told_if (reads_by own_plan asked) left

abbrev pub told : {A L T E : Type 0} → Program A L T E → Option A → Option (List ℕ) → Option (List ℕ)
told program = known_by program.own_plan

-- what is asked, if anything, runs no plan
abbrev pub LeavesPlant : {A L T E : Type 0} → Program A L T E → Option A → Type 0
LeavesPlant program None = Unit {0}
LeavesPlant {L = L} program (Some ask) = (plan : Planned) (listing : L) → program.Does ask plan (Runs listing) → ⊥
