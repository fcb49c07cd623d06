-- What the runs of a program's plans come to, by what was written of their scripts.
use Rattle.std.specs.Prelude.{ℕ, ◌≡◌, true, List, Option}
use Rattle.std.specs.Io.KnownBytes.{Appends}
use Rattle.sdh_basics.specs.Causes.{Rose}
use Rattle.sdh_plant.specs.Fibres.{Fibres, HasNoFibres, IsHonest}
use Rattle.sdh_plan.specs.Planned.{Planned}
use Rattle.sdh_status.specs.declared.Status.{Status}
use Rattle.sdh_status.specs.declared.Status.TheVariants as status
use Rattle.sdh_shell.specs.Writing.{Parts, AppendsUpTo}
use Rattle.sdh_rounds.specs.Held.{HeldRing, World}
use Rattle.sdh_scripts.specs.Walks.{Walk}
use Rattle.sdh_scripts.specs.Outcomes.{with_fibres}
use Rattle.sdh_scripts.specs.Texts.{WriteFailed}
use Rattle.sdh_scripts.specs.Streams.{WroteSteps}
use Rattle.sdh_scripts.specs.declared.run.NewRun.{NewRun}
use Rattle.sdh_programs.specs.Programs.{Program}
use Rattle.sdh_programs.specs.Calls.{CutRun}

-- the plant has made no fibres; if it is honest, it tells nothing of what arrives
pub record IsFresh (f : Fibres) : Type 0 where
  pub none : HasNoFibres f
  pub honest : f.honest ≡ true → IsHonest f

-- a run of the plan came to its end over these fibres, and all that is listed of it was written
pub record IsReported {A L T E N : Type 0} (program : Program A L T E) (Leaves : List T → Status → ℕ → Type 0) (listing : L)
    (plan : Planned) (f : Fibres) (old new : Option (List ℕ)) (end : Status) (left : World N) : Type 0 where
  pub told : List T
  pub came : program.IsRunOf plan f told end left.fibres
  pub text : Appends old new (program.text_of listing told)
  pub leaves : Leaves told end left.ring.rounds

-- what was written of the steps of a plan's script is what is listed of a run of the plan
abbrev pub StepsAreReported : {A L T E N R K : Type 0} → Program A L T E → Walk N K → (R → HeldRing N) → (R → K → List ℕ)
    → (R → K → List ℕ) → (L → Planned → NewRun R → Type 0) → (List T → Status → ℕ → Type 0) → Type 0
StepsAreReported {L = L} {N = N} {R = R} program walk ring text_of begun_of Begins Leaves =
    (listing : L) (plan : Planned) (run : NewRun R) (f : Fibres) (old new : Option (List ℕ)) (end : Status) (left : World N)
    → Begins listing plan run → IsFresh f
    → WroteSteps walk run.script.limit (text_of run.runner) (begun_of run.runner) run.script.steps.items (with_fibres (ring run.runner) f) f
    old new end left
    → IsReported program Leaves listing plan f old new end left

-- where a write failed, all was written that was to be written before of the steps that had run, and of what was to be
-- written then only a beginning
abbrev pub CutsAreReported : {A L T E N R K O : Type 0} → Program A L T E → CutRun L → (O → Option (List ℕ)) → (O → ℕ) → Walk N K
    → (R → HeldRing N) → (R → K → List ℕ) → (R → K → List ℕ) → (L → Planned → NewRun R → Type 0) → Type 0
CutsAreReported {L = L} {N = N} {R = R} {O = O} program Cut written faults walk ring text_of begun_of Begins =
    (listing : L) (plan : Planned) (run : NewRun R) (f : Fibres) (before after : O) (left : World N)
    → Begins listing plan run → IsFresh f → Rose (faults before) (faults after)
    → WriteFailed walk run.script.limit (text_of run.runner) (begun_of run.runner) run.script.steps.items (with_fibres (ring run.runner) f)
    (written before) (written after) left
    → (text : Parts) × Cut listing plan f text left.fibres × AppendsUpTo (written before) (written after) text

-- a run that has all it needs, and that no fault of the plant broke off, is done
abbrev pub SettledRunsAreDone : {A L T E : Type 0} → Program A L T E → Type 0
SettledRunsAreDone {L = L} {T = T} program =
    (listing : L) (plan : Planned) (f : Fibres) (told : List T) (end : Status) (left : Fibres) → program.IsRunOf plan f told end left
    → program.MaySettle listing plan f → (end ≡ status.PlantFault → ⊥)
    → program.closing.ends listing told end ≡ program.endings.of status.Ok

-- a run ends with a plant fault exactly where its script did
pub record IsPlantFault {A L T E : Type 0} (program : Program A L T E) (listing : L) (told : List T) (end : Status) : Type 0 where
  pub ends : end ≡ status.PlantFault → program.closing.ends listing told end ≡ program.endings.of status.PlantFault
  pub back : program.closing.ends listing told end ≡ program.endings.of status.PlantFault → end ≡ status.PlantFault

abbrev pub FaultsAreReported : {A L T E : Type 0} → Program A L T E → Type 0
FaultsAreReported {L = L} {T = T} program = (listing : L) (told : List T) (end : Status) → IsPlantFault program listing told end
