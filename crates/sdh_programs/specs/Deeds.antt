-- What a program makes of a plan.
use Rattle.std.specs.Prelude.{ℕ, ◌≡◌, ◌+◌, ◌≤◌, List, length}
use Rattle.sdh_plant.specs.Fibres.{Fibres}
use Rattle.sdh_plan.specs.Planned.{Planned}
use Rattle.sdh_plan.specs.declared.step.Step.{Step}
use Rattle.sdh_rounds.specs.Held.{HeldRing}
use Rattle.sdh_shell.specs.Endings.{RefusesPlan}
use Rattle.sdh_scripts.specs.NewRuns.{MayStartRun}
use Rattle.sdh_scripts.specs.Texts.{room_for}
use Rattle.sdh_scripts.specs.declared.run.NewRun.{NewRun}
use Rattle.sdh_programs.specs.Programs.{Deed, Refuses, Writes, Runs, Program}
use Rattle.sdh_programs.specs.declared.program.Deed.{Deed as Made}
use Rattle.sdh_programs.specs.declared.program.Deed.TheVariants as made

-- what is asked is this deed with the plan, and no other
pub record IsOnly {A L T E : Type 0} (program : Program A L T E) (ask : A) (plan : Planned) (deed : Deed L E) : Type 0 where
  pub does : program.Does ask plan deed
  pub only : (other : Deed L E) → program.Does ask plan other → other ≡ deed

-- What was made of a plan is what is asked: an ending that refuses it, the text that is written of it, or a run that is
-- of the plan and may start.
abbrev pub IsDeed : {A L T E N R : Type 0} → Program A L T E → (R → HeldRing N) → (ℕ → List Step → R → Fibres → Type 0)
    → (L → Planned → NewRun R → Type 0) → A → Planned → Made L R E → Type 0
IsDeed program ring MayRun Begins ask plan (made.Refuse why) = IsOnly program ask plan (Refuses why) × RefusesPlan program.endings why
IsDeed program ring MayRun Begins ask plan (made.Write text) = IsOnly program ask plan (Writes text.bytes)
IsDeed program ring MayRun Begins ask plan (made.Run listing run) =
    IsOnly program ask plan (Runs listing) × Begins listing plan run × MayStartRun ring MayRun run.runner run.script

-- the output takes all that is to be written of the deed, with a last line
abbrev pub TakesDeed : {L E O R : Type 0} → (ℕ → O → Type 0) → (R → ℕ) → Made L R E → O → Type 0
TakesDeed Takes room (made.Refuse why) output = Takes 96 output
TakesDeed Takes room (made.Write text) output = Takes (length text.bytes + 96) output × (96 ≤ text.room)
TakesDeed Takes room (made.Run listing run) output = Takes (room_for (room run.runner) 0) output
