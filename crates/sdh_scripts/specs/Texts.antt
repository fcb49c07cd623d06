-- What a run of steps writes.
use Rattle.std.specs.Prelude.{ℕ, ◌≡◌, ◌≢◌, ◌⊎◌, ◌+◌, ◌-◌, ◌*◌, ◌≤◌, List, [], ◌∷◌, ◌++◌, length, Option}
use Rattle.std.specs.List.{flat_map}
use Rattle.std.specs.Io.KnownBytes.{Appends}
use Rattle.sdh_rounds.specs.Held.{World}
use Rattle.sdh_plan.specs.declared.step.Step.{Step}
use Rattle.sdh_plan.specs.declared.step.Step.TheVariants as step
use Rattle.sdh_status.specs.declared.Status.{Status}
use Rattle.sdh_status.specs.declared.Status.TheVariants as status
use Rattle.sdh_scripts.specs.Walks.{Walk}
use Rattle.sdh_scripts.specs.Scripts.{Refuses, Runs}
use Rattle.sdh_scripts.specs.Tellers.{Begun, WasToWrite, CutIn}

-- room enough, in bytes, once `before` of at most 64 settle steps have ended: `each` for each settle step that is left,
-- and 96 for a last line
abbrev pub room_for : ℕ → ℕ → ℕ
room_for each before = each * (64 - before) + 96

abbrev pub HasRoom : ℕ → ℕ → ℕ → Type 0
HasRoom each before room = room_for each before ≤ room

-- ---- steps, one after the other

-- These steps were run, after `before` settle steps. Each settle step of them gave a report, and what `text_of` writes
-- of each report was written. If further steps are run from the world that is left, all these steps together give these
-- reports and then theirs.
pub record Went {N T : Type 0} (walk : Walk N T) (limit : ℕ) (text_of : T → List ℕ) (before : ℕ) (gone : List Step) (w : World N)
    (old new : Option (List ℕ)) (now : ℕ) (left : World N) : Type 0 where
  pub reports : List T
  pub text : Appends old new (flat_map text_of reports)
  pub counted : now ≡ before + length reports
  pub goes : (later : List Step) (rest : List T) (end : Status) (last : World N) → Runs walk limit now later left rest end last
      → Runs walk limit before (gone ++ later) w (reports ++ rest) end last

-- The text that is due for the step with which a script ended, after `before` settle steps. For a settle step it is the
-- text of the rounds that ran, without the one that a plant's fault broke off; for a step that was refused it is empty.
abbrev pub WritesLast : {N T : Type 0} → Walk N T → ℕ → (T → List ℕ) → ℕ → Step → World N → List ℕ → Status → World N → Type 0
WritesLast {T = T} walk limit begun_of before step.Settle w text end left =
    Runs {T = T} walk limit before (step.Settle ∷ []) w [] end left × (x : Begun walk limit (before + 1) begun_of w text left)
    × (end ≢ status.PlantFault → left ≡ x.mid)
WritesLast {T = T} walk limit begun_of before s w text end left = Refuses {T = T} s w [] end left × (text ≡ [])

-- the script ends with this step, whichever steps would come after it, and the text that is due for the step was
-- written
pub record StopsAt {N T : Type 0} (walk : Walk N T) (limit : ℕ) (begun_of : T → List ℕ) (before : ℕ) (s : Step) (w : World N)
    (old new : Option (List ℕ)) (end : Status) (left : World N) : Type 0 where
  pub runs : (later : List Step) → Runs walk limit before (s ∷ later) w [] end left
  pub tail : List ℕ
  pub writes : WritesLast walk limit begun_of before s w tail end left
  pub text : Appends old new tail

-- a write failed in this settle step: of what was to be written of it, all before the last part was written
pub record FailsAt {N T : Type 0} (walk : Walk N T) (limit : ℕ) (text_of begun_of : T → List ℕ) (before : ℕ) (s : Step) (w : World N)
    (old new : Option (List ℕ)) (left : World N) : Type 0 where
  pub settles : s ≡ step.Settle
  pub first : List ℕ
  pub last : List ℕ
  pub was : WasToWrite walk limit (before + 1) text_of begun_of w first last left
  pub front : CutIn old new first last

-- ---- a script

-- the script ended with the step after those that gave `reports`, and the text `tail` is due for that step
pub record Stopped {N T : Type 0} (walk : Walk N T) (limit : ℕ) (begun_of : T → List ℕ) (steps : List Step) (w : World N)
    (reports : List T) (tail : List ℕ) (end : Status) (left : World N) : Type 0 where
  pub gone : List Step
  pub stops : Step
  pub later : List Step
  pub steps_are : steps ≡ gone ++ stops ∷ later
  pub mid : World N
  pub went : Runs walk limit 0 gone w reports status.Ok mid
  pub writes : WritesLast walk limit begun_of (length reports) stops mid tail end left

-- the text grew by what is written of each report, and by what is due for the step with which the script stopped, if it
-- stopped before its end
pub record Lists {N T : Type 0} (walk : Walk N T) (limit : ℕ) (text_of begun_of : T → List ℕ) (steps : List Step) (w : World N)
    (old new : Option (List ℕ)) (end : Status) (left : World N) : Type 0 where
  pub reports : List T
  pub runs : Runs walk limit 0 steps w reports end left
  pub tail : List ℕ
  pub tail_is : ((end ≡ status.Ok) × (tail ≡ [])) ⊎ Stopped walk limit begun_of steps w reports tail end left
  pub text : Appends old new (flat_map text_of reports ++ tail)

-- A write failed in one of these steps, a settle step, and nothing more was run. The reports of the settle steps before
-- were written, and of that step's text all before the last part, of which only the first bytes were.
pub record WriteFailed {N T : Type 0} (walk : Walk N T) (limit : ℕ) (text_of begun_of : T → List ℕ) (steps : List Step) (w : World N)
    (old new : Option (List ℕ)) (left : World N) : Type 0 where
  pub gone : List Step
  pub later : List Step
  pub steps_are : steps ≡ gone ++ step.Settle ∷ later
  pub reports : List T
  pub mid : World N
  pub went : Runs walk limit 0 gone w reports status.Ok mid
  pub first : List ℕ
  pub last : List ℕ
  pub was : WasToWrite walk limit (length reports + 1) text_of begun_of mid first last left
  pub front : CutIn old new (flat_map text_of reports ++ first) last
