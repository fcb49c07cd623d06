-- What comes of a script over a ring of any kind, with any report of a settle step. The script is run step by step, and
-- each settle step that ends has a report.
use Rattle.std.specs.Prelude.{ℕ, ◌≡◌, ◌⊎◌, ◌+◌, ◌*◌, ◌<◌, List, [], ◌∷◌, ◌++◌, length, take, nat_le, if◌then◌else◌}
use Rattle.std.specs.Option.{option_map_or}
use Rattle.sdh_plant.specs.Fibres.{Arrival, Fibres}
use Rattle.sdh_rounds.specs.Held.{World}
use Rattle.sdh_rounds.specs.Runs.{run, arrivals_in, run_with, ArriveIn, course_with, course, IsBrokenOff}
use Rattle.sdh_rounds.specs.Quiet.{Settles, Unsettles, BreaksOff, settles_in}
use Rattle.sdh_rounds.specs.Laws.{frames_in, Appends}
use Rattle.sdh_plan.specs.declared.step.Step.{Step}
use Rattle.sdh_plan.specs.declared.step.Step.TheVariants as step
use Rattle.sdh_status.specs.declared.Status.{Status}
use Rattle.sdh_status.specs.declared.Status.TheVariants as status
use Rattle.sdh_scripts.specs.Walks.{Walk}

-- ---- a settle step, over any fibres

-- a settle step ended with a quiet window, the rounds after it were run and left this world, and this is its report
pub record Ended {N T : Type 0} (walk : Walk N T) (limit number : ℕ) (w : World N) (told : T) (left : World N) : Type 0 where
  pub mid : World N
  pub settles : Settles walk.station w limit mid
  pub behind : List (List Arrival)
  pub arrive : ArriveIn walk.station behind mid
  pub count : length behind ≡ walk.behind
  pub left_is : left ≡ run_with walk.station behind mid
  pub told_is : told ≡ walk.tells number (course_with walk.station (settles.rounds ++ behind) w) (length settles.rounds)

-- a settle step ended, and a fault broke off one of the rounds after it
pub record BreaksBehind {N T : Type 0} (walk : Walk N T) (limit : ℕ) (w : World N) (left : Fibres) : Type 0 where
  pub mid : World N
  pub settles : Settles walk.station w limit mid
  pub rounds : List (List Arrival)
  pub arrive : ArriveIn walk.station rounds mid
  pub few : length rounds < walk.behind
  pub off : IsBrokenOff walk.station (run_with walk.station rounds mid) left

-- a fault broke off one of the rounds of a settle step, or one of those after it
abbrev pub Breaks : {N T : Type 0} → Walk N T → ℕ → World N → Fibres → Type 0
Breaks walk limit w left = BreaksOff walk.station w limit left ⊎ BreaksBehind walk limit w left

-- ---- a script, over any fibres

-- no further report comes, and the script has ended with `how`
abbrev pub Stops : {T : Type 0} → Status → List T → Status → Type 0
Stops how reports end = (reports ≡ []) × (end ≡ how)

-- the plant refused a condition, and its fibres are as they were; no other step is refused
abbrev pub Refuses : {N T : Type 0} → Step → World N → List T → Status → World N → Type 0
Refuses (step.Fibre e) w reports end left = (left.fibres ≡ w.fibres) × Stops status.PlantFault reports end
Refuses s w reports end left = ⊥

-- The steps run from a world, after `before` settle steps that have ended, with `limit` as the most rounds of a settle
-- step. They give these reports, end so, and leave that world. A settle step ends with a quiet window and has a report;
-- or it is unsettled; or a fault breaks off one of its rounds or of those after it. Any other step has the effect that
-- `walk.does` defines, or is refused.
abbrev pub Runs : {N T : Type 0} → Walk N T → ℕ → ℕ → List Step → World N → List T → Status → World N → Type 0
Runs walk limit before [] w reports end left = (left ≡ w) × Stops status.Ok reports end
Runs {N} {T} walk limit before (step.Settle ∷ later) w reports end left =
    ((told : T) × (next : World N) × (rest : List T) × Ended walk limit (before + 1) w told next × (reports ≡ told ∷ rest)
    × Runs walk limit (before + 1) later next rest end left)
    ⊎ ((Unsettles walk.station w limit left × Stops (status.Unsettled (before + 1)) reports end)
    ⊎ (Breaks walk limit w left.fibres × Stops status.PlantFault reports end))
Runs walk limit before (s ∷ later) w reports end left =
    Runs walk limit before later (walk.does s w) reports end left ⊎ Refuses s w reports end left

-- ---- where arrivals are known

-- what a script comes to: its reports, how it ends, the world that it leaves, and all frames that are sent, in order
pub record Ran (N T : Type 0) : Type 0 where
  pub reports : List T
  pub ending : Status
  pub left : World N
  pub frames : List (List ℕ)

abbrev pub ran_none : {N T : Type 0} → World N → Ran N T
ran_none w = record { reports = []; ending = status.Ok; left = w; frames = [] }

-- settle step `number` is unsettled
abbrev pub ran_unsettled : {N T : Type 0} → Walk N T → ℕ → ℕ → World N → Ran N T
ran_unsettled walk limit number w =
    record {
      reports = [];
      ending = status.Unsettled number;
      left = run walk.station limit w;
      frames = frames_in walk.station (arrivals_in walk.station limit w) w;
    }

-- a settle step ends in k rounds, the rounds after it are run, and the script goes on
abbrev pub ran_settled : {N T : Type 0} → Walk N T → ℕ → ℕ → World N → Ran N T → Ran N T
ran_settled walk k number w later = record later {
  reports = walk.tells number (course walk.station w) k ∷ later.reports;
  frames = frames_in walk.station (arrivals_in walk.station (k + walk.behind) w) w ++ later.frames;
}

-- what the steps come to from a world, after `before` settle steps that have ended
abbrev pub script : {N T : Type 0} → Walk N T → ℕ → ℕ → List Step → World N → Ran N T
script walk limit before [] w = ran_none w
script walk limit before (step.Settle ∷ later) w =
    option_map_or (λ k. ran_settled walk k (before + 1) w (script walk limit (before + 1) later (run walk.station (k + walk.behind) w)))
    (settles_in walk.station w limit) (ran_unsettled walk limit (before + 1) w)
script walk limit before (s ∷ later) w = script walk limit before later (walk.does s w)

-- the reports, the ending and the world that is left are those that the script comes to
pub record IsRan {N T : Type 0} (r : Ran N T) (reports : List T) (end : Status) (left : World N) : Type 0 where
  pub reports_are : reports ≡ r.reports
  pub end_is : end ≡ r.ending
  pub left_is : left ≡ r.left

-- The reports of the settle steps that are complete within the first `frames` frames: all rounds of the step, and the
-- rounds after it, have sent theirs. A ring of n nodes sends 2 n frames in a round.
abbrev pub reports_within : {N T : Type 0} → Walk N T → ℕ → ℕ → List T → List T
reports_within walk n frames [] = []
reports_within walk n frames (r ∷ reports) =
    if nat_le (2 * n * (walk.last r + 1 + walk.behind)) frames
    then r ∷ reports_within walk n frames reports else reports_within walk n frames reports

-- A fault broke the script off when `count` of its frames were sent, after `before` frames of earlier rounds. Its
-- reports are those of the settle steps that had sent all their frames, which are those of the step's own rounds and of
-- the rounds that are run after it.
pub record IsCutShort {N T : Type 0} (walk : Walk N T) (r : Ran N T) (n before : ℕ) (w : World N) (reports : List T)
    (left : World N) : Type 0 where
  pub count : ℕ
  pub frames : Appends w.fibres (take count r.frames) left.fibres
  pub reports_are : reports ≡ reports_within walk n (before + count) r.reports

-- the script ended as it does where arrivals are known, or a fault broke it off
abbrev pub ComesTo : {N T : Type 0} → Walk N T → ℕ → ℕ → List Step → World N → List T → Status → World N → Type 0
ComesTo walk limit before steps w reports end left =
    IsRan (script walk limit before steps w) reports end left
    ⊎ ((end ≡ status.PlantFault) × IsCutShort walk (script walk limit before steps w) (length w.ring.ids)
    (2 * length w.ring.ids * w.ring.rounds) w reports left)
