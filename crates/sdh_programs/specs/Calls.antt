-- What a call comes to where the program writes its reports as they come.
use Rattle.std.specs.Prelude.{◌≡◌, ◌⊎◌, ℕ, Bool, true, false, List, Option, Some, None, IfSome}
use Rattle.sdh_basics.specs.Causes.{IsCounted}
use Rattle.sdh_plant.specs.Fibres.{Fibres}
use Rattle.sdh_plan.specs.Planned.{Planned}
use Rattle.sdh_status.specs.declared.Status.TheVariants as status
use Rattle.sdh_shell.specs.Reading.{TellsPlan}
use Rattle.sdh_shell.specs.Failing.{Counts, HaveFailed, EndsWithCause, CameToEnding}
use Rattle.sdh_shell.specs.Endings.{Endings}
use Rattle.sdh_shell.specs.Writing.{Parts, joined, AppendsUpTo, WroteEnding, WroteParts, IsShown}
use Rattle.sdh_shell.specs.Kept.{Around, counts_of, KeepsAll}
use Rattle.sdh_programs.specs.Programs.{Runs, Program}
use Rattle.sdh_shell.specs.Reading.{HasRead}
use Rattle.sdh_programs.specs.Outcome.{OfPlan, IsOutcome, LeavesPlant, reads_source, told}
use Rattle.sdh_programs.specs.Headline.{MayGo, MayBeDone}

-- ---- how a program writes

-- What is listed of a plan, the plan, its new fibres, and what was written and was to be written of its run when a write
-- failed and nothing more was run: all before the part in which the write failed, and that part; and the fibres that were
-- left.
abbrev pub CutRun : Type 0 → Type 1
CutRun L = L → Planned → Fibres → Parts → Fibres → Type 0

-- no run of a plan is cut off by a write that fails
abbrev pub never_cut : {L : Type 0} → CutRun L
never_cut listing plan f text left = ⊥

-- all is written in one go, at the end; or the reports of a run as they come, and then the last line
pub data Manner (L : Type 0) : Type 1 where
  AtOnce : Manner L
  AsItComes : CutRun L → Manner L

-- An ending was to be returned, with a text, which is written so. It was, and all of the text was written; or a write
-- failed, and of what was being written only a beginning was written.
abbrev pub WroteBy : {L E : Type 0} → Manner L → Endings E → E → Parts → E → Option (List ℕ) → Option (List ℕ) → Type 0
WroteBy AtOnce endings how text end old new = WroteEnding endings how (joined text) end old new
WroteBy (AsItComes Cut) endings how text end old new = WroteParts endings how text end old new

-- ---- with a plan

-- A write failed while the plan was run. All was written that was to be written before, and of what was to be written
-- then only a beginning.
abbrev pub BreaksOff : {A L T E : Type 0} → Program A L T E → CutRun L → A → Planned → Fibres → Option (List ℕ) → Option (List ℕ) → Fibres → Type 0
BreaksOff {L = L} program Cut ask plan f old new left =
    (listing : L) × program.Does ask plan (Runs listing) × (text : Parts) × Cut listing plan f text left × AppendsUpTo old new text

-- What is asked was done with this plan, and came to an ending and a text that were to be written. The plant's count of
-- faults is exact where `exact` says so.
pub record Finishes {A L T E : Type 0} (program : Program A L T E) (ask : A) (plan : Planned) (f left : Fibres) (exact : Bool)
    (calls : Counts) (end : E) (old new : Option (List ℕ)) : Type 0 where
  pub how : E
  pub text : Parts
  pub outcome : OfPlan program ask plan f how text left
  pub wrote : WroteParts program.endings how text end old new
  pub failed : how ≡ program.endings.of status.PlantFault → HaveFailed calls
  pub counted : IsCounted exact (how ≡ program.endings.of status.PlantFault) calls.before calls.after
  pub complete : MayGo program ask plan f → (HaveFailed calls → ⊥) → how ≡ program.endings.of status.Ok

-- a write failed while the plan was run, and, where the plant's count of faults is exact, none of its calls failed
pub record IsBroken {A L T E : Type 0} (program : Program A L T E) (Cut : CutRun L) (ask : A) (plan : Planned) (f left : Fibres)
    (exact : Bool) (calls : Counts) (end : E) (old new : Option (List ℕ)) : Type 0 where
  pub end_is : end ≡ program.endings.of status.WriteFault
  pub breaks : BreaksOff program Cut ask plan f old new left
  pub none : exact ≡ true → calls.after ≡ calls.before

-- what is asked came to an end with a plan, or a write failed while the plan was run
abbrev pub Goes : {A L T E : Type 0} → Program A L T E → CutRun L → A → Planned → Fibres → Fibres → Bool → Counts → E
    → Option (List ℕ) → Option (List ℕ) → Type 0
Goes program Cut ask plan f left exact calls end old new =
    Finishes program ask plan f left exact calls end old new ⊎ IsBroken program Cut ask plan f left exact calls end old new

-- ---- with the words

-- a write failed while a plan was run: the one that what is asked names, or that of the source's bytes
abbrev pub breaks_own : {A L T E : Type 0} → Program A L T E → CutRun L → A → Option Planned → List ℕ → Fibres → Option (List ℕ)
    → Option (List ℕ) → Fibres → Type 0
breaks_own program Cut ask None bytes f old new left = (plan : Planned) × TellsPlan bytes plan × BreaksOff program Cut ask plan f old new left
breaks_own program Cut ask (Some plan) bytes f old new left = BreaksOff program Cut ask plan f old new left

abbrev pub IsCutShort : {A L T E : Type 0} → Program A L T E → Manner L → Option A → List ℕ → Fibres → Option (List ℕ) → Option (List ℕ)
    → Fibres → Type 0
IsCutShort program AtOnce asked bytes f old new left = ⊥
IsCutShort program (AsItComes Cut) None bytes f old new left = ⊥
IsCutShort program (AsItComes Cut) (Some ask) bytes f old new left = breaks_own program Cut ask (program.own_plan ask) bytes f old new left

-- ---- what source and plant had come to

-- what is seen of source and plant in a call; a count is exact where `reads_exact` or `calls_exact` says so
pub record Seen : Type 0 where
  pub reads : Counts
  pub calls : Counts
  pub reads_exact : Bool
  pub calls_exact : Bool
  -- what the source had left, before and after
  pub source : Option (List ℕ)
  pub source_left : Option (List ℕ)
  -- the fibres, before and after
  pub fibres : Fibres
  pub fibres_left : Fibres

-- what source and plant had come to when this ending was to be reported, whichever it is
abbrev pub CameTo : {E A L T : Type 0} → Program A L T E → Seen → E → Type 0
CameTo program seen how =
    CameToEnding program.endings seen.reads_exact seen.calls_exact seen.reads seen.calls seen.source seen.source_left how

-- what is asked, if anything, came to an end, and this ending and text were to be written
pub record HasToTell {A L T E : Type 0} (program : Program A L T E) (asked : Option A) (seen : Seen) (how : E) (text : Parts) : Type 0 where
  pub outcome : IfSome (told program asked seen.source)
      (λ bytes. IsOutcome program asked bytes seen.fibres how text seen.fibres_left)
  pub cause : EndsWithCause program.endings seen.reads seen.calls how
  pub came : CameTo program seen how
  pub shown : IsShown program.endings how
  pub usage : how ≡ program.endings.of status.Usage → asked ≡ None
  pub unasked : asked ≡ None → how ≡ program.endings.of status.Usage
  pub read : how ≡ program.endings.of status.Ok → HasRead (reads_source program asked) seen.source_left
  pub complete : (ask : A) → asked ≡ Some ask → MayBeDone program ask (told program (Some ask) seen.source) seen.fibres
      → (HaveFailed seen.reads → ⊥) → (HaveFailed seen.calls → ⊥) → how ≡ program.endings.of status.Ok

-- an ending and its text were to be written: they were, or a write failed
pub record IsTold {A L T E : Type 0} (program : Program A L T E) (manner : Manner L) (asked : Option A) (seen : Seen) (end : E)
    (old new : Option (List ℕ)) : Type 0 where
  pub how : E
  pub text : Parts
  pub tells : HasToTell program asked seen how text
  pub wrote : WroteBy manner program.endings how text end old new

-- a write failed while a plan was run
pub record IsCut {A L T E : Type 0} (program : Program A L T E) (manner : Manner L) (asked : Option A) (seen : Seen) (end : E)
    (old new : Option (List ℕ)) : Type 0 where
  pub end_is : end ≡ program.endings.of status.WriteFault
  pub cut : IfSome (told program asked seen.source) (λ bytes. IsCutShort program manner asked bytes seen.fibres old new seen.fibres_left)
  pub asks : asked ≡ None → ⊥
  pub came : CameTo program seen end

-- what a call came to when it returned this ending
abbrev pub IsAnswer : {A L T E : Type 0} → Program A L T E → Manner L → Option A → Seen → E → Option (List ℕ) → Option (List ℕ) → Type 0
IsAnswer program manner asked seen end old new = IsTold program manner asked seen end old new ⊎ IsCut program manner asked seen end old new

-- ---- what a call keeps

-- what is seen of a source and a plant
abbrev pub seen_of : {R P : Type 0} → Around R (Option (List ℕ)) → Around P Fibres → Seen
seen_of source plant = record {
  reads = counts_of source;
  calls = counts_of plant;
  reads_exact = source.exact;
  calls_exact = plant.exact;
  source = source.shows source.before;
  source_left = source.shows source.after;
  fibres = plant.shows plant.before;
  fibres_left = plant.shows plant.after;
}

-- What is said of the ending `how`, which was to be reported: its text was to be written, and was, or a write failed;
-- or it is a write fault, with which the run of a plan was broken off; or memory ran out.
abbrev pub SaysOf : {A L T E R W P : Type 0} → Program A L T E → Manner L → Option A → Around R (Option (List ℕ))
    → Around W (Option (List ℕ)) → Around P Fibres → E → E → Type 0
SaysOf program manner asked source sink plant end how =
    ((text : Parts) × HasToTell program asked (seen_of source plant) how text
    × WroteBy manner program.endings how text end (sink.shows sink.before) (sink.shows sink.after))
    ⊎ (((how ≡ end) × IsCut program manner asked (seen_of source plant) end (sink.shows sink.before) (sink.shows sink.after))
    ⊎ ((how ≡ end) × (end ≡ program.endings.of status.Memory)))

-- What a call of a program keeps of its source, its sink and its plant, where it writes so, its words ask for `asked`, and
-- it returns the ending `end`.
abbrev pub KeepsCall : {A L T E R W P : Type 0} → Program A L T E → Manner L → Option A → Around R (Option (List ℕ))
    → Around W (Option (List ℕ)) → Around P Fibres → E → Type 0
KeepsCall {A = A} program manner asked source sink plant end =
    KeepsAll program.endings (asked ≡ None) (reads_source program asked ≡ false) (LeavesPlant program asked)
    ((ask : A) × (asked ≡ Some ask) × MayBeDone program ask (told program (Some ask) (source.shows source.before)) (plant.shows plant.before))
    (SaysOf program manner asked source sink plant end) source sink plant end
