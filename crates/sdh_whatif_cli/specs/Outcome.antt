-- How a call ends: each status, when it is returned, and the text that goes with it.
use Rattle.std.specs.Prelude.{◌≡◌, ◌≢◌, ◌⊎◌, ◌↔◌, ℕ, Bool, List, [], Option, Some, None, Result, IfSome, codes}
use Rattle.std.specs.Io.KnownBytes.{IsAtEnd}
use Rattle.sdh_basics.specs.Causes.{Rose, IsCounted}
use Rattle.sdh_plan.specs.Reasons.{reason_number}
use Rattle.sdh_plan.specs.declared.reason.Reason.TheVariants as reason
use Rattle.sdh_plan.specs.Planned.{Planned}
use Rattle.sdh_status.specs.declared.Status.{Status}
use Rattle.sdh_status.specs.declared.Status.TheVariants as status
use Rattle.sdh_report.specs.Lines.{own_line}
use Rattle.sdh_report.specs.Statuses.{last_line}
use Rattle.sdh_shell.specs.Endings.{statuses}
use Rattle.sdh_shell.specs.Failing.{plan_max, TakesAtMost}
use Rattle.sdh_shell.specs.Kept.{Around, common_of, Keeps}
use Rattle.sdh_shell.specs.Reading.{HasNoPlan, TellsPlan}
use Rattle.sdh_shell.specs.Writing.{WroteEnding}
use Rattle.sdh_outside.specs.Writing.{Wrote}
use Rattle.sdh_whatif_cli.specs.declared.ask.Ask.{Ask}
use Rattle.sdh_whatif_cli.specs.Lines.{table_text}
use Rattle.sdh_whatif_cli.specs.Own.{own_failures, first_unknown}

-- the line of a refusal
abbrev pub refusal : Status → List ℕ
refusal status.Usage = own_line (codes "usage: sdhwhatif single, double, triple, with kinds, own NAMES, part K N, head, json, summary")
refusal how = last_line how

-- What a plan comes to, by the place of the first text of the user's own failures that is unknown in its ring: the
-- refusal with this place, or the plan's table where there is none.
abbrev pub of_unknown : Option ℕ → Planned → List (List ℕ) → Ask → Status × List ℕ
of_unknown None plan texts ask = (status.Ok, table_text plan (own_failures plan.nodes texts) ask)
of_unknown (Some place) plan texts ask =
    (status.BadPlan (reason_number reason.StepNode) place, refusal (status.BadPlan (reason_number reason.StepNode) place))

abbrev pub of_plan : Planned → List (List ℕ) → Ask → Status × List ℕ
of_plan plan texts ask = of_unknown (first_unknown plan.nodes texts) plan texts ask

-- there is no plan, or it comes to this status and this text
abbrev pub CasesOfBytes : Ask → List (List ℕ) → List ℕ → Status → List ℕ → Type 0
CasesOfBytes ask texts bytes how text =
    (HasNoPlan bytes how × (text ≡ refusal how)) ⊎ ((plan : Planned) × TellsPlan bytes plan × (how ≡ (of_plan plan texts ask).0)
    × (text ≡ (of_plan plan texts ask).1))

-- The call ends with this status and this text, if this is asked for with these texts of the user's own failures, and
-- the source had these bytes left. A write fault and out of memory aren't outcomes: either may come in place of any
-- outcome.
abbrev pub IsOutcome : Option Ask → List (List ℕ) → List ℕ → Status → List ℕ → Type 0
IsOutcome None texts bytes how text = (how ≡ status.Usage) × (text ≡ refusal status.Usage)
IsOutcome (Some ask) texts bytes how text = CasesOfBytes ask texts bytes how text

-- the bytes of the source are known and are those of a plan; there are up to 16 texts, and each names failures of its
-- ring
abbrev pub HasPlanFor : List (List ℕ) → Option (List ℕ) → Type 0
HasPlanFor texts None = ⊥
HasPlanFor texts (Some bytes) = (plan : Planned) × TellsPlan bytes plan × (first_unknown plan.nodes texts ≡ None)

-- what must be known of a source: its bytes, or nothing where it isn't read
abbrev pub told : Option Ask → Option (List ℕ) → Option (List ℕ)
told None left = Some []
told (Some ask) left = left

-- a source and a sink, before a call and after it: whether their counts of faults are exact, the counts, the bytes that
-- are left, and what was written, where they are known
pub record SeenOfCall : Type 0 where
  pub reads_exact : Bool
  pub reads : ℕ
  pub reads_after : ℕ
  pub left : Option (List ℕ)
  pub left_after : Option (List ℕ)
  pub writes_exact : Bool
  pub writes : ℕ
  pub writes_after : ℕ
  pub written : Option (List ℕ)
  pub written_after : Option (List ℕ)

-- A call in which memory didn't run out ended with a status, which its write may have kept it from telling: what is
-- asked for, with which texts of the user's own failures, what was seen of the source and the sink, the status, and how
-- the write of the text ended.
pub record CasesEnded {T E : Type 0} (ask : Option Ask) (texts : List (List ℕ)) (seen : SeenOfCall) (how : Status) (put : Result T E)
    : Type 0 where
  pub text : List ℕ
  pub outcome : IfSome (told ask seen.left) (λ bytes. IsOutcome ask texts bytes how text)
  pub wrote : Wrote seen.writes_exact seen.written seen.written_after seen.writes seen.writes_after text put
  pub fault : how ≡ status.ReadFault → Rose seen.reads seen.reads_after
  pub reads : IsCounted seen.reads_exact (how ≡ status.ReadFault) seen.reads seen.reads_after
  pub taken : TakesAtMost plan_max seen.left seen.left_after (how ≡ status.TooLong)
  pub usage : how ≡ status.Usage ↔ (ask ≡ None)
  pub own : (how ≢ status.WriteFault) × (how ≢ status.Memory)
  pub read : how ≡ status.Ok → IsAtEnd seen.left_after
  -- where something is asked for, the plan's ring has the user's own failures and no read failed, it ended with `Ok`
  pub complete : ask ≢ None → HasPlanFor texts seen.left → ¬ (Rose seen.reads seen.reads_after) → how ≡ status.Ok

-- ---- what a call keeps

-- What is said of the status `how`, which was to be reported, where the call returned `end`. A text that goes with it was
-- to be written, and was, or a write failed and only a beginning of the text was written; or memory ran out.
abbrev pub CasesSay : Option Ask → List (List ℕ) → Option (List ℕ) → Status → Option (List ℕ) → Option (List ℕ) → Status → Type 0
CasesSay ask texts left end old new how =
    ((text : List ℕ) × IfSome (told ask left) (λ bytes. IsOutcome ask texts bytes how text) × WroteEnding statuses how text end old new)
    ⊎ ((how ≡ end) × (end ≡ status.Memory))

-- What a call keeps of its source and its sink. Where its words ask for something, the plan's ring has the user's own
-- failures and no call fails, everything is written, or memory runs out.
abbrev pub KeepsCases : {R W : Type 0} → Option Ask → List (List ℕ) → Around R (Option (List ℕ)) → Around W (Option (List ℕ)) → Status → Type 0
KeepsCases ask texts source sink end =
    Keeps (common_of statuses) (ask ≡ None) (ask ≡ None) ((ask ≢ None) × HasPlanFor texts (source.shows source.before))
    (CasesSay ask texts (source.shows source.before) end (sink.shows sink.before) (sink.shows sink.after)) source sink end
