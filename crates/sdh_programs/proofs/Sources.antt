-- Where the plan of what is asked comes from.
use Rattle.std.proofs.Common.{◌≡◌, ℕ, ◌+◌, true, None, Some, List, refl, ap, sym, subst, ◌∙◌}
use Rattle.std.specs.Prelude.{◌⊎◌, Option, IfSome, Result, Ok, Err, IsOk, IfOk, IfErr, OnOk, OnErr}
use Rattle.std.specs.Io.KnownBytes.{IsAtEnd}
use Rattle.sdh_basics.specs.Causes.{Rose, IsCounted}
use Rattle.sdh_outside.specs.Reading.{TakesFewer}
use Rattle.sdh_plan.specs.Planned.{Planned}
use Rattle.sdh_status.specs.declared.Status.{Status}
use Rattle.sdh_status.specs.declared.Status.TheVariants as status
use Rattle.sdh_shell.specs.Failing.{plan_max, TakesAtMost}
use Rattle.sdh_shell.specs.Reading.{HasPlan, TellsPlan, IsWhyNone, IsRefusal}
use Rattle.sdh_shell.specs.Writing.{Whole, telling_of, WroteEnding}
use Rattle.sdh_shell.specs.declared.reading.NoPlan.{NoPlan}
use Rattle.sdh_shell.specs.declared.reading.NoPlan.TheVariants as noplan
use Rattle.sdh_programs.specs.Programs.{Program}
use Rattle.sdh_programs.specs.Calls.{CutRun, AsItComes, Goes, Seen, IsAnswer}
use Rattle.sdh_programs.specs.Sources.{IsPlanOf, IsNoPlanOf}
use Rattle.sdh_programs.proofs.Calls.{own_answer, read_answer, refused_answer, refusal_whole, why_never}

-- ---- what reading a plan returned

pub plan_read : (source left : Option (List ℕ)) (r : Result Planned NoPlan) → IfOk r (λ plan. IfSome source (λ bytes. TellsPlan bytes plan))
    → OnOk r (IsAtEnd left) → IfOk r (IsPlanOf None source left)
plan_read source left (Ok plan) tells end = (tells, end)
plan_read source left (Err why) tells end = tt

pub none_read : (source left : Option (List ℕ)) (before after : ℕ) (r : Result Planned NoPlan) → IfErr r IsRefusal
    → IfErr r (λ why. IfSome source (λ bytes. IsWhyNone bytes why))
    → (r ≡ Err (noplan.Refused status.ReadFault) → Rose before after)
    → (HasPlan source → (Rose before after → ⊥) → IsOk r ⊎ (r ≡ Err noplan.Memory))
    → IfErr r (IsNoPlanOf None source left before after)
none_read source left before after (Ok plan) kind none fault done = tt
none_read source left before after (Err noplan.Memory) kind none fault done = tt
none_read source left before after (Err (noplan.Refused s)) kind none fault done = record {
  kind = kind;
  none = none;
  fault = λ e. fault (ap (λ (t : Status). Err (noplan.Refused t)) e);
  never = λ has fine. why_never (noplan.Refused s) s refl (Err (noplan.Refused s)) refl (done has fine);
}

pub none_as : (own : Option Planned) (source left : Option (List ℕ)) (before after : ℕ) (why : NoPlan) (s : Status) → why ≡ noplan.Refused s
    → IsNoPlanOf own source left before after why → IsNoPlanOf own source left before after (noplan.Refused s)
none_as own source left before after why s is x = subst (IsNoPlanOf own source left before after) is x

-- the line of a refusal is all of its text
pub none_whole : (own : Option Planned) (source left : Option (List ℕ)) (before after : ℕ) (s : Status)
    → IsNoPlanOf own source left before after (noplan.Refused s) → telling_of s ≡ Whole
none_whole None source left before after s x = refusal_whole s x.kind
none_whole (Some own) source left before after s x = absurd x

-- what holds whatever is returned holds with an error
pub with_error : {T E P : Type 0} (r : Result T E) → P → OnErr r P
with_error (Ok x) p = tt
with_error (Err e) p = p

-- ---- what the call comes to

module _ {A L T E : Type 0} (program : Program A L T E) (Cut : CutRun L) (ask : A) (seen : Seen) (end : E) (old new : Option (List ℕ)) where
  -- what is asked was done with the plan
  pub carried_answer : (plan : Planned) → (seen.reads_exact ≡ true → seen.reads.after ≡ seen.reads.before)
      → TakesFewer seen.source seen.source_left (plan_max + 1) → IsPlanOf (program.own_plan ask) seen.source seen.source_left plan
      → Goes program Cut ask plan seen.fibres seen.fibres_left seen.calls_exact seen.calls end old new
      → IsAnswer program (AsItComes Cut) (Some ask) seen end old new
  carried_answer plan same few is goes = by (program.own_plan ask) refl is
    where
      by : (own : Option Planned) → program.own_plan ask ≡ own → IsPlanOf own seen.source seen.source_left plan
          → IsAnswer program (AsItComes Cut) (Some ask) seen end old new
      by None none of = read_answer program Cut ask seen end old new same few none plan of.0 of.1 goes
      by (Some own) some of = own_answer program Cut ask seen end old new same few plan (some ∙ ap Some (sym of.0)) goes

  -- the source has no plan
  pub unread_answer : (s : Status) → seen.fibres_left ≡ seen.fibres → (seen.calls_exact ≡ true → seen.calls.after ≡ seen.calls.before)
      → IsNoPlanOf (program.own_plan ask) seen.source seen.source_left seen.reads.before seen.reads.after (noplan.Refused s)
      → IsCounted seen.reads_exact (s ≡ status.ReadFault) seen.reads.before seen.reads.after
      → TakesAtMost plan_max seen.source seen.source_left (s ≡ status.TooLong)
      → WroteEnding program.endings (program.endings.of s) (program.endings.line (program.endings.of s)) end old new
      → IsAnswer program (AsItComes Cut) (Some ask) seen end old new
  unread_answer s same_fibres same_calls is counted taken wrote = by (program.own_plan ask) refl is
    where
      by : (own : Option Planned) → program.own_plan ask ≡ own
          → IsNoPlanOf own seen.source seen.source_left seen.reads.before seen.reads.after (noplan.Refused s)
          → IsAnswer program (AsItComes Cut) (Some ask) seen end old new
      by None none x =
          refused_answer program Cut seen end old new same_fibres same_calls ask none s x.kind x.none x.fault counted taken x.never wrote
      by (Some own) some x = absurd x
