-- How a call that read a plan may end.
use Rattle.std.proofs.Common.{◌≡◌, ◌≢◌, ℕ, None, Some, refl, ap, sym, ◌∙◌, subst, inl, inr}
use Rattle.std.proofs.lemmas.Option.{same_Some}
use Rattle.std.specs.Prelude.{◌⊎◌, Option}
use Rattle.sdh_status.specs.declared.Status.{Status}
use Rattle.sdh_status.specs.declared.Status.TheVariants as status
use Rattle.sdh_shell.specs.Calls.{HasRun}
use Rattle.sdh_shell.specs.Endings.{Endings, refuses_plan, RefusesPlan}
use Rattle.sdh_shell.specs.Failing.{Counts, HaveFailed, HasCause, cause_of, EndsWithCause}
use Rattle.sdh_shell.specs.Writing.{Whole, telling_of, telling_if, IsShown}

-- a script ends with one of these
pub has_run : (how : Status) → (how ≡ status.Ok) ⊎ (((k : ℕ) × (how ≡ status.Unsettled k)) ⊎ (how ≡ status.PlantFault)) → HasRun how
has_run how (inl done) = subst HasRun (sym done) tt
has_run how (inr (inl at)) = subst HasRun (sym at.1) tt
has_run how (inr (inr fault)) = subst HasRun (sym fault) tt

-- ---- statuses

run_cause : (reads calls : Counts) (how : Status) → HasRun how → (how ≡ status.PlantFault → HaveFailed calls) → HasCause reads calls how
run_cause reads calls status.PlantFault h failed = failed refl
run_cause reads calls status.ReadFault h failed = absurd h
run_cause reads calls how h failed = tt

refusal_cause : (reads calls : Counts) (o : Option Status) → refuses_plan o → cause_of reads calls o
refusal_cause reads calls None h = tt
refusal_cause reads calls (Some status.NoSuchPort) h = tt
refusal_cause reads calls (Some how) h = absurd h

run_whole : (how : Status) → HasRun how → telling_of how ≡ Whole
run_whole status.Ok h = refl
run_whole (status.Unsettled k) h = refl
run_whole status.PlantFault h = refl
run_whole how h = absurd h

refusal_whole : (o : Option Status) → refuses_plan o → telling_if o ≡ Whole
refusal_whole None h = refl
refusal_whole (Some status.NoSuchPort) h = refl
refusal_whole (Some how) h = absurd h

-- no script ends with a status with which a plan is refused
none_runs : (how : Status) → refuses_plan (Some how) → HasRun how → ⊥
none_runs status.NoSuchPort h run = run
none_runs how h run = h

-- ---- endings of any program

-- a call that read a plan ends so: as a script does, or the plan is refused
abbrev pub EndsPlan : {E : Type 0} → Endings E → E → Type 0
EndsPlan endings how = ((s : Status) × (how ≡ endings.of s) × HasRun s) ⊎ RefusesPlan endings how

module _ {E : Type 0} (endings : Endings E) where
  -- a shared status is one ending
  pub one_status : (s t : Status) → endings.of s ≡ endings.of t → s ≡ t
  one_status s t e = same_Some s t (sym (endings.shared_of s) ∙ ap endings.shared e ∙ endings.shared_of t)

  shared_is : (how : E) (s : Status) → how ≡ endings.of s → endings.shared how ≡ Some s
  shared_is how s is = ap endings.shared is ∙ endings.shared_of s

  -- what refuses a plan is no ending of a script
  pub not_refused : (how : E) (s : Status) → how ≡ endings.of s → HasRun s → RefusesPlan endings how → ⊥
  not_refused how s is h refused = none_runs s (subst refuses_plan (shared_is how s is) refused) h

  -- the text of a script that came to its end is written whole
  pub ran_whole : (how : E) (s : Status) → how ≡ endings.of s → HasRun s → IsShown endings how
  ran_whole how s is h = ap telling_if (shared_is how s is) ∙ run_whole s h

  module _ (how : E) where
    -- the ending isn't one that stands for another status, with which neither a script ends nor a plan is refused
    otherwise : (other : Status) → EndsPlan endings how → (HasRun other → ⊥) → (refuses_plan (Some other) → ⊥) → how ≢ endings.of other
    otherwise other (inl x) no_run no_refusal e = no_run (subst HasRun (one_status x.0 other (sym x.1 ∙ e)) x.2)
    otherwise other (inr x) no_run no_refusal e = no_refusal (subst refuses_plan (shared_is how other e) x)

    pub no_read : EndsPlan endings how → how ≢ endings.of status.ReadFault
    no_read h = otherwise status.ReadFault h (λ x. x) (λ x. x)

    pub no_long : EndsPlan endings how → how ≢ endings.of status.TooLong
    no_long h = otherwise status.TooLong h (λ x. x) (λ x. x)

    pub no_usage : EndsPlan endings how → how ≢ endings.of status.Usage
    no_usage h = otherwise status.Usage h (λ x. x) (λ x. x)

    pub no_write : EndsPlan endings how → how ≢ endings.of status.WriteFault
    no_write h = otherwise status.WriteFault h (λ x. x) (λ x. x)

    pub is_shown : EndsPlan endings how → IsShown endings how
    is_shown (inl x) = ran_whole how x.0 x.1 x.2
    is_shown (inr x) = refusal_whole (endings.shared how) x

    pub with_cause : (reads calls : Counts) → EndsPlan endings how → (how ≡ endings.of status.PlantFault → HaveFailed calls)
        → EndsWithCause endings reads calls how
    with_cause reads calls (inl x) failed =
        subst (cause_of reads calls) (sym (shared_is how x.0 x.1)) (run_cause reads calls x.0 x.2 (λ e. failed (x.1 ∙ ap endings.of e)))
    with_cause reads calls (inr x) failed = refusal_cause reads calls (endings.shared how) x
