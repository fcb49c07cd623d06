-- The outcome, stage by stage: a plan, the bytes of a source, the words.
use Rattle.std.proofs.Common.{◌≡◌, ℕ, None, Some, List, [], refl, ap, sym, ◌∙◌, subst, inl, inr}
use Rattle.std.proofs.lemmas.Option.{same_Some}
use Rattle.std.specs.Prelude.{Option, IfSome, is_some}
use Rattle.std.specs.Io.KnownBytes.{IsAtEnd}
use Rattle.sdh_plant.specs.Fibres.{Fibres}
use Rattle.sdh_plan.specs.Planned.{Planned}
use Rattle.sdh_status.specs.declared.Status.{Status}
use Rattle.sdh_status.specs.declared.Status.TheVariants as status
use Rattle.sdh_shell.specs.Endings.{refuses_plan}
use Rattle.sdh_shell.specs.Reading.{HasNoPlan, HasPlan, TellsPlan, told_if}
use Rattle.sdh_shell.specs.Writing.{Parts, Says}
use Rattle.sdh_shell.proofs.Plans.{one_plan}
use Rattle.sdh_shell.proofs.Told.{told_all}
use Rattle.sdh_shell.proofs.Endings.{EndsPlan}
use Rattle.sdh_programs.specs.Programs.{Deed, Refuses, Writes, Runs, IsRunEnd, Program}
use Rattle.sdh_programs.specs.Outcome.{OfDeed, OfPlan, OfBytes, OfOwnPlan, IsOutcome}
use Rattle.sdh_shell.specs.Reading.{HasRead}
use Rattle.sdh_programs.specs.Outcome.{reads_without, reads_source, told}
use Rattle.sdh_programs.specs.Headline.{is_plan_for, MayGo, MayBeDone}

module _ {A L T E : Type 0} (program : Program A L T E) (plan : Planned) (f left : Fibres) (how : E) (text : Parts) where
  -- how a deed ends, whichever it is
  deed_ends : (deed : Deed L E) → OfDeed program deed plan f how text left → EndsPlan program.endings how
  deed_ends (Refuses why) x = inr x.1
  deed_ends (Writes told) x = inl (status.Ok, x.0, tt)
  deed_ends (Runs listing) x = elim (subst (IsRunEnd program.endings) (sym x.how_is) (program.closing.ends_run listing x.told x.status x.ends)) [
    | inl as_script ↦ inl as_script
    | inr own ↦ inr (subst refuses_plan (sym own) tt)
  ]

  pub plan_ends : (ask : A) → OfPlan program ask plan f how text left → EndsPlan program.endings how
  plan_ends ask x = deed_ends x.0 x.2

module _ {A L T E : Type 0} (program : Program A L T E) (ask : A) where
  -- ---- with a plan of its own

  module _ (plan : Planned) (is : program.own_plan ask ≡ Some plan) where
    pub own_outcome : (source : Option (List ℕ)) (f left : Fibres) (how : E) (text : Parts) → OfPlan program ask plan f how text left
        → IfSome (told program (Some ask) source) (λ bytes. IsOutcome program (Some ask) bytes f how text left)
    own_outcome source f left how text x =
        subst (λ o. IfSome (told_if (reads_without o) source) (λ bytes. OfOwnPlan program ask o bytes f how text left)) (sym is) x

    pub own_may_go : (source : Option (List ℕ)) (f : Fibres) → MayBeDone program ask (told program (Some ask) source) f
        → MayGo program ask plan f
    own_may_go source f x =
        let y : MayBeDone program ask (Some []) f =
        subst (λ o. MayBeDone program ask o f) (ap (λ o. told_if (reads_without o) source) is) x in
        subst (λ p. MayGo program ask p f) (subst (λ o. is_plan_for o [] y.0) is y.1) y.2

    pub own_read : (source : Option (List ℕ)) → HasRead (reads_source program (Some ask)) source
    own_read source = subst (λ o. HasRead (reads_without o) source) (sym is) tt

  -- ---- with the bytes of a source

  module _ (none : program.own_plan ask ≡ None) where
    read_outcome : (source : Option (List ℕ)) (f left : Fibres) (how : E) (text : Parts)
        → IfSome source (λ bytes. OfBytes program ask bytes f how text left)
        → IfSome (told program (Some ask) source) (λ bytes. IsOutcome program (Some ask) bytes f how text left)
    read_outcome source f left how text x =
        subst (λ o. IfSome (told_if (reads_without o) source) (λ bytes. OfOwnPlan program ask o bytes f how text left)) (sym none) x

    pub plan_outcome : (source : Option (List ℕ)) (plan : Planned) (f left : Fibres) (how : E) (text : Parts)
        → IfSome source (λ bytes. TellsPlan bytes plan) → OfPlan program ask plan f how text left
        → IfSome (told program (Some ask) source) (λ bytes. IsOutcome program (Some ask) bytes f how text left)
    plan_outcome source plan f left how text tells x =
        read_outcome source f left how text (told_all source _ (λ (bytes : List ℕ). OfBytes program ask bytes f how text left)
        (λ bytes is. inr (plan, is, x)) tells)

    pub refused_outcome : (source : Option (List ℕ)) (s : Status) (f left : Fibres) (how : E) (text : Parts)
        → IfSome source (λ bytes. HasNoPlan bytes s) → how ≡ program.endings.of s → Says (program.endings.line how) text f left
        → IfSome (told program (Some ask) source) (λ bytes. IsOutcome program (Some ask) bytes f how text left)
    refused_outcome source s f left how text none_is is says =
        read_outcome source f left how text (told_all source _ (λ (bytes : List ℕ). OfBytes program ask bytes f how text left)
        (λ bytes x. inl (record { status = s; how_is = is; none = x; says = says })) none_is)

    -- the plan that was read is the one with which all is given
    pub read_may_go : (source : Option (List ℕ)) (plan : Planned) (f : Fibres) → IfSome source (λ bytes. TellsPlan bytes plan)
        → MayBeDone program ask (told program (Some ask) source) f → MayGo program ask plan f
    read_may_go source plan f tells x =
        by source tells (subst (λ o. MayBeDone program ask o f) (ap (λ o. told_if (reads_without o) source) none) x)
      where
        by : (o : Option (List ℕ)) → IfSome o (λ bytes. TellsPlan bytes plan) → MayBeDone program ask o f → MayGo program ask plan f
        by None t y = absurd y
        by (Some bytes) t y =
            subst (λ p. MayGo program ask p f) (one_plan bytes y.0 plan (subst (λ o. is_plan_for o bytes y.0) none y.1) t) y.2

    -- the source has a plan
    pub read_has_plan : (source : Option (List ℕ)) (f : Fibres) → MayBeDone program ask (told program (Some ask) source) f
        → HasPlan source
    read_has_plan source f x =
        by source (subst (λ o. MayBeDone program ask o f) (ap (λ o. told_if (reads_without o) source) none) x)
      where
        by : (o : Option (List ℕ)) → MayBeDone program ask o f → HasPlan o
        by None y = absurd y
        by (Some bytes) y = (y.0, subst (λ o. is_plan_for o bytes y.0) none y.1)

    pub all_read : (source : Option (List ℕ)) → IsAtEnd source → HasRead (reads_source program (Some ask)) source
    all_read source x = subst (λ o. HasRead (reads_without o) source) (sym none) x

  -- ---- with the words

  module _ (a : Option A) (is : a ≡ Some ask) where
    pub asked_done : (b : A) (source : Option (List ℕ)) (f : Fibres) → a ≡ Some b → MayBeDone program b (told program (Some b) source) f
        → MayBeDone program ask (told program (Some ask) source) f
    asked_done b source f other x =
        subst (λ c. MayBeDone program c (told program (Some c) source) f) (same_Some b ask (sym other ∙ is)) x

-- a program that never has a plan of its own reads the source whenever something is asked
pub reads_all : {A L T E : Type 0} (program : Program A L T E) → ((ask : A) → program.own_plan ask ≡ None) → (a : Option A)
    → reads_source program a ≡ is_some a
reads_all program none None = refl
reads_all program none (Some ask) = ap reads_without (none ask)
