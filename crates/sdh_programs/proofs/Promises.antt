-- What a program promises follows from the outcome of its call.
use Rattle.std.proofs.Common.{◌≡◌, ◌≢◌, ℕ, ◌≤◌, None, Some, List, ◌++◌, length, refl, ap, sym, ◌∙◌, subst, inl, inr}
use Rattle.std.specs.Prelude.{◌⊎◌, Option, IfSome}
use Rattle.std.specs.Io.KnownBytes.{Appends}
use Rattle.sdh_plant.specs.Fibres.{Fibres}
use Rattle.sdh_plan.specs.Planned.{Planned}
use Rattle.sdh_status.specs.declared.Status.{Status}
use Rattle.sdh_status.specs.declared.Status.TheVariants as status
use Rattle.sdh_rounds.specs.Quiet.{enough_for}
use Rattle.sdh_scripts.specs.Outcomes.{AllSettled}
use Rattle.sdh_shell.specs.Calls.{HasRun}
use Rattle.sdh_shell.specs.Failing.{Counts}
use Rattle.sdh_shell.specs.Writing.{Parts, joined, WritesWith}
use Rattle.sdh_shell.proofs.Plans.{one_plan}
use Rattle.sdh_shell.proofs.Told.{told_all}
use Rattle.sdh_shell.proofs.Refused.{no_run}
use Rattle.sdh_shell.proofs.Endings.{one_status, not_refused, ran_whole}
use Rattle.sdh_shell.proofs.Writing.{was_whole}
use Rattle.sdh_programs.specs.Programs.{Deed, Refuses, Writes, Runs, Closing, as_script, Program}
use Rattle.sdh_programs.specs.Outcome.{IsRunOutcome, OfDeed, OfPlan, OfOwnPlan, MayEnd, told}
use Rattle.sdh_programs.specs.Headline.{is_plan_for, IsPlanFor, Shows}

-- a run with a limit that is always enough settled each step, whatever it reports; `told` is named only to fit the
-- form that `shows` takes
abbrev pub SettlesLarge : (T : Type 0) → Planned → List T → Status → Type 0
SettlesLarge T plan told how = enough_for (length plan.nodes) ≤ plan.limit → AllSettled how

-- where `Known` holds of the plan, the run ended as is said of the plan, or by a fault
abbrev pub EndsKnown : (T : Type 0) → (Planned → Type 0) → (Planned → Status) → Planned → List T → Status → Type 0
EndsKnown T Known ending plan told how = Known plan → (how ≡ ending plan) ⊎ (how ≡ status.PlantFault)

-- with a plan that is run nothing else is done
abbrev pub RunsAlone : {A L T E : Type 0} → Program A L T E → A → Type 0
RunsAlone {L = L} {E = E} program ask =
    (plan : Planned) (listing : L) (deed : Deed L E) → program.Does ask plan (Runs listing) → program.Does ask plan deed
    → deed ≡ Runs listing

-- a plan is refused, or run
abbrev pub NeverWrites : {A L T E : Type 0} → Program A L T E → A → Type 0
NeverWrites program ask = (plan : Planned) (told : List ℕ) → program.Does ask plan (Writes told) → ⊥

module _ {A L T E : Type 0} (program : Program A L T E) (ask : A) (f left : Fibres) where
  -- where a script came to its end, a plan came of what was asked, and this is its outcome
  of_own : (own : Option Planned) (bytes : List ℕ) (how : E) (text : Parts) (plan : Planned) (s : Status) → how ≡ program.endings.of s
      → HasRun s → is_plan_for own bytes plan → OfOwnPlan program ask own bytes f how text left → OfPlan program ask plan f how text left
  of_own None bytes how text plan s is h tells (inl x) =
      no_run bytes x.status _ x.none (subst HasRun (one_status program.endings s x.status (sym is ∙ x.how_is)) h)
  of_own None bytes how text plan s is h tells (inr x) =
      subst (λ p. OfPlan program ask p f how text left) (one_plan bytes x.0 plan x.1 tells) x.2
  of_own (Some own) bytes how text plan s is h same x = subst (λ p. OfPlan program ask p f how text left) (sym same) x

  -- a plan whose run came to its end wasn't refused
  ran_deed : (deed : Deed L E) (how : E) (text : Parts) (plan : Planned) (s : Status) → how ≡ program.endings.of s → HasRun s
      → NeverWrites program ask → program.Does ask plan deed → OfDeed program deed plan f how text left
      → (listing : L) × program.Does ask plan (Runs listing)
  ran_deed (Refuses why) how text plan s is h never does x = absurd (not_refused program.endings how s is h x.1)
  ran_deed (Writes told) how text plan s is h never does x = absurd (never plan told does)
  ran_deed (Runs listing) how text plan s is h never does x = (listing, does)

  module _ (reads calls : Counts) (bytes : List ℕ) (how : E) (old new : Option (List ℕ))
      (wrote : WritesWith program.endings (λ how text. MayEnd program (Some ask) bytes f reads calls how text left) how old new)
      (plain : program.closing ≡ as_script L T program.endings) where
    -- what was written where a script came to its end, and what came of the plan
    whole : (plan : Planned) (s : Status) → IsPlanFor program ask bytes plan → how ≡ program.endings.of s → HasRun s
        → (text : Parts) × OfPlan program ask plan f how text left × Appends old new (joined text)
    whole plan s tells is h =
        let w = was_whole program.endings (λ how text. MayEnd program (Some ask) bytes f reads calls how text left) how old new
        (ran_whole program.endings how s is h) wrote in
        let text = w.1.0 in
        (text, of_own (program.own_plan ask) bytes how text plan s is h tells w.1.2.0, subst (Appends old new) w.1.1 w.2)

    -- what holds of each run of a plan holds of the one that was shown
    pub shows : (P : Planned → List T → Status → Type 0) → RunsAlone program ask
        → ((plan : Planned) (told : List T) (end : Status) → program.IsRunOf plan f told end left → P plan told end)
        → Shows program ask P bytes how old new
    shows P alone so plan listing s tells does is h =
        let w = whole plan s tells is h in
        let r : IsRunOutcome program listing plan f how w.0 left =
        subst (λ d. OfDeed program d plan f how w.0 left) (alone plan listing w.1.0 does w.1.1) w.1.2 in
        let ends : how ≡ program.endings.of r.status =
        r.how_is ∙ ap (λ (c : Closing L T program.endings). c.ends listing r.told r.status) plain in
        let line : joined w.0 ≡ program.text_of listing r.told ++ program.endings.line how =
        ap joined r.text_is ∙ ap (λ (c : Closing L T program.endings). program.text_of listing r.told ++ c.line listing how) plain in
        let same : r.status ≡ s = one_status program.endings r.status s (sym ends ∙ is) in
        (r.told, subst (Appends old new) line w.2, so plan r.told s (subst (λ t. program.IsRunOf plan f r.told t left) same r.came))

    -- what holds of each run holds of the run that was reported, where the program never writes a text without a run
    so_of : (P : Planned → List T → Status → Type 0) → RunsAlone program ask → NeverWrites program ask
        → ((plan : Planned) (told : List T) (end : Status) → program.IsRunOf plan f told end left → P plan told end)
        → (plan : Planned) (s : Status) → IsPlanFor program ask bytes plan → how ≡ program.endings.of s → HasRun s
        → (told : List T) × P plan told s
    so_of P alone never so plan s tells is h =
        let w = whole plan s tells is h in
        let listed = ran_deed w.1.0 how w.0 plan s is h never w.1.1 w.1.2 in
        let x = shows P alone so plan listed.0 s tells listed.1 is h in
        (x.0, x.2)

    module _ (alone : RunsAlone program ask) (never : NeverWrites program ask) where
      -- no call reports an unsettled step
      pub settles : ((plan : Planned) (told : List T) (end : Status) → program.IsRunOf plan f told end left → SettlesLarge T plan told end)
          → (plan : Planned) → IsPlanFor program ask bytes plan → enough_for (length plan.nodes) ≤ plan.limit → (k : ℕ)
          → how ≢ program.endings.of (status.Unsettled k)
      settles so plan tells large k e =
          (so_of (SettlesLarge T) alone never so plan (status.Unsettled k) tells e tt).1 large k refl

      pub ends_as : (Known : Planned → Type 0) (ending : Planned → Status)
          → ((plan : Planned) (told : List T) (end : Status) → program.IsRunOf plan f told end left → EndsKnown T Known ending plan told end)
          → (plan : Planned) (s : Status) → IsPlanFor program ask bytes plan → how ≡ program.endings.of s → HasRun s → Known plan
          → (s ≡ ending plan) ⊎ (s ≡ status.PlantFault)
      ends_as Known ending so plan s tells is h known = (so_of (EndsKnown T Known ending) alone never so plan s tells is h).1 known

  -- what is promised of the bytes that a source has, where this is asked
  pub promised : (a : Option A) (reads calls : Counts) (source : Option (List ℕ)) (how : E) (old new : Option (List ℕ))
      (R : List ℕ → Type 0) → a ≡ Some ask
      → ((bytes : List ℕ) → WritesWith program.endings (λ how text. MayEnd program (Some ask) bytes f reads calls how text left) how old new
      → R bytes)
      → IfSome (told program a source)
      (λ bytes. WritesWith program.endings (λ how text. MayEnd program a bytes f reads calls how text left) how old new)
      → IfSome (told program (Some ask) source) R
  promised a reads calls source how old new R is so outcome =
      told_all (told program (Some ask) source) _ R so
      (subst (λ b. IfSome (told program b source) (λ bytes. WritesWith program.endings
      (λ how text. MayEnd program b bytes f reads calls how text left) how old new)) is outcome)
