-- A call that writes its reports as they come.
use Rattle.std.proofs.Common.{◌≡◌, ◌≢◌, ℕ, ◌+◌, Bool, true, None, Some, List, [], ◌++◌, refl, ap, sym, ◌∙◌, subst, inl, inr, arith}
use Rattle.std.specs.Prelude.{◌⊎◌, Option, IfSome, Result, Ok, Err, IsOk}
use Rattle.std.specs.Io.KnownBytes.{Keeps, IsAtEnd}
use Rattle.std.proofs.lemmas.Bool.{false≢true}
use Rattle.sdh_basics.specs.Causes.{IsCounted}
use Rattle.sdh_outside.specs.Reading.{TakesFewer}
use Rattle.sdh_plant.specs.Fibres.{Fibres}
use Rattle.sdh_plan.specs.Planned.{Planned}
use Rattle.sdh_report.specs.Lines.{own_line}
use Rattle.sdh_status.specs.declared.Status.{Status}
use Rattle.sdh_status.specs.declared.Status.TheVariants as status
use Rattle.sdh_shell.specs.Endings.{Endings}
use Rattle.sdh_shell.specs.Reading.{HasNoPlan, HasPlan, TellsPlan, Refuses, told_if}
use Rattle.sdh_shell.specs.declared.reading.NoPlan.{NoPlan}
use Rattle.sdh_shell.specs.declared.reading.NoPlan.TheVariants as noplan
use Rattle.sdh_shell.specs.Failing.{Counts, HaveFailed, HasCause, cause_of, plan_max, TakesAtMost}
use Rattle.sdh_shell.specs.Writing.{Parts, joined, alone, Whole, Front, Nothing, telling_of, telling_in, telling_if, IsShown, TellsAs, TellsWith, WritesAs, WritesWith, WroteEnding}
use Rattle.sdh_shell.proofs.Told.{told_all}
use Rattle.sdh_shell.proofs.Failing.{counted_none, counted_as, came_of_none, taken_as}
use Rattle.sdh_shell.proofs.Writing.{wrote_alone}
use Rattle.sdh_shell.proofs.Endings.{one_status, no_read, no_long, no_usage, is_shown, with_cause}
use Rattle.sdh_programs.specs.Programs.{Program}
use Rattle.sdh_shell.specs.Reading.{HasRead}
use Rattle.sdh_programs.specs.Outcome.{IsOutcome, MayEnd, MayEndIn, reads_without, reads_source, told}
use Rattle.sdh_programs.specs.Headline.{MayBeDone}
use Rattle.sdh_programs.specs.Calls.{CutRun, Manner, AtOnce, AsItComes, WroteBy, Finishes, Goes, breaks_own, IsCutShort, Seen, HasToTell, IsAnswer}
use Rattle.sdh_programs.proofs.Stages.{plan_ends, own_outcome, own_may_go, own_read, plan_outcome, refused_outcome, read_may_go, read_has_plan, all_read, asked_done}

-- ---- endings

module _ {E : Type 0} (endings : Endings E) where
  -- a write fault is no other status
  pub no_fault : (s : Status) → (status.WriteFault ≡ s → ⊥) → endings.of status.WriteFault ≢ endings.of s
  no_fault s never e = never (one_status endings status.WriteFault s e)

  pub fault_usage : endings.of status.WriteFault ≢ endings.of status.Usage
  fault_usage = no_fault status.Usage (λ e. grind arith)

  pub fault_read : endings.of status.WriteFault ≢ endings.of status.ReadFault
  fault_read = no_fault status.ReadFault (λ e. grind arith)

  pub fault_plant : endings.of status.WriteFault ≢ endings.of status.PlantFault
  fault_plant = no_fault status.PlantFault (λ e. grind arith)

  pub fault_long : endings.of status.WriteFault ≢ endings.of status.TooLong
  fault_long = no_fault status.TooLong (λ e. grind arith)

  pub fault_ok : endings.of status.WriteFault ≢ endings.of status.Ok
  fault_ok = no_fault status.Ok (λ e. grind arith)

  -- after a write fault only the front of a text was written
  pub fault_front : telling_in endings (endings.of status.WriteFault) ≡ Front
  fault_front = ap telling_if (endings.shared_of status.WriteFault)

-- whatever was to be written, its ending was returned, or a write failed
pub wrote_end : {L E : Type 0} (manner : Manner L) (endings : Endings E) (how end : E) (text : Parts) (old new : Option (List ℕ))
    → WroteBy manner endings how text end old new → (end ≡ how) ⊎ (end ≡ endings.of status.WriteFault)
wrote_end AtOnce endings how end text old new (inl x) = inl x.0
wrote_end AtOnce endings how end text old new (inr x) = inr x.0
wrote_end (AsItComes Cut) endings how end text old new (inl x) = inl x.0
wrote_end (AsItComes Cut) endings how end text old new (inr x) = inr x.0

-- ---- memory ran out

keeps_same : (old new : Option (List ℕ)) → new ≡ old → Keeps old new
keeps_same None new is = tt
keeps_same (Some bytes) new is = subst (Keeps (Some bytes)) (sym is) refl

-- nothing was written
pub memory_writes : {A L T E : Type 0} (program : Program A L T E) (asked : Option A) (source : Option (List ℕ)) (f left : Fibres)
    (reads calls : Counts) (end : E) (old new : Option (List ℕ)) → end ≡ program.endings.of status.Memory → new ≡ old
    → IfSome (told program asked source) (λ bytes. WritesWith program.endings
    (λ h text. MayEnd program asked bytes f reads calls h text left) end old new)
memory_writes program asked source f left reads calls end old new is same =
    by (told program asked source)
  where
    by : (o : Option (List ℕ)) → IfSome o (λ bytes. WritesWith program.endings
        (λ h text. MayEnd program asked bytes f reads calls h text left) end old new)
    by None = tt
    by (Some bytes) =
        subst (λ t. WritesAs t (λ h text. MayEnd program asked bytes f reads calls h text left) end old new)
        (sym (ap (telling_in program.endings) is ∙ ap telling_if (program.endings.shared_of status.Memory))) (keeps_same old new same)

pub memory_tells : {A L T E : Type 0} (program : Program A L T E) (manner : Manner L) (asked : Option A) (source : Option (List ℕ))
    (f left : Fibres) (reads calls : Counts) (end : E) (old new : Option (List ℕ)) → end ≡ program.endings.of status.Memory → new ≡ old
    → IfSome (told program asked source) (λ bytes. TellsWith program.endings
    (λ h text. MayEndIn program asked bytes f reads calls h text left) (IsCutShort program manner asked bytes f old new left) end old new)
memory_tells program manner asked source f left reads calls end old new is same =
    by (told program asked source)
  where
    by : (o : Option (List ℕ)) → IfSome o (λ bytes. TellsWith program.endings
        (λ h text. MayEndIn program asked bytes f reads calls h text left) (IsCutShort program manner asked bytes f old new left) end old new)
    by None = tt
    by (Some bytes) =
        subst (λ t. TellsAs t (λ h text. MayEndIn program asked bytes f reads calls h text left)
        (IsCutShort program manner asked bytes f old new left) end old new)
        (sym (ap (telling_in program.endings) is ∙ ap telling_if (program.endings.shared_of status.Memory))) (keeps_same old new same)

-- ---- what an answer says

module _ {A L T E : Type 0} (program : Program A L T E) (asked : Option A) (seen : Seen) (end : E) (old new : Option (List ℕ)) where
  -- reports that were written as they came
  module _ (Cut : CutRun L) where
    abbrev May : List ℕ → E → Parts → Type 0
    May bytes how text = MayEndIn program asked bytes seen.fibres seen.reads seen.calls how text seen.fibres_left

    abbrev Short : List ℕ → Type 0
    Short bytes = IsCutShort program (AsItComes Cut) asked bytes seen.fibres old new seen.fibres_left

    pub answer_tells : IsAnswer program (AsItComes Cut) asked seen end old new
        → IfSome (told program asked seen.source) (λ bytes. TellsWith program.endings (May bytes) (Short bytes) end old new)
    answer_tells (inl x) = elim x.wrote [
      | inl whole ↦ told_all (told program asked seen.source) _
          (λ (bytes : List ℕ). TellsWith program.endings (May bytes) (Short bytes) end old new)
          (λ bytes is. subst (λ (h : E). TellsWith program.endings (May bytes) (Short bytes) h old new) (sym whole.0)
          (subst (λ t. TellsAs t (May bytes) (Short bytes) x.how old new) (sym x.tells.shown) (x.text, (is, x.tells.cause), whole.1)))
          x.tells.outcome
      | inr front ↦ told_all (told program asked seen.source) _
          (λ (bytes : List ℕ). TellsWith program.endings (May bytes) (Short bytes) end old new)
          (λ bytes is. subst (λ (h : E). TellsWith program.endings (May bytes) (Short bytes) h old new) (sym front.0)
          (subst (λ t. TellsAs t (May bytes) (Short bytes) (program.endings.of status.WriteFault) old new) (sym (fault_front program.endings))
          (inl (x.how, x.text, (is, x.tells.cause), front.1))))
          x.tells.outcome
    ]
    answer_tells (inr x) =
        told_all (told program asked seen.source) _
        (λ (bytes : List ℕ). TellsWith program.endings (May bytes) (Short bytes) end old new)
        (λ bytes is. subst (λ (h : E). TellsWith program.endings (May bytes) (Short bytes) h old new) (sym x.end_is)
        (subst (λ t. TellsAs t (May bytes) (Short bytes) (program.endings.of status.WriteFault) old new) (sym (fault_front program.endings))
        (inr is))) x.cut

  -- a text that was written in one go
  abbrev MayAll : List ℕ → E → List ℕ → Type 0
  MayAll bytes how all = MayEnd program asked bytes seen.fibres seen.reads seen.calls how all seen.fibres_left

  pub answer_writes : IsAnswer program AtOnce asked seen end old new
      → IfSome (told program asked seen.source) (λ bytes. WritesWith program.endings (MayAll bytes) end old new)
  answer_writes (inl x) = elim x.wrote [
    | inl whole ↦ told_all (told program asked seen.source) _ (λ (bytes : List ℕ). WritesWith program.endings (MayAll bytes) end old new)
        (λ bytes is. subst (λ (h : E). WritesWith program.endings (MayAll bytes) h old new) (sym whole.0)
        (subst (λ t. WritesAs t (MayAll bytes) x.how old new) (sym x.tells.shown)
        (joined x.text, (x.text, refl, (is, x.tells.cause)), whole.1)))
        x.tells.outcome
    | inr front ↦ told_all (told program asked seen.source) _ (λ (bytes : List ℕ). WritesWith program.endings (MayAll bytes) end old new)
        (λ bytes is. subst (λ (h : E). WritesWith program.endings (MayAll bytes) h old new) (sym front.0)
        (subst (λ t. WritesAs t (MayAll bytes) (program.endings.of status.WriteFault) old new) (sym (fault_front program.endings))
        (x.how, joined x.text, (x.text, refl, (is, x.tells.cause)), front.1)))
        x.tells.outcome
  ]
  answer_writes (inr x) =
      told_all (told program asked seen.source) _ (λ (bytes : List ℕ). WritesWith program.endings (MayAll bytes) end old new)
      (λ bytes is. absurd is) x.cut

module _ {A L T E : Type 0} (program : Program A L T E) (manner : Manner L) (asked : Option A) (seen : Seen) (end : E)
    (old new : Option (List ℕ)) where
  -- an ending that isn't a write fault is the one that was to be reported
  as_told : (s : Status) → (program.endings.of status.WriteFault ≢ program.endings.of s) → IsAnswer program manner asked seen end old new
      → end ≡ program.endings.of s → (how : E) × (text : Parts) × HasToTell program asked seen how text × (how ≡ program.endings.of s)
  as_told s never (inl x) e = elim (wrote_end manner program.endings x.how end x.text old new x.wrote) [
    | inl same ↦ (x.how, x.text, x.tells, sym same ∙ e)
    | inr fault ↦ absurd (never (sym fault ∙ e))
  ]
  as_told s never (inr x) e = absurd (never (sym x.end_is ∙ e))

  pub answer_usage : IsAnswer program manner asked seen end old new → end ≡ program.endings.of status.Usage → asked ≡ None
  answer_usage x e = let y = as_told status.Usage (fault_usage program.endings) x e in y.2.usage y.3

  pub answer_unasked : IsAnswer program manner asked seen end old new → asked ≡ None
      → (end ≡ program.endings.of status.Usage) ⊎ (end ≡ program.endings.of status.WriteFault)
  answer_unasked (inl x) none = elim (wrote_end manner program.endings x.how end x.text old new x.wrote) [
    | inl same ↦ inl (same ∙ x.tells.unasked none)
    | inr fault ↦ inr fault
  ]
  answer_unasked (inr x) none = absurd (x.asks none)

  pub answer_read_fault : IsAnswer program manner asked seen end old new → end ≡ program.endings.of status.ReadFault → HaveFailed seen.reads
  answer_read_fault x e =
      let y = as_told status.ReadFault (fault_read program.endings) x e in
      subst (cause_of seen.reads seen.calls) (ap program.endings.shared y.3 ∙ program.endings.shared_of status.ReadFault) y.2.cause

  pub answer_plant_fault : IsAnswer program manner asked seen end old new → end ≡ program.endings.of status.PlantFault
      → HaveFailed seen.calls
  answer_plant_fault x e =
      let y = as_told status.PlantFault (fault_plant program.endings) x e in
      subst (cause_of seen.reads seen.calls) (ap program.endings.shared y.3 ∙ program.endings.shared_of status.PlantFault) y.2.cause

  pub answer_read : IsAnswer program manner asked seen end old new → end ≡ program.endings.of status.Ok
      → HasRead (reads_source program asked) seen.source_left
  answer_read x e = let y = as_told status.Ok (fault_ok program.endings) x e in y.2.read y.3

  -- with all that is needed, and no fault, everything is done
  pub answer_complete : IsAnswer program manner asked seen end old new → (ask : A) → asked ≡ Some ask
      → MayBeDone program ask (told program (Some ask) seen.source) seen.fibres → (HaveFailed seen.reads → ⊥) → (HaveFailed seen.calls → ⊥)
      → (end ≢ program.endings.of status.WriteFault) → end ≡ program.endings.of status.Ok
  answer_complete (inl x) ask is may reads calls wrote = elim (wrote_end manner program.endings x.how end x.text old new x.wrote) [
    | inl same ↦ same ∙ x.tells.complete ask is may reads calls
    | inr fault ↦ absurd (wrote fault)
  ]
  answer_complete (inr x) ask is may reads calls wrote = absurd (wrote x.end_is)

  -- no answer has the ending of a call without memory
  pub answer_memory : IsAnswer program manner asked seen end old new → end ≢ program.endings.of status.Memory
  answer_memory x e =
      let y = as_told status.Memory (no_fault program.endings status.Memory (λ h. grind arith)) x e in
      nothing_whole (sym (ap telling_if (ap program.endings.shared y.3 ∙ program.endings.shared_of status.Memory)) ∙ y.2.shown)
    where
      nothing_whole : Nothing ≡ Whole → ⊥
      nothing_whole h = grind arith

-- ---- what an answer comes of

some_none : {A : Type 0} (a : A) → ◌≡◌ {A = Option A} (Some a) None → ⊥
some_none a e = grind arith

module _ {A L T E : Type 0} (program : Program A L T E) (Cut : CutRun L) (ask : A) (seen : Seen) (end : E) (old new : Option (List ℕ))
    (same_reads : seen.reads_exact ≡ true → seen.reads.after ≡ seen.reads.before)
    (few : TakesFewer seen.source seen.source_left (plan_max + 1)) where
  -- a write failed while a plan was run
  cut_answer : (plan : Planned) (calls_none : seen.calls_exact ≡ true → seen.calls.after ≡ seen.calls.before)
      → end ≡ program.endings.of status.WriteFault
      → IfSome (told program (Some ask) seen.source) (λ bytes. IsCutShort program (AsItComes Cut) (Some ask) bytes seen.fibres old new seen.fibres_left)
      → IsAnswer program (AsItComes Cut) (Some ask) seen end old new
  cut_answer plan calls_none is cut = inr (record {
    end_is = is;
    cut = cut;
    asks = some_none ask;
    came = record {
      source =
          came_of_none plan_max seen.reads_exact seen.reads seen.source seen.source_left same_reads few (λ e. fault_read program.endings (sym is ∙ e))
          (λ e. fault_long program.endings (sym is ∙ e));
      plant =
          counted_none seen.calls_exact seen.calls.before seen.calls.after (λ e. fault_plant program.endings (sym is ∙ e)) calls_none;
    };
  })

  -- what a call came to with a plan
  told_answer : (plan : Planned) (x : Finishes program ask plan seen.fibres seen.fibres_left seen.calls_exact seen.calls end old new)
      → IfSome (told program (Some ask) seen.source) (λ bytes. IsOutcome program (Some ask) bytes seen.fibres x.how x.text seen.fibres_left)
      → (x.how ≡ program.endings.of status.Ok → HasRead (reads_source program (Some ask)) seen.source_left)
      → ((b : A) → ◌≡◌ {A = Option A} (Some ask) (Some b) → MayBeDone program b (told program (Some b) seen.source) seen.fibres
      → (HaveFailed seen.calls → ⊥) → x.how ≡ program.endings.of status.Ok)
      → IsAnswer program (AsItComes Cut) (Some ask) seen end old new
  told_answer plan x outcome read complete =
      let ends = plan_ends program plan seen.fibres seen.fibres_left x.how x.text ask x.outcome in
      inl (record {
        how = x.how;
        text = x.text;
        tells = record {
          outcome = outcome;
          cause = with_cause program.endings x.how seen.reads seen.calls ends x.failed;
          came = record {
            source =
                came_of_none plan_max seen.reads_exact seen.reads seen.source seen.source_left same_reads few (no_read program.endings x.how ends)
                (no_long program.endings x.how ends);
            plant = x.counted;
          };
          shown = is_shown program.endings x.how ends;
          usage = λ e. absurd (no_usage program.endings x.how ends e);
          unasked = λ none. absurd (some_none ask none);
          read = read;
          complete = λ b is may reads calls. complete b is may calls;
        };
        wrote = x.wrote;
      })

  -- the plan is the one that what is asked names
  pub own_answer : (plan : Planned) → program.own_plan ask ≡ Some plan
      → Goes program Cut ask plan seen.fibres seen.fibres_left seen.calls_exact seen.calls end old new
      → IsAnswer program (AsItComes Cut) (Some ask) seen end old new
  own_answer plan is (inl x) =
      told_answer plan x (own_outcome program ask plan is seen.source seen.fibres seen.fibres_left x.how x.text x.outcome)
      (λ e. own_read program ask plan is seen.source_left)
      (λ b same may calls. x.complete (own_may_go program ask plan is seen.source seen.fibres
      (asked_done program ask (Some ask) refl b seen.source seen.fibres same may)) calls)
  own_answer plan is (inr x) =
      cut_answer plan x.none x.end_is
      (subst (λ o. IfSome (told_if (reads_without o) seen.source)
      (λ bytes. breaks_own program Cut ask o bytes seen.fibres old new seen.fibres_left)) (sym is) x.breaks)

  -- the plan is that of the source's bytes
  module _ (none : program.own_plan ask ≡ None) where
    pub read_answer : (plan : Planned) → IfSome seen.source (λ bytes. TellsPlan bytes plan) → IsAtEnd seen.source_left
        → Goes program Cut ask plan seen.fibres seen.fibres_left seen.calls_exact seen.calls end old new
        → IsAnswer program (AsItComes Cut) (Some ask) seen end old new
    read_answer plan tells all (inl x) =
        told_answer plan x (plan_outcome program ask none seen.source plan seen.fibres seen.fibres_left x.how x.text tells x.outcome)
        (λ e. all_read program ask none seen.source_left all)
        (λ b same may calls. x.complete (read_may_go program ask none seen.source plan seen.fibres tells
        (asked_done program ask (Some ask) refl b seen.source seen.fibres same may)) calls)
    read_answer plan tells all (inr x) =
        cut_answer plan x.none x.end_is
        (subst (λ o. IfSome (told_if (reads_without o) seen.source)
        (λ bytes. breaks_own program Cut ask o bytes seen.fibres old new seen.fibres_left)) (sym none)
        (told_all seen.source _ (λ (bytes : List ℕ). breaks_own program Cut ask None bytes seen.fibres old new seen.fibres_left)
        (λ bytes is. (plan, is, x.breaks)) tells))

-- ---- where no plan is run

pub refusal_whole : (s : Status) → Refuses s → telling_of s ≡ Whole
refusal_whole status.ReadFault h = refl
refusal_whole status.TooLong h = refl
refusal_whole status.NotToml h = refl
refusal_whole (status.BadPlan reason place) h = refl
refusal_whole how h = absurd h

-- a refusal has its cause: with a read fault a read failed, and the others need none
refusal_cause : (reads calls : Counts) (s : Status) → Refuses s → (s ≡ status.ReadFault → HaveFailed reads) → HasCause reads calls s
refusal_cause reads calls status.ReadFault h failed = failed refl
refusal_cause reads calls status.TooLong h failed = tt
refusal_cause reads calls status.NotToml h failed = tt
refusal_cause reads calls (status.BadPlan reason place) h failed = tt
refusal_cause reads calls how h failed = absurd h

other_refusal : (s t : Status) → Refuses s → (Refuses t → ⊥) → s ≡ t → ⊥
other_refusal s t h never e = never (subst Refuses e h)

module _ {A L T E : Type 0} (program : Program A L T E) (Cut : CutRun L) (seen : Seen) (end : E) (old new : Option (List ℕ))
    (same_fibres : seen.fibres_left ≡ seen.fibres) (same_calls : seen.calls_exact ≡ true → seen.calls.after ≡ seen.calls.before) where
  -- the source has no plan
  pub refused_answer : (ask : A) → program.own_plan ask ≡ None → (s : Status) → Refuses s → IfSome seen.source (λ bytes. HasNoPlan bytes s)
      → (s ≡ status.ReadFault → HaveFailed seen.reads)
      → IsCounted seen.reads_exact (s ≡ status.ReadFault) seen.reads.before seen.reads.after
      → TakesAtMost plan_max seen.source seen.source_left (s ≡ status.TooLong)
      → (HasPlan seen.source → (HaveFailed seen.reads → ⊥) → ⊥)
      → WroteEnding program.endings (program.endings.of s) (program.endings.line (program.endings.of s)) end old new
      → IsAnswer program (AsItComes Cut) (Some ask) seen end old new
  refused_answer ask none s refuses no_plan failed counted taken never wrote =
      let endings = program.endings in
      inl (record {
        how = endings.of s;
        text = alone (endings.line (endings.of s));
        tells = record {
          outcome =
              refused_outcome program ask none seen.source s seen.fibres seen.fibres_left (endings.of s) (alone (endings.line (endings.of s)))
              no_plan refl (refl, same_fibres);
          cause =
              subst (cause_of seen.reads seen.calls) (sym (endings.shared_of s)) (refusal_cause seen.reads seen.calls s refuses failed);
          came = record {
            source = record {
              counted =
                  counted_as seen.reads_exact seen.reads.before seen.reads.after (one_status endings s status.ReadFault) (ap endings.of)
                  counted;
              taken =
                  taken_as plan_max seen.source seen.source_left (one_status endings s status.TooLong) (ap endings.of) taken;
            };
            plant =
                counted_none seen.calls_exact seen.calls.before seen.calls.after
                (λ e. other_refusal s status.PlantFault refuses (λ x. x) (one_status endings s status.PlantFault e)) same_calls;
          };
          shown = ap telling_if (endings.shared_of s) ∙ refusal_whole s refuses;
          usage = λ e. absurd (other_refusal s status.Usage refuses (λ x. x) (one_status endings s status.Usage e));
          unasked = λ nothing. absurd (some_none ask nothing);
          read = λ e. absurd (other_refusal s status.Ok refuses (λ x. x) (one_status endings s status.Ok e));
          complete =
              λ b same may reads calls. absurd (never (read_has_plan program ask none seen.source seen.fibres
              (asked_done program ask (Some ask) refl b seen.source seen.fibres same may)) reads);
        };
        wrote = wrote_alone endings (endings.of s) end (endings.line (endings.of s)) old new wrote;
      })

  -- the words ask for nothing
  pub usage_answer : (seen.reads_exact ≡ true → seen.reads.after ≡ seen.reads.before)
      → TakesFewer seen.source seen.source_left (plan_max + 1)
      → WroteEnding program.endings (program.endings.of status.Usage) (own_line program.usage) end old new
      → IsAnswer program (AsItComes Cut) None seen end old new
  usage_answer same_reads few wrote =
      let endings = program.endings in
      let other = λ (s : Status) (never : status.Usage ≡ s → ⊥) (e : endings.of status.Usage ≡ endings.of s).
      never (one_status endings status.Usage s e) in
      inl (record {
        how = endings.of status.Usage;
        text = alone (own_line program.usage);
        tells = record {
          outcome = (refl, (refl, same_fibres));
          cause = subst (cause_of seen.reads seen.calls) (sym (endings.shared_of status.Usage)) tt;
          came = record {
            source =
                came_of_none plan_max seen.reads_exact seen.reads seen.source seen.source_left same_reads few (other status.ReadFault (λ e. grind arith))
                (other status.TooLong (λ e. grind arith));
            plant =
                counted_none seen.calls_exact seen.calls.before seen.calls.after (other status.PlantFault (λ e. grind arith)) same_calls;
          };
          shown = ap telling_if (endings.shared_of status.Usage);
          usage = λ e. refl;
          unasked = λ nothing. refl;
          read = λ e. tt;
          complete = λ ask is may reads calls. absurd (some_none ask (sym is));
        };
        wrote = wrote_alone endings (endings.of status.Usage) end (own_line program.usage) old new wrote;
      })

-- ---- what reading a plan returned

module _ (why : NoPlan) (s : Status) (is : why ≡ noplan.Refused s) where
  pub why_is : (t : Status) → s ≡ t → ◌≡◌ {A = Result Planned NoPlan} (Err why) (Err (noplan.Refused t))
  why_is t e = ap (λ (w : NoPlan). Err w) (is ∙ ap noplan.Refused e)

  pub is_why : (t : Status) → ◌≡◌ {A = Result Planned NoPlan} (Err why) (Err (noplan.Refused t)) → s ≡ t
  is_why t e = refused_same (sym is ∙ err_same e)
    where
      err_same : ◌≡◌ {A = Result Planned NoPlan} (Err why) (Err (noplan.Refused t)) → why ≡ noplan.Refused t
      err_same h = grind arith

      refused_same : noplan.Refused s ≡ noplan.Refused t → s ≡ t
      refused_same h = grind arith

  -- where the source has a plan, and no read failed, the plan isn't refused
  pub why_never : (r : Result Planned NoPlan) → r ≡ Err why → IsOk r ⊎ (r ≡ Err noplan.Memory) → ⊥
  why_never (Ok plan) e x = absurd (ok_err e)
    where
      ok_err : ◌≡◌ {A = Result Planned NoPlan} (Ok plan) (Err why) → ⊥
      ok_err h = grind arith
  why_never (Err w) e (inl x) = false≢true x
  why_never (Err w) e (inr x) = refused_memory (sym is ∙ err_same (sym e ∙ x))
    where
      err_same : ◌≡◌ {A = Result Planned NoPlan} (Err why) (Err noplan.Memory) → why ≡ noplan.Memory
      err_same h = grind arith

      refused_memory : noplan.Refused s ≡ noplan.Memory → ⊥
      refused_memory h = grind arith

-- ---- the endings of a program are those of its type

module _ {E : Type 0} (own its : Endings E) (same : own ≡ its) where
  -- an ending that goes with its whole text is shown
  pub shown_as : (end : E) (s : Status) → end ≡ own.of s → telling_of s ≡ Whole → IsShown its end
  shown_as end s is whole =
      subst (λ (e : Endings E). IsShown e end) same
      (ap (λ (h : E). telling_if (own.shared h)) is ∙ ap telling_if (own.shared_of s) ∙ whole)

  pub fault_as : (end : E) → end ≡ own.of status.WriteFault → end ≡ its.of status.WriteFault
  fault_as end e = e ∙ ap (λ (x : Endings E). x.of status.WriteFault) same

  pub fault_back : (end : E) → end ≡ its.of status.WriteFault → end ≡ own.of status.WriteFault
  fault_back end e = e ∙ ap (λ (x : Endings E). x.of status.WriteFault) (sym same)

  pub counted_own : (end : E) (exact : Bool) (before after : ℕ) → IsCounted exact (end ≡ its.of status.WriteFault) before after
      → IsCounted exact (end ≡ own.of status.WriteFault) before after
  counted_own end exact before after counted = counted_as exact before after (fault_as end) (fault_back end) counted

  pub wrote_as : (said how : E) (bytes text : List ℕ) (end : E) (old new : Option (List ℕ)) → said ≡ how → bytes ≡ text
      → WroteEnding its said bytes end old new → WroteEnding own how text end old new
  wrote_as said how bytes text end old new is line x =
      subst (λ (e : Endings E). WroteEnding e how text end old new) (sym same)
      (subst (λ (h : E). WroteEnding its h text end old new) is
      (subst (λ (t : List ℕ). WroteEnding its said t end old new) line x))

  -- a text and its last line were to be written
  pub wrote_given : (how said : E) (told start text : List ℕ) (end : E) (old mid new : Option (List ℕ)) → said ≡ how → start ≡ told
      → text ≡ start ++ its.line how → mid ≡ old → WroteEnding its said text end mid new
      → WroteEnding own how (told ++ own.line how) end old new
  wrote_given how said told start text end old mid new as_said is line before x =
      wrote_as said how text (told ++ own.line how) end old new as_said
      (line ∙ ap (λ l. l ++ its.line how) is ∙ ap (λ (e : Endings E). told ++ e.line how) (sym same))
      (subst (λ (o : Option (List ℕ)). WroteEnding its said text end o new) before x)

  -- a line alone was to be written
  pub wrote_line : (s : Status) (said given : E) (start text : List ℕ) (end : E) (old new : Option (List ℕ)) → said ≡ given → given ≡ own.of s
      → start ≡ [] → text ≡ start ++ its.line given → WroteEnding its said text end old new
      → WroteEnding own (own.of s) (own.line (own.of s)) end old new
  wrote_line s said given start text end old new as_given is empty line x =
      wrote_as said (own.of s) text (own.line (own.of s)) end old new (as_given ∙ is)
      (line ∙ ap (λ l. l ++ its.line given) empty ∙ ap (λ (e : Endings E). e.line given) (sym same) ∙ ap own.line is) x

-- an answer to `a` is an answer to what is equal to `a`
pub asked_answer : {A L T E : Type 0} (program : Program A L T E) (Cut : CutRun L) (a b : Option A) (seen : Seen) (end : E)
    (old new : Option (List ℕ)) → a ≡ b → IsAnswer program (AsItComes Cut) a seen end old new → IsAnswer program (AsItComes Cut) b seen end old new
asked_answer program Cut a b seen end old new is x = subst (λ o. IsAnswer program (AsItComes Cut) o seen end old new) is x
