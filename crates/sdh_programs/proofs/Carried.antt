-- What is asked, done with a plan: the plan is refused, a text is written of it, or it is run.
use Rattle.std.proofs.Common.{◌≡◌, ℕ, ◌+◌, ◌≤◌, Bool, List, [], ◌++◌, length, refl, ap, sym, ◌∙◌, subst, inl, inr, arith}
use Rattle.std.specs.Prelude.{Option, codes}
use Rattle.std.proofs.lemmas.List.{length-append}
use Rattle.sdh_basics.specs.Causes.{one_more, IsCounted}
use Rattle.sdh_plant.specs.Fibres.{Fibres}
use Rattle.sdh_plan.specs.Planned.{Planned}
use Rattle.sdh_plan.specs.declared.step.Step.{Step}
use Rattle.sdh_report.specs.Lines.{own_line}
use Rattle.sdh_status.specs.declared.Status.{Status}
use Rattle.sdh_status.specs.declared.Status.TheVariants as status
use Rattle.sdh_rounds.specs.Held.{World}
use Rattle.sdh_shell.specs.Calls.{HasRun}
use Rattle.sdh_shell.specs.Endings.{Endings, refuses_plan, RefusesPlan}
use Rattle.sdh_shell.specs.Failing.{Counts, HaveFailed}
use Rattle.sdh_shell.specs.Writing.{Parts, alone, AppendsUpTo, IsShown, WroteEnding}
use Rattle.sdh_shell.proofs.Writing.{wrote_alone, wrote_after}
use Rattle.sdh_shell.proofs.Endings.{has_run, one_status, is_shown}
use Rattle.sdh_shell.proofs.Failing.{counted_none, counted_as}
use Rattle.sdh_scripts.specs.Walks.{Walk}
use Rattle.sdh_scripts.specs.Streams.{WroteSteps}
use Rattle.sdh_scripts.proofs.Outcomes.{comes_ends}
use Rattle.sdh_scripts.proofs.Plans.{comes_of}
use Rattle.sdh_programs.specs.Programs.{Refuses, Writes, Runs, IsRunEnd, Program}
use Rattle.sdh_programs.specs.Headline.{may_do}
use Rattle.sdh_programs.specs.Calls.{CutRun, Goes}
use Rattle.sdh_programs.specs.Deeds.{IsOnly}
use Rattle.sdh_programs.specs.Laws.{IsReported, SettledRunsAreDone, FaultsAreReported}

-- ---- room for a line

-- a text that is a last line alone has at most 96 bytes
pub short_line : (start text line : List ℕ) → start ≡ [] → text ≡ start ++ line → length line ≤ 96 → length text ≤ 96
short_line start text line empty is short =
    let all = ap (λ (l : List ℕ). length l) is in
    let none = ap (λ (l : List ℕ). length l) empty in
    let both = length-append start line in
    omega (arith, all, none, both, short)

-- a text with a last line has at most 96 bytes more
pub long_line : (start text line : List ℕ) → text ≡ start ++ line → length line ≤ 96 → length text ≤ length start + 96
long_line start text line is short =
    let all = ap (λ (l : List ℕ). length l) is in
    let both = length-append start line in
    omega (arith, all, both, short)

-- the line that says how a program is called
pub short_usage : (usage own text : List ℕ) → own ≡ usage → length own ≤ 95 → text ≡ own_line usage → length text ≤ 96
short_usage usage own text same short is =
    let all = ap (λ (l : List ℕ). length l) is in
    let given = ap (λ (l : List ℕ). length l) same in
    let both = length-append usage (codes "\n") in
    omega (arith, all, given, both, short)

-- ---- counts of writes

-- of the writes before the last one none failed
pub counted_last : {A B : Type 0} (exact : Bool) (old before mid new : ℕ) → before ≡ old → (A → ⊥) → IsCounted exact A before mid
    → IsCounted exact B mid new → IsCounted exact B old new
counted_last exact old before mid new same never first last = record {
  one = λ e b. last.one e b ∙ ap one_more (first.none e never ∙ same);
  none = λ e other. last.none e other ∙ first.none e never ∙ same;
}

-- ---- a run

-- a script over new fibres came to its end
pub steps_end : {N T : Type 0} (walk : Walk N T) (limit : ℕ) (text_of begun_of : T → List ℕ) (steps : List Step) (w : World N) (f : Fibres)
    (old new : Option (List ℕ)) (end : Status) (left : World N) → WroteSteps walk limit text_of begun_of steps w f old new end left
    → HasRun end
steps_end walk limit text_of begun_of steps w f old new end left x =
    has_run end (comes_ends walk limit steps w f left.fibres x.reports end (comes_of walk limit steps w f x.reports end left x.ran))

-- ---- endings that go with their whole text

module _ {A L T E : Type 0} (program : Program A L T E) (its : Endings E) (same : program.endings ≡ its) where
  pub refused_shown : (why : E) → RefusesPlan program.endings why → IsShown its why
  refused_shown why refuses = subst (λ (e : Endings E). IsShown e why) same (is_shown program.endings why (inr refuses))

  pub run_shown : (listing : L) (told : List T) (s : Status) (how : E) → HasRun s → how ≡ program.closing.ends listing told s
      → IsShown its how
  run_shown listing told s how h is =
      subst (λ (e : Endings E). IsShown e how) same (is_shown program.endings how (elim (subst (IsRunEnd program.endings) (sym is)
      (program.closing.ends_run listing told s h)) [
        | inl as_script ↦ inl as_script
        | inr own ↦ inr (subst refuses_plan (sym own) tt)
      ]))

-- ---- what is asked, with a plan

module _ {A L T E : Type 0} (program : Program A L T E) (Cut : CutRun L) (ask : A) (plan : Planned) (f : Fibres) where
  -- the plan is refused, and the line of the ending was to be written
  pub goes_refused : (why : E) → IsOnly program ask plan (Refuses why) → RefusesPlan program.endings why → (exact : Bool) (faults : ℕ)
      (end : E) (old new : Option (List ℕ)) → WroteEnding program.endings why (program.endings.line why) end old new
      → Goes program Cut ask plan f f exact (record { before = faults; after = faults }) end old new
  goes_refused why x refuses exact faults end old new wrote =
      inl (record {
        how = why;
        text = alone (program.endings.line why);
        outcome = (Refuses why, x.does, (refl, refuses, (refl, refl)));
        wrote = wrote_alone program.endings why end (program.endings.line why) old new wrote;
        failed = λ e. absurd (no_fault e);
        counted = counted_none exact faults faults no_fault (λ e. refl);
        complete = λ may fine. absurd (subst (λ d. may_do program d plan f) (x.only may.0 may.1) may.2);
      })
    where
      no_fault : why ≡ program.endings.of status.PlantFault → ⊥
      no_fault e = subst refuses_plan (ap program.endings.shared e ∙ program.endings.shared_of status.PlantFault) refuses

  -- a text was to be written of the plan, with the last line
  pub goes_written : (told : List ℕ) → IsOnly program ask plan (Writes told) → (exact : Bool) (faults : ℕ) (end : E) (old new : Option (List ℕ))
      → WroteEnding program.endings (program.endings.of status.Ok) (told ++ program.endings.line (program.endings.of status.Ok)) end old new
      → Goes program Cut ask plan f f exact (record { before = faults; after = faults }) end old new
  goes_written told x exact faults end old new wrote =
      inl (record {
        how = program.endings.of status.Ok;
        text = alone (told ++ program.endings.line (program.endings.of status.Ok));
        outcome = (Writes told, x.does, (refl, (refl, refl)));
        wrote =
            wrote_alone program.endings (program.endings.of status.Ok) end (told ++ program.endings.line (program.endings.of status.Ok))
            old new wrote;
        failed = λ e. absurd (no_fault e);
        counted = counted_none exact faults faults no_fault (λ e. refl);
        complete = λ may fine. refl;
      })
    where
      no_fault : program.endings.of status.Ok ≡ program.endings.of status.PlantFault → ⊥
      no_fault e = let s = one_status program.endings status.Ok status.PlantFault e in grind arith

  module _ (listing : L) (x : IsOnly program ask plan (Runs listing)) (exact : Bool) (calls : Counts) where
    -- the plan was run, and the last line was to be written after what is listed of the run
    pub goes_run : {N : Type 0} (Leaves : List T → Status → ℕ → Type 0) (left : World N) (s : Status) (how end : E) (line : List ℕ)
        (old mid new : Option (List ℕ)) → SettledRunsAreDone program → FaultsAreReported program → HasRun s
        → (r : IsReported program Leaves listing plan f old mid s left) → how ≡ program.closing.ends listing r.told s
        → line ≡ program.closing.line listing how → (s ≡ status.PlantFault → HaveFailed calls)
        → IsCounted exact (s ≡ status.PlantFault) calls.before calls.after → WroteEnding program.endings how line end mid new
        → Goes program Cut ask plan f left.fibres exact calls end old new
    goes_run Leaves left s how end line old mid new done faults h r how_is line_is failed counted wrote =
        let first = program.text_of listing r.told in
        let fault = faults listing r.told s in
        inl (record {
          how = how;
          text = record { first = first; last = line };
          outcome = (
            Runs listing,
            x.does,
            record {
              status = s;
              ends = h;
              told = r.told;
              how_is = how_is;
              text_is = ap (λ (l : List ℕ). record { first = first; last = l }) line_is;
              came = r.came;
            },
          );
          wrote = wrote_after program.endings how end first line old mid new r.text wrote;
          failed = λ e. failed (fault.back (sym how_is ∙ e));
          counted =
              counted_as exact calls.before calls.after (λ e. fault.back (sym how_is ∙ e)) (λ e. how_is ∙ fault.ends e) counted;
          complete = λ may fine. how_is
              ∙ done listing plan f r.told s left.fibres r.came (subst (λ d. may_do program d plan f) (x.only may.0 may.1) may.2)
              (λ e. fine (failed e));
        })

    -- a write failed while the plan was run
    pub goes_cut : (left : Fibres) (s : Status) (end : E) (old new : Option (List ℕ)) → s ≡ status.WriteFault
        → end ≡ program.endings.of status.WriteFault
        → (text : Parts) × Cut listing plan f text left × AppendsUpTo old new text
        → IsCounted exact (s ≡ status.PlantFault) calls.before calls.after
        → Goes program Cut ask plan f left exact calls end old new
    goes_cut left s end old new fault end_is cut counted =
        inr (record {
          end_is = end_is;
          breaks = (listing, x.does, cut.0, cut.1, cut.2);
          none = λ e. counted.none e (λ h. let z = sym h ∙ fault in grind arith);
        })
