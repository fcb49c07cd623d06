-- A text that was kept in memory is written once the run has ended.
use Rattle.std.proofs.Common.{◌≡◌, ℕ, Some, List, [], ◌++◌, ap, sym, ◌∙◌, subst, inl, inr}
use Rattle.std.specs.Prelude.{Option}
use Rattle.sdh_status.specs.declared.Status.TheVariants as status
use Rattle.sdh_shell.specs.Endings.{Endings}
use Rattle.sdh_shell.specs.Writing.{joined, IsShown, WroteEnding}
use Rattle.sdh_programs.specs.Programs.{Program}
use Rattle.sdh_programs.specs.Calls.{CutRun, AtOnce, AsItComes, Seen, IsAnswer}

module _ {A L T E : Type 0} (program : Program A L T E) (Cut : CutRun L) (asked : Option A) (seen : Seen) (said : E) (start bytes : List ℕ)
    (empty : start ≡ []) (never : said ≡ program.endings.of status.WriteFault → ⊥)
    (x : IsAnswer program (AsItComes Cut) asked seen said (Some start) (Some bytes)) where
  -- the ending goes with its whole text
  pub text_shown : IsShown program.endings said
  text_shown = elim x [
    | inl told ↦ elim told.wrote [
      | inl whole ↦ subst (IsShown program.endings) (sym whole.0) told.tells.shown
      | inr front ↦ absurd (never front.0)
    ]
    | inr cut ↦ absurd (never cut.end_is)
  ]

  -- what was to be written is the text, and no run of a plan was cut off
  pub text_answer : (end : E) (old new : Option (List ℕ)) → WroteEnding program.endings said bytes end old new
      → IsAnswer program AtOnce asked seen end old new
  text_answer end old new wrote = elim x [
    | inl told ↦ elim told.wrote [
      | inl whole ↦ (let is : bytes ≡ start ++ joined told.text = whole.1 in
          inl (record {
            how = told.how;
            text = told.text;
            tells = told.tells;
            wrote =
                subst (λ (h : E). WroteEnding program.endings h (joined told.text) end old new) whole.0
                (subst (λ (t : List ℕ). WroteEnding program.endings said t end old new)
                (is ∙ ap (λ (l : List ℕ). l ++ joined told.text) empty) wrote);
          }))
      | inr front ↦ absurd (never front.0)
    ]
    | inr cut ↦ absurd (never cut.end_is)
  ]

  -- the same, where the endings are those of a type
  pub text_shown_by : (its : Endings E) → program.endings ≡ its → IsShown its said
  text_shown_by its same = subst (λ (e : Endings E). IsShown e said) same text_shown

  pub text_answer_by : (its : Endings E) → program.endings ≡ its → (end : E) (old new : Option (List ℕ))
      → WroteEnding its said bytes end old new → IsAnswer program AtOnce asked seen end old new
  text_answer_by its same end old new wrote =
      text_answer end old new (subst (λ (e : Endings E). WroteEnding e said bytes end old new) (sym same) wrote)
