use Rattle.std.proofs.Common.{◌≡◌, ◌∙◌, List, ℕ, refl, sym, subst, inl, inr, ap}
use Rattle.sdh_outside.proofs.Pieces.{as_text}
use Rattle.sdh_status.specs.declared.Status.{Status}
use Rattle.sdh_status.specs.declared.Status.TheVariants as status
use Rattle.sdh_shell.specs.Calls.{words_of}
use Rattle.sdh_shell.specs.Failing.{plan_max}
use Rattle.sdh_shell.specs.Reading.{HasNoPlan, IsWhyNone, Refuses, IsRefusal}
use Rattle.sdh_shell.proofs.Failing.{not_err, counted_as, taken_as}
use Rattle.sdh_shell.proofs.Told.{told_all}
use Rattle.sdh_whatif_cli.specs.Words.{own_texts}
use Rattle.sdh_whatif_cli.specs.Outcome.{refusal, of_unknown, of_plan, CasesOfBytes}
use Rattle.sdh_whatif_cli.proofs.Told.{ok_three, no_fault, plan_for, refused_has}
use Rattle.sdh_whatif_cli.proofs.Unknown.{known_of}
use Rattle.sdh_whatif_cli.proofs.top.answer_ask.Goals as goal

-- the plan that was read is the one that `complete` speaks of: its ring has the user's own failures
pub returns-in-Ok-clause-ended : goal.returns-in-Ok-clause-ended
returns-in-Ok-clause-ended g c =
    let ask = c.args.ask in
    let plan = c.in-Ok.plan in
    let left = g.R.Source.left c.args.source.now in
    let texts = own_texts (words_of c.args.words.now) in
    ok_three c.tell.result _ _ _ _ (λ x is wrote own.
    let no = no_fault x.status own in
    record {
      text = (of_plan plan texts ask).1;
      outcome = told_all left _ (λ (bytes : List ℕ). CasesOfBytes ask texts bytes x.status (of_plan plan texts ask).1)
          (λ bytes tells. inr (plan, tells, is, refl)) c.in-Ok.ensures.plan;
      wrote = wrote;
      fault = λ e. absurd (no.read e);
      reads = record { one = λ e f. absurd (no.read f); none = λ e other. c.in-Ok.ensures.counted.none e (λ f. not_err _ _ f) };
      taken = record { one_more = λ e. absurd (no.long e); within = λ other. c.in-Ok.ensures.taken.within (λ f. not_err _ _ f) };
      usage = (λ e. absurd (no.usage e), λ e. cc);
      own = (no.write, no.memory);
      read = λ e. c.in-Ok.ensures.end;
      complete = λ asks has quiet. is ∙ ap (λ o. (of_unknown o plan texts ask).0) (known_of left texts plan has c.in-Ok.ensures.plan);
    }) c.tell.ensures.status c.tell.ensures.wrote c.tell.ensures.own

-- the source has no plan
pub returns-in-Err-Refused-clause-ended : goal.returns-in-Err-Refused-clause-ended
returns-in-Err-Refused-clause-ended g c =
    let ask = c.args.ask in
    let texts = own_texts (words_of c.args.words.now) in
    let left = g.R.Source.left c.args.source.now in
    let now = g.R.Source.left c.plan_in.new.source in
    let r = c.in-Err-Refused in
    let s = c.refuse.result.status in
    let is : s ≡ r.how = c.refuse.ensures.status ∙ r.how-is in
    let why = r.field-0-is in
    let kind : Refuses s = subst Refuses (sym is) (subst IsRefusal why r.ensures.kind) in
    let other = λ (t : Status) (never : Refuses t → ⊥) (e : s ≡ t). never (subst Refuses e kind) in
    record {
      text = refusal r.how;
      outcome = told_all left _ (λ (bytes : List ℕ). CasesOfBytes ask texts bytes s (refusal r.how))
          (λ bytes none. inl (subst (HasNoPlan bytes) (sym is) (subst (IsWhyNone bytes) why none), ap refusal (sym is))) r.ensures.refused;
      wrote = as_text _ _ _ _ _ _ _ _ (ap refusal r.how-is) c.refuse.ensures.wrote;
      fault = λ e. r.ensures.fault cc;
      reads = counted_as g.R.Source.exact _ _ (λ (e : s ≡ status.ReadFault). cc) (λ e. cc) r.ensures.counted;
      taken = taken_as plan_max left now (λ (e : s ≡ status.TooLong). cc) (λ e. cc) r.ensures.taken;
      usage = (λ e. absurd (other status.Usage (λ x. x) e), λ e. cc);
      own = (other status.WriteFault (λ x. x), other status.Memory (λ x. x));
      read = λ e. absurd (other status.Ok (λ x. x) e);
      complete = λ asks has quiet. absurd (refused_has left texts _ r.how why has (r.ensures.complete (plan_for texts left has) quiet));
    }
