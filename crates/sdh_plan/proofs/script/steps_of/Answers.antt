use Rattle.std.proofs.Common.{◌≡◌, ◌+◌, Ok, Err, sym, ◌∙◌, rules}
use Rattle.std.proofs.lemmas.Result.{err_from_is_err_and, IfOk-at_ok}
use Rattle.sdh_ringmap.specs.Rates.{n_of}
use Rattle.sdh_plan.specs.declared.reason.Reason.{Reason}
use Rattle.sdh_plan.specs.declared.check_error.CheckError.TheVariants as error
use Rattle.sdh_plan.specs.Counted.{past_in}
use Rattle.sdh_plan.specs.Steps.{step_of, after}
use Rattle.sdh_plan.proofs.Scripts.{placed_step, placed_reason, read_next, read_fails, read_steps}
use Rattle.sdh_plan.proofs.script.steps_of.Goals as goal

pub returns-in_err-step-clause-refused : goal.returns-in_err-step-clause-refused
returns-in_err-step-clause-refused c =
    let p = err_from_is_err_and c.from_residual.result c.from_residual.ensures.1 in
    let q : (r : Reason) × (c.next_step-told.result ≡ Err r) × (c.in_err-step.field-0.0 ≡ error.BadPlan r (c.loop-i.i + 1)) =
    placed_reason c.next_step-told.result (c.loop-i.i + 1) c.in_err-step.field-0.0 _ c.in_err-step.ensures.cases (λ r h. search rules) in
    rw (p.1, p.2, q.2) (read_fails (n_of c.args.rate) c.args.ring.now c.args.circuits.now.circuits c.args.values.now
    (past_in c.loop-i.past) c.loop-i.steps.items c.loop-i.i c.index-values-i.result c.as_bytes.result.now q.0 c.loop-i.invariant.read c.loop-i-test.true
    c.index-values-i.is (c.as_bytes.ensures.value ∙ c.text_of-text.ensures) (sym q.1 ∙ c.next_step-told.ensures.step))

pub loop-i-preserved : goal.loop-i-preserved
loop-i-preserved c =
    let told : c.next_step-told.result ≡ Ok c.in_ok-step.step =
    placed_step c.next_step-told.result c.in_ok-step.step _ c.in_ok-step.ensures.cases (λ r h. h) in
    record {
      read =
          read_next (n_of c.args.rate) c.args.ring.now c.args.circuits.now.circuits c.args.values.now
          (past_in c.loop-i.past) _ c.loop-i.steps.items _ c.in_ok-step.step c.loop-i.i c.index-values-i.result c.as_bytes.result.now c.loop-i.invariant.read c.loop-i-test.true
          c.index-values-i.is (c.as_bytes.ensures.value ∙ c.text_of-text.ensures) (search rules) (sym told ∙ c.next_step-told.ensures.step)
          (IfOk-at_ok (λ _. past_in c.next_step-told.new.past
          ≡ after (past_in c.loop-i.past)
          (step_of (n_of c.args.rate) c.args.ring.now c.args.circuits.now.circuits c.as_bytes.result.now)) told c.next_step-told.ensures.past);
    }

pub returns-clause-steps : goal.returns-clause-steps
returns-clause-steps c =
    read_steps (n_of c.args.rate) c.args.ring.now c.args.circuits.now.circuits c.args.values.now
    (past_in c.loop-i.past) c.loop-i.steps.items c.loop-i.i c.loop-i.invariant.read c.loop-i-test.false
