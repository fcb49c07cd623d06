use Rattle.std.proofs.Common.{ap, ◌∙◌}
use Rattle.std.proofs.lemmas.Result.{err_from_is_err_and}
use Rattle.sdh_ringmap.specs.Rates.{n_of}
use Rattle.sdh_plan.specs.Words.{words}
use Rattle.sdh_plan.specs.Counted.{past_in}
use Rattle.sdh_plan.specs.Steps.{form_faults, form_step, past_faults, after}
use Rattle.sdh_plan.proofs.Checking.{passes, first_fails, second_fails, both_pass}
use Rattle.sdh_plan.proofs.script.next_step.Goals as goal

pub returns-in_err-step-clause-step : goal.returns-in_err-step-clause-step
returns-in_err-step-clause-step c =
    let p = err_from_is_err_and c.from_residual.result c.from_residual.ensures.1 in
    rw (p.1, p.2) (first_fails (form_faults (n_of c.args.rate) c.args.ring.now c.args.circuits.now.circuits (words c.args.text.now))
    (past_faults (past_in c.args.past.now) (form_step (n_of c.args.rate) c.args.ring.now c.args.circuits.now.circuits
    (words c.args.text.now))) _ _ _ c.in_err-step.ensures)

pub returns-clause-step : goal.returns-clause-step
returns-clause-step c =
    both_pass (form_faults (n_of c.args.rate) c.args.ring.now c.args.circuits.now.circuits (words c.args.text.now))
    (past_faults (past_in c.args.past.now))
    (form_step (n_of c.args.rate) c.args.ring.now c.args.circuits.now.circuits (words c.args.text.now)) c.in_ok-step.step
    (λ _. tt) tt c.in_ok-step.ensures c.in_ok-follow.ensures.reason

pub returns-clause-past : goal.returns-clause-past
returns-clause-past c = c.in_ok-follow.ensures.past ∙ ap (after (past_in c.args.past.now)) (passes _ _ _ c.in_ok-step.ensures).1

pub returns-in_err-follow-clause-step : goal.returns-in_err-follow-clause-step
returns-in_err-follow-clause-step c =
    let p = err_from_is_err_and c.from_residual-in_err-follow.result c.from_residual-in_err-follow.ensures.1 in
    rw (p.1, p.2) (second_fails (form_faults (n_of c.args.rate) c.args.ring.now c.args.circuits.now.circuits (words c.args.text.now))
    (past_faults (past_in c.args.past.now))
    (form_step (n_of c.args.rate) c.args.ring.now c.args.circuits.now.circuits (words c.args.text.now)) c.in_ok-step.step
    (λ _. tt) _ _ c.in_ok-step.ensures c.in_err-follow.ensures.reason)
