use Rattle.std.proofs.lemmas.Result.{IfOk-weaker}
use Rattle.sdh_retime_cli.proofs.top.outcome_of.Goals as goal

pub returns-clause-unsteady : goal.returns-clause-unsteady
returns-clause-unsteady g c =
    IfOk-weaker c.run.result _ _ (λ r h turn is. (c.in-Some.digits.now, c.in-Some.ensures.0, h turn is)) c.run.ensures.unsteady
