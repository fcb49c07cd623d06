use Rattle.sdh_outage_cli.proofs.script.settle_with.Goals as goal

pub returns-in-Err-clause-step : goal.returns-in-Err-clause-step
returns-in-Err-clause-step g c = absurd c.in-Err.ensures.stopped.ran.kept
