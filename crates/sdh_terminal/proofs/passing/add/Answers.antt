use Rattle.sdh_terminal.proofs.passing.add.Goals as goal

pub returns-in-None-clause-source : goal.returns-in-None-clause-source
returns-in-None-clause-source c = λ n. c.send_ais.ensures.source n c.args.to
