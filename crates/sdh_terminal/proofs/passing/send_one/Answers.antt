use Rattle.sdh_ringmap.specs.Rates.{n_of}
use Rattle.sdh_terminal.proofs.passing.send_one.Goals as goal

pub returns-in-Port-clause-source : goal.returns-in-Port-clause-source
returns-in-Port-clause-source g c = c.add.ensures.source (n_of (g.X.Matrix.lines c.args.cross.now).rate)

pub returns-in-Received-clause-source : goal.returns-in-Received-clause-source
returns-in-Received-clause-source g c = c.pass_on.ensures.source c.args.to

pub returns-in-Ais-clause-source : goal.returns-in-Ais-clause-source
returns-in-Ais-clause-source g c = c.send_ais.ensures.source (n_of (g.X.Matrix.lines c.args.cross.now).rate) c.args.to
