use Rattle.std.proofs.Common.{sym}
use Rattle.sdh_whatif_cli.proofs.Naming.{cut_at, cut_none}
use Rattle.sdh_whatif_cli.proofs.own.cut.Goals as goal

pub returns-in-Some-clause-cut : goal.returns-in-Some-clause-cut
returns-in-Some-clause-cut c = cut_at c.args.text.now c.in-Some.at (sym c.in-Some.ensures.place)

pub returns-in-None-clause-cut : goal.returns-in-None-clause-cut
returns-in-None-clause-cut c = cut_none c.args.text.now (sym c.in-None.ensures.place)
