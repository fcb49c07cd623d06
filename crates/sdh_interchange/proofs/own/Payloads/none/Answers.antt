use Rattle.std.proofs.Common.{replicate, ap}
use Rattle.sdh_interchange.proofs.own.Payloads.none.Goals as goal

pub returns-clause-zeros : goal.returns-clause-zeros
returns-clause-zeros c = ap (replicate 16) c.zeros-pieces.ensures
