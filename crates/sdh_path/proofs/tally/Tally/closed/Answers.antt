use Rattle.std.proofs.Common.{arith}
use Rattle.sdh_path.proofs.Tallying.{counts_closed}
use Rattle.sdh_path.proofs.tally.Tally.closed.Goals as goal

pub returns-clause-counts : goal.returns-clause-counts
returns-clause-counts c =
    λ run is. counts_closed run c.args.self is
    (omega arith) c.b3_violations.result c.label_violations.result c.b3_violations.ensures.first c.b3_violations.ensures.later c.label_violations.ensures.value
