use Rattle.std.proofs.Common.{◌+◌, ◌*◌, ◌≤◌, arith}
use Rattle.sdh_frame.proofs.ByColumns.{by_rate}
use Rattle.sdh_frame.proofs.places.byte_of.Goals as goal

pub returns-clause-some : goal.returns-clause-some
returns-clause-some g c = by_rate (λ m. c.args.column ≤ m * c.args.column) g.row.N c.requires.rate (omega arith) (omega arith)

pub returns-clause-within : goal.returns-clause-within
returns-clause-within g c =
    by_rate (λ m. m * c.args.column + m ≤ 2430 * m) g.row.N c.requires.rate (omega (arith, c.requires.few)) (omega (arith, c.requires.few))
