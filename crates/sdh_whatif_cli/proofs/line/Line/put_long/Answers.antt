use Rattle.std.proofs.Common.{arith}
use Rattle.sdh_whatif_cli.proofs.Short.{digits_64, grown}
use Rattle.sdh_whatif_cli.proofs.line.Line.put_long.Goals as goal

pub put_number-requires : goal.put_number-requires
put_number-requires c = omega (arith, c.requires.room, digits_64 c.args.number (omega (arith, c.ranges.number)))

pub returns-clause-short : goal.returns-clause-short
returns-clause-short c = grown _ _ _ 20 c.put_number.ensures (digits_64 c.args.number (omega (arith, c.ranges.number)))
