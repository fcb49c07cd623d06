use Rattle.std.proofs.Common.{arith}
use Rattle.sdh_whatif_cli.proofs.Short.{digits_16, grown}
use Rattle.sdh_whatif_cli.proofs.line.Line.put_small.Goals as goal

pub put_number-requires : goal.put_number-requires
put_number-requires c = omega (arith, c.requires.room, digits_16 c.from.result (omega (arith, c.from.ensures)))

pub returns-clause-short : goal.returns-clause-short
returns-clause-short c = grown _ _ _ 5 c.put_number.ensures (digits_16 c.from.result (omega (arith, c.from.ensures)))
