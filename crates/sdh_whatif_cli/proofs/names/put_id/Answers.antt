use Rattle.std.proofs.Common.{arith}
use Rattle.sdh_whatif_cli.proofs.Short.{digits_id, grown}
use Rattle.sdh_whatif_cli.proofs.names.put_id.Goals as goal

pub put_number-requires : goal.put_number-requires
put_number-requires c = omega (arith, c.requires.room, digits_id c.from.result (omega (arith, c.from.ensures, c.id.ensures.small)))

pub returns-clause-short : goal.returns-clause-short
returns-clause-short c = grown _ _ _ 2 c.put_number.ensures (digits_id c.from.result (omega (arith, c.from.ensures, c.id.ensures.small)))
