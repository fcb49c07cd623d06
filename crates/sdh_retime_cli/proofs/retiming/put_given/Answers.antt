use Rattle.std.proofs.Common.{arith}
use Rattle.sdh_retime_cli.proofs.Short.{length-given_line_other}
use Rattle.sdh_retime_cli.proofs.retiming.put_given.Goals as goal

pub put_hex-requires : goal.put_hex-requires
put_hex-requires c = omega (arith, c.requires, length-given_line_other c.args.action c.args.given.now c.in_default.not-Ais)
