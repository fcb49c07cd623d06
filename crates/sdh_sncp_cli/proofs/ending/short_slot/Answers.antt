use Rattle.std.proofs.Common.{arith}
use Rattle.sdh_sncp_cli.proofs.Short as short
use Rattle.sdh_sncp_cli.proofs.ending.short_slot.Goals as goal

pub returns : goal.returns
returns c = short.short_slot c.args.first c.args.second (omega arith) (omega arith)
