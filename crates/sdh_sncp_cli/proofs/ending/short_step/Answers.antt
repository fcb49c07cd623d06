use Rattle.std.proofs.Common.{arith}
use Rattle.sdh_sncp_cli.proofs.Short as short
use Rattle.sdh_sncp_cli.proofs.ending.short_step.Goals as goal

pub returns : goal.returns
returns c = short.short_step c.args.step (omega arith)
