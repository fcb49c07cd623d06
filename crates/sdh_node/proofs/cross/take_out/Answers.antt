use Rattle.std.proofs.Common.{length, ap, ◌∙◌}
use Rattle.sdh_terminal.proofs.Waiting.{count_outlets}
use Rattle.sdh_node.proofs.Later.{count_waits}
use Rattle.sdh_node.proofs.cross.take_out.Goals as goal

pub returns-then-EACH_ROUND-clause-room : goal.returns-then-EACH_ROUND-clause-room
returns-then-EACH_ROUND-clause-room g c =
    ap length c.deliver_ports.ensures ∙ count_outlets _ ∙ count_waits c.args.cross.now c.args.ports.now
