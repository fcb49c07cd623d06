use Rattle.std.proofs.Common.{sym}
use Rattle.sdh_terminal.proofs.Marks.{same-readings}
use Rattle.sdh_terminal.proofs.inlet.Inlet.interpret.Goals as goal

pub returns-else-told-clause-same : goal.returns-else-told-clause-same
returns-else-told-clause-same c = sym (same-readings c.args.self.now.readings)
