use Rattle.sdh_parity.proofs.Running.{fresh}
use Rattle.sdh_parity.proofs.pieces.BipSection.new.Goals as goal

pub returns-clause-none : goal.returns-clause-none
returns-clause-none c = fresh c.args.n c.requires
