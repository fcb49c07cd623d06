use Rattle.sdh_frame.proofs.AuProofs.{writing_keeps}
use Rattle.sdh_frame.proofs.laws.writing_an_au_keeps_the_rest.Goals as goal

pub returns : goal.returns
returns c = writing_keeps
