use Rattle.sdh_pointer.proofs.Sent.{generator_repeats}
use Rattle.sdh_pointer.proofs.laws.generator_repeats.Goals as goal

pub returns : goal.returns
returns c = generator_repeats
