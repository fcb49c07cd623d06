use Rattle.sdh_pointer.proofs.Settling.{enabled_word_settles}
use Rattle.sdh_pointer.proofs.laws.enabled_word_settles.Goals as goal

pub returns : goal.returns
returns c = enabled_word_settles
