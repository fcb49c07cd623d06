use Rattle.sdh_pointer.proofs.Settling.{normal_word_settles}
use Rattle.sdh_pointer.proofs.laws.normal_word_settles.Goals as goal

pub returns : goal.returns
returns c = normal_word_settles
