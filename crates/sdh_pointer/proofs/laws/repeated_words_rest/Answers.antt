use Rattle.sdh_pointer.proofs.Lasting.{repeated_words_rest}
use Rattle.sdh_pointer.proofs.laws.repeated_words_rest.Goals as goal

pub returns : goal.returns
returns c = repeated_words_rest
