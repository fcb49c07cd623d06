use Rattle.sdh_kbytes.proofs.SameWords.{word_tells}
use Rattle.sdh_kbytes.proofs.same.same_word.Goals as goal

pub returns-clause-same : goal.returns-clause-same
returns-clause-same c = word_tells c.is_word.result c.args.left c.args.right c.is_word.ensures
