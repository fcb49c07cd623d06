use Rattle.sdh_elastic.proofs.Runs.{words_tell_actions}
use Rattle.sdh_elastic.proofs.laws.words_tell_actions.Goals as goal

pub returns : goal.returns
returns c = words_tell_actions
