use Rattle.sdh_outage.proofs.Longest.{longest_is_longest}
use Rattle.sdh_outage.proofs.laws.longest_is_longest.Goals as goal

pub returns : goal.returns
returns c = longest_is_longest
