use Rattle.sdh_path.proofs.Tallying.{counts_none}
use Rattle.sdh_path.proofs.tally.Tally.new.Goals as goal

pub returns-clause-counts : goal.returns-clause-counts
returns-clause-counts c = counts_none
