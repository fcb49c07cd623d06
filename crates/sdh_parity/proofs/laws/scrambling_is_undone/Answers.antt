use Rattle.sdh_parity.proofs.Scrambled.{scrambled-twice, take-scrambled}
use Rattle.sdh_parity.proofs.laws.scrambling_is_undone.Goals as goal

pub returns-clause-back : goal.returns-clause-back
returns-clause-back c = scrambled-twice

pub returns-clause-clear : goal.returns-clause-clear
returns-clause-clear c = take-scrambled
