use Rattle.sdh_sncp.proofs.Hearing.{comes_is_norm}
use Rattle.sdh_sncp.proofs.laws.comes_is_norm.Goals as goal

pub returns : goal.returns
returns c = comes_is_norm
