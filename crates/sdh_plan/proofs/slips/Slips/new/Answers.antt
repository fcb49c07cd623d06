use Rattle.std.proofs.Common.{refl}
use Rattle.sdh_plan.proofs.Slipping.{slips_none}
use Rattle.sdh_plan.proofs.slips.Slips.new.Goals as goal

pub returns : goal.returns
returns c = slips_none _ 256 refl refl
