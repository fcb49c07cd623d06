use Rattle.std.proofs.Common.{refl}
use Rattle.std.proofs.lemmas.List.{map-set}
use Rattle.std.proofs.Math.Seq.{map-set_same}
use Rattle.sdh_plant.specs.Kept.{carried_by}
use Rattle.sdh_plant.proofs.fibre_plant.set_condition.Goals as goal

pub returns-clause-conditions : goal.returns-clause-conditions
returns-clause-conditions c = map-set (λ x. x.condition) _ _ _

pub returns-clause-carried : goal.returns-clause-carried
returns-clause-carried c = map-set_same carried_by _ _ _ c.index-fibres-at.result refl
