use Rattle.std.proofs.Common.{ℕ, List, refl, ap, ◌∙◌, Some}
use Rattle.std.proofs.lemmas.List.{map-set}
use Rattle.std.proofs.Math.Seq.{map-set_same}
use Rattle.std.specs.Prelude.{slice_set}
use Rattle.sdh_frame.specs.Sizes.{Frame}
use Rattle.sdh_plant.specs.Kept.{carried_by, carried}
use Rattle.sdh_plant.proofs.fibre_plant.store_in_exchange.Goals as goal

pub returns-clause-conditions : goal.returns-clause-conditions
returns-clause-conditions c = map-set_same (λ x. x.condition) _ _ _ c.index-fibres-at.result refl

pub returns-clause-carried : goal.returns-clause-carried
returns-clause-carried c =
    map-set carried_by _ _ _
    ∙ ap (λ (b : List ℕ). slice_set (carried c.args.fibres.now) c.args.at (Some b)) (ap (λ (f : Frame). f.bytes) c.swap.ensures.x_after)
