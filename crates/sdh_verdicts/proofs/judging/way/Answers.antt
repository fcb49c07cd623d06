use Rattle.std.proofs.Common.{◌≡◌, ◌∙◌, length, take, ap}
use Rattle.sdh_ringmap.specs.Arcs.{arc_between, is_among}
use Rattle.sdh_circuits.specs.Provisioned.{arc_of}
use Rattle.sdh_restoration.specs.Routes.{hops}
use Rattle.sdh_verdicts.proofs.Hops.{hops_same, hops_are}
use Rattle.sdh_verdicts.proofs.judging.way.Goals as goal

pub returns-in-Kept : goal.returns-in-Kept
returns-in-Kept c = λ p are. (
    let n = length c.args.map.now in
    let k = c.args.circuit.now in
    let q = is_among (take c.args.applied.now.many c.args.applied.now.spans) in
    let way : c.hops.result ≡ hops n q (arc_of n k) =
    c.hops.ensures ∙ ap (λ x. hops n q (arc_between n x.0 c.to.result.0)) c.from.ensures
    ∙ ap (λ x. hops n q (arc_between n k.from.0 x.0)) c.to.ensures in
    hops_are n p k c.judge.result c.hops.result c.in-Kept.is (c.judge.ensures p are)
    (way ∙ hops_same n q p (arc_of n k) are.some are.among))
