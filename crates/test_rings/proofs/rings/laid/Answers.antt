use Rattle.std.proofs.Common.{rules, arith}
use Rattle.sdh_ringmap.specs.declared.terms.Rate.TheVariants.{Four}
use Rattle.sdh_ring.proofs.Turns.{prepared_for}
use Rattle.test_rings.proofs.rings.laid.Goals as goal

pub returns-clause-prepared : goal.returns-clause-prepared
returns-clause-prepared g c =
    let n = c.len-nodes.result in
    let ring = c.in_ok-try_new.field-0 in
    prepared_for Four ring.settings.rate n _ (g.P.Plant.fibres c.args.plant.now) (g.P.Plant.fibres c.prepare.new.self)
    (omega (arith, c.len-nodes.ensures.len, c.len-nodes.ensures.enough))
    (omega (arith, c.len-nodes.ensures.len, c.len-nodes.ensures.few)) (search rules) (search rules) (search rules)
