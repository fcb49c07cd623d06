use Rattle.std.proofs.Common.{◌≡◌, false, length, ap, sym, ◌∙◌, subst}
use Rattle.sdh_plant.specs.Fibres.{IsPrepared}
use Rattle.sdh_node.specs.Rings.Held.{HeldRing}
use Rattle.sdh_node.specs.Rings.Rounds.{World, world}
use Rattle.sdh_rounds.proofs.Runs.{held_run}
use Rattle.test_rings.proofs.rings.settle.Goals as goal
use Rattle.sdh_node.specs.Stations.{adm}

pub returns-in-Ok-clause-whole : goal.returns-in-Ok-clause-whole
returns-in-Ok-clause-whole g c =
    let s = c.in-Ok.ensures.step.outcome in
    let w = world c.args.ring.now (g.P.Plant.fibres c.args.plant.now) in
    ap (λ (v : World). v.ring.broken) s.left_is ∙ ap (λ (r : HeldRing). r.broken) (held_run adm s.rounds w) ∙ c.requires.whole

pub returns-in-Ok-clause-prepared : goal.returns-in-Ok-clause-prepared
returns-in-Ok-clause-prepared g c =
    let s = c.in-Ok.ensures.step.outcome in
    let w = world c.args.ring.now (g.P.Plant.fibres c.args.plant.now) in
    let held = ap (λ (v : World). v.ring) s.left_is ∙ held_run adm s.rounds w in
    let whole : c.settle.new.self.broken ≡ false = ap (λ (r : HeldRing). r.broken) held ∙ c.requires.whole in
    subst (λ (r : HeldRing). IsPrepared r.settings.rate (length r.ids) (g.P.Plant.fibres c.settle.new.plant)) (sym held)
    (c.in-Ok.ensures.step.prepared whole)
