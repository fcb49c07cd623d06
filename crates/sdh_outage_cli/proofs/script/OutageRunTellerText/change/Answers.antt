use Rattle.std.proofs.Common.{length, ap, sym, subst, ◌∙◌}
use Rattle.sdh_circuits.specs.Provisioning.{Provisioning}
use Rattle.sdh_node.specs.Rings.Rounds.{world}
use Rattle.sdh_owed.proofs.Steps.{alone, changed_circuits, stepped_is}
use Rattle.sdh_outage_cli.specs.Running.{MayListOutages, outage_lines_room}
use Rattle.sdh_outage_cli.proofs.Counting.{ports_changed}
use Rattle.sdh_outage_cli.proofs.Steps.{changed_ready}
use Rattle.sdh_outage_cli.proofs.script.OutageRunTellerText.change.Goals as goal

pub change-requires-clause-prepared : goal.change-requires-clause-prepared
change-requires-clause-prepared g c = c.requires.may.2.1.ring_may.prepared

pub change-requires-clause-steps : goal.change-requires-clause-steps
change-requires-clause-steps g c = alone _ _ _ _ _ _ c.requires.may.2.1.ring_may

pub returns-clause-ok : goal.returns-clause-ok
returns-clause-ok g c =
    c.in_ok-change.ensures.ok ∙ stepped_is c.args.step (world c.args.self.now.ring (g.P.Plant.fibres c.args.plant.now))

pub returns-clause-next : goal.returns-clause-next
returns-clause-next g c number later may =
    let means = g.P.Plant.fibres in
    let w = world c.args.self.now.ring (means c.args.plant.now) in
    let left = world c.change.new.ring (means c.change.new.plant) in
    let is = c.in_ok-change.ensures.ok ∙ stepped_is c.args.step w in (
      subst (λ (p : Provisioning). MayListOutages (length p.circuits) c.args.self.now.listing)
          (sym (changed_circuits c.args.step w left is)) may.0,
      changed_ready number c.args.step w left c.args.self.now.listeners.items.items c.args.self.now.listeners.streams.pairs.items c.requires.other is later may.1,
      may.2 ∙ ports_changed c.args.step w left is,
    )

pub returns-clause-same_room : goal.returns-clause-same_room
returns-clause-same_room g c =
    let means = g.P.Plant.fibres in
    let w = world c.args.self.now.ring (means c.args.plant.now) in
    let left = world c.change.new.ring (means c.change.new.plant) in
    ap (λ (p : Provisioning). outage_lines_room c.args.self.now.listing (length p.circuits))
    (changed_circuits c.args.step w left (c.in_ok-change.ensures.ok ∙ stepped_is c.args.step w))
