use Rattle.std.proofs.Common.{sym, subst, length}
use Rattle.sdh_plant.specs.Calls.{prepared}
use Rattle.sdh_node.specs.Rings.Held.{HeldRing}
use Rattle.sdh_node.specs.Rings.Rounds.{world}
use Rattle.sdh_laws.specs.Hearing.Laws.{IsWhole}
use Rattle.sdh_laws.specs.Strangers.Vouched.{IsVouched}
use Rattle.sdh_ring.proofs.ring.Ring.try_new.Goals as goal

pub returns-clause-whole : goal.returns-clause-whole
returns-clause-whole c = λ f honest.
    subst (λ (r : HeldRing). IsWhole (world r (prepared c.args.settings.rate (length c.args.map) f)))
    (sym c.in_ok-nodes.ensures)
    (c.new_worlds_are_whole.ensures c.args.settings c.args.map c.args.circuits f c.len.ensures.ids honest)

pub returns-clause-vouched : goal.returns-clause-vouched
returns-clause-vouched c = λ f clocks honest.
    subst (λ (r : HeldRing). IsVouched clocks (world r (prepared c.args.settings.rate (length c.args.map) f)))
    (sym c.in_ok-nodes.ensures)
    (c.vouched_rings_stay.ensures.new c.args.settings c.args.map c.args.circuits f clocks c.len.ensures.ids honest)
