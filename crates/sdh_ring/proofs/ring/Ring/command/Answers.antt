use Rattle.std.proofs.Common.{◌≡◌, sym, subst}
use Rattle.sdh_node.specs.Rings.Held.{HeldRing}
use Rattle.sdh_node.specs.Rings.Rounds.{world}
use Rattle.sdh_laws.specs.Hearing.Laws.{IsWhole}
use Rattle.sdh_laws.specs.Strangers.Vouched.{IsVouched}
use Rattle.sdh_ring.proofs.Whole.{whole_commanded, vouched_commanded}
use Rattle.sdh_ring.proofs.There.{there}
use Rattle.sdh_ring.proofs.ring.Ring.command.Goals as goal
use Rattle.sdh_ring.proofs.ring.Ring.command.Goals.{After-command}

held : (c : After-command) → c.in-Some.nodes ≡ c.args.self.now
held c = there _ c.self.inside.nodes c.in-Some.nodes c.args.self.now c.in-Some.is c.self.view_is

pub returns-clause-whole : goal.returns-clause-whole
returns-clause-whole c = λ f whole.
    subst (λ (r : HeldRing). IsWhole (world r f)) (sym c.command.ensures)
    (whole_commanded c.stay_whole.ensures _ f c.args.at.0 c.args.side c.args.command
    (subst (λ (r : HeldRing). IsWhole (world r f)) (sym (held c)) whole))

pub returns-clause-vouched : goal.returns-clause-vouched
returns-clause-vouched c = λ f clocks is.
    subst (λ (r : HeldRing). IsVouched clocks (world r f)) (sym c.command.ensures)
    (vouched_commanded c.vouched_rings_stay.ensures _ f clocks
    (subst (λ (r : HeldRing). IsVouched clocks (world r f)) (sym (held c)) is) c.args.at.0 c.args.side c.args.command)
