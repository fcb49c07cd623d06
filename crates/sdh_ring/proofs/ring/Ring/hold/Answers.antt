use Rattle.std.proofs.Common.{◌≡◌, sym, subst}
use Rattle.sdh_node.specs.Rings.Held.{HeldRing, node_at}
use Rattle.sdh_node.specs.Rings.Rounds.{world}
use Rattle.sdh_laws.specs.Hearing.Laws.{IsWhole}
use Rattle.sdh_laws.specs.Strangers.Vouched.{IsVouched, IsAside}
use Rattle.sdh_ring.proofs.Whole.{whole_held, vouched_held}
use Rattle.sdh_ring.proofs.There.{there}
use Rattle.sdh_ring.proofs.ring.Ring.hold.Goals as goal
use Rattle.sdh_ring.proofs.ring.Ring.hold.Goals.{After-hold}

held : (c : After-hold) → c.in-Some.nodes ≡ c.args.self.now
held c = there _ c.self.inside.nodes c.in-Some.nodes c.args.self.now c.in-Some.is c.self.view_is

pub returns-clause-whole : goal.returns-clause-whole
returns-clause-whole c = λ f whole.
    subst (λ (r : HeldRing). IsWhole (world r f)) (sym c.hold.ensures)
    (whole_held c.stay_whole.ensures _ f c.args.at.0 c.args.turns c.requires.few
    (subst (λ (r : HeldRing). IsWhole (world r f)) (sym (held c)) whole))

pub returns-clause-vouched : goal.returns-clause-vouched
returns-clause-vouched c = λ aside f clocks is.
    subst (λ (r : HeldRing). IsVouched clocks (world r f)) (sym c.hold.ensures)
    (vouched_held c.vouched_rings_stay.ensures _ f clocks
    (subst (λ (r : HeldRing). IsVouched clocks (world r f)) (sym (held c)) is) c.args.at.0 c.args.turns c.requires.few
    (subst (λ (r : HeldRing). IsAside (node_at r.nodes c.args.at.0).state) (sym (held c)) aside))
