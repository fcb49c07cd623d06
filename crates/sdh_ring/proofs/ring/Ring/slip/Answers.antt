use Rattle.std.proofs.Common.{◌≡◌, sym, subst, ◌+◌, ◌≤◌}
use Rattle.sdh_node.specs.Rings.Held.{HeldRing}
use Rattle.sdh_node.specs.Rings.Rounds.{world}
use Rattle.sdh_node.specs.Rings.Clocks.{waiting_at}
use Rattle.sdh_laws.specs.Hearing.Laws.{IsWhole}
use Rattle.sdh_laws.specs.Strangers.Vouched.{IsVouched}
use Rattle.sdh_ring.proofs.Whole.{whole_slipped, vouched_slipped}
use Rattle.sdh_ring.proofs.There.{there}
use Rattle.sdh_ring.proofs.ring.Ring.slip.Goals as goal
use Rattle.sdh_ring.proofs.ring.Ring.slip.Goals.{After-slip}

held : (c : After-slip) → c.in-Some.nodes ≡ c.args.self.now
held c = there _ c.self.inside.nodes c.in-Some.nodes c.args.self.now c.in-Some.is c.self.view_is

few : (c : After-slip) → waiting_at c.in-Some.nodes c.args.port + c.args.count ≤ 16
few c = subst (λ (r : HeldRing). waiting_at r c.args.port + c.args.count ≤ 16) (sym (held c)) c.requires.few

pub returns-clause-whole : goal.returns-clause-whole
returns-clause-whole c = λ f whole.
    subst (λ (r : HeldRing). IsWhole (world r f)) (sym c.slip.ensures)
    (whole_slipped c.stay_whole.ensures _ f c.args.port c.args.turn c.args.count (few c)
    (subst (λ (r : HeldRing). IsWhole (world r f)) (sym (held c)) whole))

pub returns-clause-vouched : goal.returns-clause-vouched
returns-clause-vouched c = λ f clocks vouched.
    subst (λ (r : HeldRing). IsVouched clocks (world r f)) (sym c.slip.ensures)
    (vouched_slipped c.vouched_rings_stay.ensures _ f clocks
    (subst (λ (r : HeldRing). IsVouched clocks (world r f)) (sym (held c)) vouched) c.args.port c.args.turn c.args.count
    (few c))
