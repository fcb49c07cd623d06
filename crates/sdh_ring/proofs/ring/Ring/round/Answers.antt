use Rattle.std.proofs.Common.{subst}
use Rattle.std.proofs.lemmas.Result.{on_ok_weaker, on_err_weaker}
use Rattle.sdh_node.specs.Stations.{adm}
use Rattle.sdh_rounds.specs.Outcome.{IsOneRound}
use Rattle.sdh_node.specs.Rings.Held.{HeldRing}
use Rattle.sdh_node.specs.Rings.Rounds.{world}
use Rattle.sdh_laws.specs.Carrying.Windows.{layout_in, HasCircuits}
use Rattle.sdh_ring.proofs.Breaking.{breaks_clocks}
use Rattle.sdh_ring.proofs.There.{there}
use Rattle.sdh_ring.proofs.ring.Ring.round.Goals as goal

pub returns : goal.returns
returns g c =
    let f = g.P.Plant.fibres c.args.plant.now in
    let left = world c.round.new.self (g.P.Plant.fibres c.round.new.plant) in
    let is = there _ c.self.inside.nodes c.in-Some.nodes c.args.self.now c.in-Some.is c.self.view_is in
    let one = subst (λ (r : HeldRing). IsOneRound adm g.P.Plant.exact (world r f) c.round.result left
    (g.P.Plant.faults c.args.plant.now) (g.P.Plant.faults c.round.new.plant)) is c.round.ensures in
    let fit = subst (λ (r : HeldRing). HasCircuits (layout_in r)) is c.circuits_fit.ensures in
    record {
      ok = one.ok;
      prepared = one.prepared;
      signals = on_ok_weaker c.round.result (λ is whole. c.whole_rounds_go_as_signals.ensures _ _ whole is) one.ok;
      rest = on_ok_weaker c.round.result (λ is clocks rests. c.rest_goes_on.ensures _ _ is clocks rests) one.ok;
      strangers = on_ok_weaker c.round.result (λ is. c.rounds_keep_strangers_out.ensures _ _ fit is) one.ok;
      err = one.err;
      broken = one.broken;
      breaks = one.breaks;
      clocks = on_err_weaker c.round.result (λ b. breaks_clocks _ _ b) one.breaks;
      later = one.later;
      failed = one.failed;
      counted = one.counted;
    }
