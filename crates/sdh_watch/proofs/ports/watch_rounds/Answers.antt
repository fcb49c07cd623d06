use Rattle.std.proofs.Common.{[], length, refl, ap, sym, subst, ◌∙◌, arith, rules}
use Rattle.sdh_circuits.specs.Provisioning.{Provisioning}
use Rattle.sdh_plant.specs.Fibres.{IsPrepared}
use Rattle.sdh_node.specs.Rings.Held.{HeldRing}
use Rattle.sdh_node.specs.Rings.Rounds.{world}
use Rattle.sdh_rounds.proofs.Stepping.{err_by}
use Rattle.sdh_watch.specs.Ports.{AreWatching}
use Rattle.sdh_rounds.proofs.Settling.{held_none}
use Rattle.sdh_watch.proofs.Leading.{held_more, shown_none, shown_more, few_more, few_enough}
use Rattle.sdh_watch.proofs.ports.watch_rounds.Goals as goal

pub rounds-init : goal.rounds-init
rounds-init g c =
    let means = g.P.Plant.fibres in
    record {
      shown =
          shown_none (world c.args.ring.now (means c.args.plant.now)) _
          (subst (λ (p : Provisioning). AreWatching p.circuits
          (λ port. []) c.begin_anew.new.watches.items) c.circuits.ensures c.begin_anew.ensures.new);
      few = c.begin_anew.ensures.few;
      held = held_none c.args.ring.now;
      prepared = c.requires.prepared;
      later = omega arith;
      none = λ _. refl;
    }

pub round-requires-clause-prepared : goal.round-requires-clause-prepared
round-requires-clause-prepared g c =
    subst (λ (r : HeldRing). IsPrepared r.settings.rate (length r.ids) (g.P.Plant.fibres c.rounds.plant))
    (sym c.rounds.invariant.held) c.rounds.invariant.prepared

pub round-requires-clause-whole : goal.round-requires-clause-whole
round-requires-clause-whole g c = ap (λ (r : HeldRing). r.broken) c.rounds.invariant.held ∙ c.requires.whole

pub round-requires-clause-room : goal.round-requires-clause-room
round-requires-clause-room g c = let h = ap (λ (r : HeldRing). r.rounds) c.rounds.invariant.held in omega (arith, h, c.requires.room)

pub look_all-requires-clause-many : goal.look_all-requires-clause-many
look_all-requires-clause-many g c =
    let means = g.P.Plant.fibres in
    let held =
    held_more (world c.args.ring.now (means c.args.plant.now)) (world c.rounds.ring (means c.rounds.plant))
    (world c.round.new.self (means c.round.new.plant)) c.rounds._turn c.rounds.invariant.held c.in_ok-round.ensures.ok in
    c.rounds.invariant.shown.watching.many ∙ sym (ap (λ (r : HeldRing). length r.circuits.circuits) held)

pub look_all-requires-clause-few : goal.look_all-requires-clause-few
look_all-requires-clause-few g c = few_enough c.rounds._turn 999999 c.rounds.watches.items (omega arith) c.rounds.invariant.few

pub rounds-preserved : goal.rounds-preserved
rounds-preserved g c =
    let means = g.P.Plant.fibres in
    let inv = c.rounds.invariant in
    let w = world c.args.ring.now (means c.args.plant.now) in
    let mid = world c.rounds.ring (means c.rounds.plant) in
    let left = world c.round.new.self (means c.round.new.plant) in
    let is = c.in_ok-round.ensures.ok in
    record {
      shown =
          shown_more c.rounds._turn w mid left c.rounds.watches.items c.look_all.new.watches.items inv.shown is c.look_all.ensures.many c.look_all.ensures.each;
      few =
          few_more left.ring c.rounds._turn c.rounds.watches.items c.look_all.new.watches.items inv.few c.look_all.ensures.many c.look_all.ensures.each;
      held = held_more w mid left c.rounds._turn inv.held is;
      prepared =
          subst (λ (r : HeldRing). IsPrepared r.settings.rate (length r.ids)
          (means c.round.new.plant)) inv.held c.in_ok-round.ensures.prepared;
      later = omega (arith, inv.later, c.round.ensures.later);
      none = search rules;
    }

pub returns-in_err-round-clause-err : goal.returns-in_err-round-clause-err
returns-in_err-round-clause-err g c =
    let shown = c.rounds.invariant.shown in
    err_by c.from_residual.result _ (record {
      ran = c.rounds._turn;
      few = omega arith;
      last = world c.rounds.ring (g.P.Plant.fibres c.rounds.plant);
      heard = shown.heard;
      rounds = shown.rounds;
      off =
          c.in_err-round.ensures.err;
    })
