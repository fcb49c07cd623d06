use Rattle.std.proofs.Common.{ap, sym, subst, ◌∙◌, ◌≡◌, ◌+◌, ◌≤◌, false, length}
use Rattle.std.specs.Prelude.{All}
use Rattle.sdh_plant.specs.Fibres.{IsPrepared}
use Rattle.sdh_rounds.specs.Held.{world}
use Rattle.sdh_rounds.specs.Runs.{IsRound}
use Rattle.sdh_rounds.specs.Faults.{BreaksRound}
use Rattle.sdh_rounds.proofs.Rings.{ran, prepared_after, prepared_hears, all_heard}
use Rattle.sdh_rounds.proofs.Breaking.{fits_with, count_heard, count_some, count_sent, count_off, breaks_hearing, breaks_sending}
use Rattle.sdh_rounds.proofs.Breaking.{both_causes, fails_round, runs_round}
use Rattle.sdh_rounds.proofs.ring.StationRing.round.Goals as goal

pub invariant_of-self : goal.invariant_of-self
invariant_of-self g c =
    let inv = c.self.invariant in
    record {
      arrived = c.hear.ensures.rate ∙ inv.arrived;
      west = inv.west;
      east = inv.east;
      ring = fits_with _ c.hear.new.nodes.items _ _ _ inv.ring (count_some g.N.Station.kind _ _ _ _ _ c.in_err-hear.ensures.err);
    }

pub returns-in_err-hear : goal.returns-in_err-hear
returns-in_err-hear g c =
    let st = g.N.Station.kind in
    let f = g.P.Plant.fibres c.args.plant.now in
    let enough : 2 ≤ length c.self.inside.map = subst (λ r. 2 ≤ length r.ids) (sym c.self.view_is) c.requires.prepared.enough in
    fails_round st _ g.P.Plant.exact _ _ _ _ _ c.from_residual.result c.from_residual.ensures.1
    (subst (λ r. BreaksRound st (world r f) (world (record {
      settings = c.self.inside.settings;
      ids = c.self.inside.map;
      circuits = c.self.inside.circuits;
      nodes = c.hear.new.nodes.items;
      moment = c.self.inside.present.0;
      rounds = c.self.inside.rounds;
      broken = _;
    }) (g.P.Plant.fibres c.hear.new.plant))) c.self.view_is
    (breaks_hearing st _ f _ c.hear.new.nodes.items c.self.invariant.ring.size enough c.in_err-hear.ensures.err))
    c.in_err-hear.ensures.cause

pub send_all-requires-clause-prepared : goal.send_all-requires-clause-prepared
send_all-requires-clause-prepared g c =
    let st = g.N.Station.kind in
    let inv = c.self.invariant in
    let f = g.P.Plant.fibres c.args.plant.now in
    let now = g.P.Plant.fibres c.hear.new.plant in
    let was = subst (λ r. IsPrepared r.settings.rate (length r.ids) f) (sym c.self.view_is) c.requires.prepared in
    let hears = c.in_ok-hear.ensures.ok in
    let size = count_heard st _ _ _ _ _ hears ∙ inv.ring.size in
    subst (λ x. IsPrepared x (length c.hear.new.nodes.items) now) (sym inv.west)
    (subst (λ n. IsPrepared c.self.inside.settings.rate n now) (sym size) (prepared_hears st _ _ _ f _ _ _ hears was))

pub send_all-requires-clause-rate : goal.send_all-requires-clause-rate
send_all-requires-clause-rate g c =
    let st = g.N.Station.kind in
    let were : All (λ n. g.N.Station.rate n ≡ c.self.inside.settings.rate) c.self.inside.nodes.items =
    subst (λ r. All (λ n. g.N.Station.rate n ≡ r.settings.rate) r.nodes) (sym c.self.view_is) c.requires.rates in
    subst (λ x. All (λ n. g.N.Station.rate n ≡ x) c.hear.new.nodes.items) (sym c.self.invariant.west)
    (subst (All (λ n. g.N.Station.rate n ≡ c.self.inside.settings.rate)) (sym c.in_ok-hear.ensures.ok.nodes)
    (all_heard st (λ n. g.N.Station.rate n ≡ c.self.inside.settings.rate) (λ d a n h. g.met.N.Station.told_rate d a n ∙ h)
    c.in_ok-hear.ensures.ok.arrivals c.self.inside.nodes.items were))

pub send_all-requires-clause-may : goal.send_all-requires-clause-may
send_all-requires-clause-may g c =
    let st = g.N.Station.kind in
    let may = g.N.Station.MayRun c.self.inside.present.0 in
    let were : All may c.self.inside.nodes.items =
    subst (λ r. All (g.N.Station.MayRun r.moment) r.nodes) (sym c.self.view_is) c.requires.may in
    subst (All may) (sym c.in_ok-hear.ensures.ok.nodes)
    (all_heard st may (λ d a n h. g.met.N.Station.told_may c.self.inside.present.0 d a n h) c.in_ok-hear.ensures.ok.arrivals
    c.self.inside.nodes.items were)

pub invariant_of-self-in_err-send_all : goal.invariant_of-self-in_err-send_all
invariant_of-self-in_err-send_all g c =
    let st = g.N.Station.kind in
    let inv = c.self.invariant in
    record {
      arrived = c.hear.ensures.rate ∙ inv.arrived;
      west = c.send_all.ensures.west ∙ inv.west;
      east = c.send_all.ensures.east ∙ inv.east;
      ring = fits_with _ c.send_all.new.nodes.items _ _ _ inv.ring
          (count_off st _ _ _ _ _ c.in_err-send_all.ensures.err ∙ count_heard st _ _ _ _ _ c.in_ok-hear.ensures.ok);
    }

pub returns-in_err-send_all : goal.returns-in_err-send_all
returns-in_err-send_all g c =
    let st = g.N.Station.kind in
    let inv = c.self.invariant in
    let f = g.P.Plant.fibres c.args.plant.now in
    let hears = c.in_ok-hear.ensures.ok in
    let late = c.in_err-send_all.ensures.cause in
    let soon = c.in_ok-hear.ensures.cause in
    fails_round st _ g.P.Plant.exact _ _ _ _ _ c.from_residual-in_err-send_all.result c.from_residual-in_err-send_all.ensures.1
    (subst (λ r. BreaksRound st (world r f) (world (record {
      settings = c.self.inside.settings;
      ids = c.self.inside.map;
      circuits = c.self.inside.circuits;
      nodes = c.send_all.new.nodes.items;
      moment = c.self.inside.present.0;
      rounds = c.self.inside.rounds;
      broken = _;
    }) (g.P.Plant.fibres c.send_all.new.plant))) c.self.view_is
    (breaks_sending st _ f _ _ c.hear.new.nodes.items c.send_all.new.nodes.items inv.ring.size hears c.in_err-send_all.ensures.err))
    (both_causes _ _ _ _ _ soon late)

pub invariant_of-self-2 : goal.invariant_of-self-2
invariant_of-self-2 g c =
    let st = g.N.Station.kind in
    let inv = c.self.invariant in
    record {
      arrived = c.hear.ensures.rate ∙ inv.arrived;
      west = c.send_all.ensures.west ∙ inv.west;
      east = c.send_all.ensures.east ∙ inv.east;
      ring = fits_with _ c.send_all.new.nodes.items _ _ _ inv.ring
          (count_sent st _ _ _ c.in_ok-send_all.ensures.nodes ∙ count_heard st _ _ _ _ _ c.in_ok-hear.ensures.ok);
    }

pub returns : goal.returns
returns g c =
    let st = g.N.Station.kind in
    let inv = c.self.invariant in
    let f = g.P.Plant.fibres c.args.plant.now in
    let whole = ap (λ r. r.broken) c.self.view_is ∙ c.requires.whole in
    let size : length c.args.self.now.nodes ≡ length c.args.self.now.ids =
    subst (λ r. length r.nodes ≡ length r.ids) c.self.view_is inv.ring.size in
    let is : IsRound st (world c.args.self.now f) (world (record {
      settings = c.self.inside.settings;
      ids = c.self.inside.map;
      circuits = c.self.inside.circuits;
      nodes = c.send_all.new.nodes.items;
      moment = c.self.inside.present.0;
      rounds = c.self.inside.rounds + 1;
      broken = false;
    }) (g.P.Plant.fibres c.send_all.new.plant)) =
    subst (λ r. IsRound st (world r f) (world (record {
      settings = c.self.inside.settings;
      ids = c.self.inside.map;
      circuits = c.self.inside.circuits;
      nodes = c.send_all.new.nodes.items;
      moment = c.self.inside.present.0;
      rounds = c.self.inside.rounds + 1;
      broken = false;
    }) (g.P.Plant.fibres c.send_all.new.plant))) c.self.view_is
    (ran st _ f _ _ c.hear.new.nodes.items c.send_all.new.nodes.items whole inv.ring.size c.in_ok-hear.ensures.ok
    c.in_ok-send_all.ensures.fibres c.in_ok-send_all.ensures.nodes) in
    runs_round st g.P.Plant.exact _ _ _ _ _ is (prepared_after st c.args.self.now f _ size c.requires.prepared is)
    c.in_ok-hear.ensures.cause c.in_ok-send_all.ensures.cause
