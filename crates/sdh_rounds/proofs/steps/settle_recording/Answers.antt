use Rattle.std.proofs.Common.{◌≡◌, ℕ, ◌+◌, ◌∙◌, refl, ap, sym, subst, arith, inl, inr}
use Rattle.std.specs.Prelude.{if◌then◌else◌}
use Rattle.std.proofs.lemmas.Bool.{false≢true}
use Rattle.sdh_rounds.specs.Held.{HeldRing, World, world}
use Rattle.sdh_rounds.specs.Quiet.{is_calm}
use Rattle.sdh_rounds.specs.Observed.{IsStopped}
use Rattle.sdh_rounds.proofs.Settling.{GoesOn, held_went, held_none, counts_on, less_counted, prepared_back}
use Rattle.sdh_rounds.proofs.Observing.{looked_more, one_more, observes_none, observes_on, hears, ran_some, ran_last}
use Rattle.sdh_rounds.proofs.Stepping.{err_by, over_of, fails_step, ends_step, runs_out}
use Rattle.sdh_rounds.proofs.steps.settle_recording.Goals as goal

pub rounds-init : goal.rounds-init
rounds-init g c = record {
  observes =
      observes_none g.R.Node.Station.kind
      (λ at k. g.O.Recorder.Records c.args.recorder.now c.args.log.now at k c.args.recorder.now c.args.log.now) _
      (let enough = c.requires.prepared.enough in omega arith) c.requires.ready;
  held = held_none (g.R.RunsRounds.held c.args.ring.now);
  prepared = c.requires.prepared;
  small = omega arith;
  later = omega arith;
  none = λ _. refl;
}

pub note-requires : goal.note-requires
note-requires g c =
    let first = c.args.recorder.now in
    let begun = c.args.log.now in
    let x =
    one_more g.R.Node.Station.kind (λ at k. g.O.Recorder.Records first begun at k c.rounds.recorder c.rounds.log) _ _
    (world (g.R.RunsRounds.held c.round.new.self) (g.P.Plant.fibres c.round.new.plant)) c.rounds._turn c.rounds.calm (omega arith)
    (λ at bt agree kept. g.met.O.Recorder.same first begun at bt c.rounds._turn c.rounds.recorder c.rounds.log agree kept)
    c.rounds.invariant.observes c.in-Ok.ensures.ok in
    (first, begun, x.0, x.1, x.2, x.3, x.4)

pub rounds-preserved : goal.rounds-preserved
rounds-preserved g c =
    let st = g.R.Node.Station.kind in
    let k = c.rounds._turn in
    let first = c.args.recorder.now in
    let begun = c.args.log.now in
    let now = g.R.RunsRounds.held c.rounds.ring in
    let after = g.R.RunsRounds.held c.round.new.self in
    let counted : c.calm_rounds-calm.result ≡ (if is_calm st after.nodes then c.rounds.calm + 1 else 0) =
    c.calm_rounds-calm.ensures
    ∙ ap (λ b. if b then c.rounds.calm + 1 else 0) (c.is_calm.ensures ∙ ap (λ r. is_calm st r.nodes) c.stations.ensures) in
    let looked =
    looked_more st (λ at j. g.O.Recorder.Records first begun at j c.rounds.recorder c.rounds.log)
    (λ at j. g.O.Recorder.Records first begun at j c.note.new.self c.note.new.log) _
    (world now (g.P.Plant.fibres c.rounds.plant)) (world after (g.P.Plant.fibres c.round.new.plant)) k c.rounds.calm
    c.calm_rounds-calm.result (omega arith)
    (λ at bt agree kept. g.met.O.Recorder.same first begun at bt k c.rounds.recorder c.rounds.log agree kept)
    (λ at ran same kept. c.in_ok-note.ensures.goes first begun at k ran same kept) c.rounds.invariant.observes c.in-Ok.ensures.ok counted in
    let inv = c.rounds.invariant in
    record {
      observes =
          observes_on st (λ at j. g.O.Recorder.Records first begun at j c.note.new.self c.note.new.log) _ _ k c.calm_rounds-calm.result looked
          (λ w. false≢true (c.if-is_over.ensures.1 (over_of (sym c.stations-in-rounds.ensures) w)));
      held = held_went st _ _ (k + 1) c.calm_rounds-calm.result looked.went;
      prepared = prepared_back (g.R.RunsRounds.held c.args.ring.now) now _ _ _ inv.held c.in-Ok.ensures.prepared;
      small = less_counted _ _ _ _ counted inv.small;
      later = let e = c.round.ensures.later in omega (arith, inv.later);
      none = λ x. c.in-Ok.ensures.counted.none x (λ e. cc) ∙ inv.none x;
    }

pub is_over-requires : goal.is_over-requires
is_over-requires g c =
    let now = world (g.R.RunsRounds.held c.rounds.ring) (g.P.Plant.fibres c.rounds.plant) in
    let held = counts_on g.R.Node.Station.kind now _ c.in-Ok.ensures.ok in
    let same = ap (λ (r : HeldRing g.row.R-Node.Denot). r.rounds) c.stations-in-rounds.ensures in
    omega arith

pub returns-in_default-clause-step : goal.returns-in_default-clause-step
returns-in_default-clause-step g c =
    let inv = c.rounds.invariant in
    let failed = c.in_default.ensures in
    fails_step g.R.Node.Station.kind g.P.Plant.exact _ _ _ c.args.limit c.rounds._turn c.rounds.calm _ (g.P.Plant.faults c.rounds.plant) _
    inv.observes.on (omega arith) failed.breaks inv.later inv.none failed.later failed.failed (λ x. failed.counted.one x refl)
    _ refl

pub returns-in_default-clause-begun : goal.returns-in_default-clause-begun
returns-in_default-clause-begun g c = record {
  mid = world (g.R.RunsRounds.held c.rounds.ring) (g.P.Plant.fibres c.rounds.plant);
  ran =
      ran_some g.R.Node.Station.kind
      (λ at k. g.O.Recorder.Records c.args.recorder.now c.args.log.now at k c.rounds.recorder c.rounds.log) _ _ c.rounds._turn c.rounds.calm
      c.rounds.invariant.observes c.args.limit (omega arith);
  next = inr c.in_default.ensures.err;
}

pub returns-in_err-note-clause-stopped : goal.returns-in_err-note-clause-stopped
returns-in_err-note-clause-stopped g c =
    let st = g.R.Node.Station.kind in
    let k = c.rounds._turn in
    let first = c.args.recorder.now in
    let begun = c.args.log.now in
    let inv = c.rounds.invariant in
    let now = g.R.RunsRounds.held c.rounds.ring in
    let after = g.R.RunsRounds.held c.round.new.self in
    let calm = if is_calm st after.nodes then c.rounds.calm + 1 else 0 in
    let stops : (ℕ → World g.row.R-Node.Denot) → ℕ → Type 0 = λ at j. g.O.Recorder.Stops first begun at j c.note.new.self c.note.new.log in
    let looked =
    looked_more st (λ at j. g.O.Recorder.Records first begun at j c.rounds.recorder c.rounds.log) stops _
    (world now (g.P.Plant.fibres c.rounds.plant)) (world after (g.P.Plant.fibres c.round.new.plant)) k c.rounds.calm calm (omega arith)
    (λ at bt agree kept. g.met.O.Recorder.same first begun at bt k c.rounds.recorder c.rounds.log agree kept)
    (λ at ran same kept. c.in_err-note.ensures.stops first begun at k ran same kept) inv.observes c.in-Ok.ensures.ok refl in
    let stopped : IsStopped st g.P.Plant.exact stops (world (g.R.RunsRounds.held c.args.ring.now) (g.P.Plant.fibres c.args.plant.now))
    c.args.limit (world after (g.P.Plant.fibres c.round.new.plant)) (g.P.Plant.faults c.args.plant.now)
    (g.P.Plant.faults c.round.new.plant) = record {
      ran = ran_last st stops _ _ (k + 1) calm looked c.args.limit (omega arith);
      prepared = prepared_back (g.R.RunsRounds.held c.args.ring.now) now _ _ _ inv.held c.in-Ok.ensures.prepared;
      later = let e = c.round.ensures.later in omega (arith, inv.later);
      none = λ x. c.in-Ok.ensures.counted.none x (λ e. cc) ∙ inv.none x;
    } in
    err_by _ _ stopped

pub returns-then-is_over-clause-heard : goal.returns-then-is_over-clause-heard
returns-then-is_over-clause-heard g c =
    let st = g.R.Node.Station.kind in
    let k = c.rounds._turn in
    let first = c.args.recorder.now in
    let begun = c.args.log.now in
    let now = g.R.RunsRounds.held c.rounds.ring in
    let after = g.R.RunsRounds.held c.round.new.self in
    let counted : c.calm_rounds-calm.result ≡ (if is_calm st after.nodes then c.rounds.calm + 1 else 0) =
    c.calm_rounds-calm.ensures
    ∙ ap (λ b. if b then c.rounds.calm + 1 else 0) (c.is_calm.ensures ∙ ap (λ r. is_calm st r.nodes) c.stations.ensures) in
    let looked =
    looked_more st (λ at j. g.O.Recorder.Records first begun at j c.rounds.recorder c.rounds.log)
    (λ at j. g.O.Recorder.Records first begun at j c.note.new.self c.note.new.log) _
    (world now (g.P.Plant.fibres c.rounds.plant)) (world after (g.P.Plant.fibres c.round.new.plant)) k c.rounds.calm
    c.calm_rounds-calm.result (omega arith)
    (λ at bt agree kept. g.met.O.Recorder.same first begun at bt k c.rounds.recorder c.rounds.log agree kept)
    (λ at ran same kept. c.in_ok-note.ensures.goes first begun at k ran same kept) c.rounds.invariant.observes c.in-Ok.ensures.ok counted in
    hears st (λ at j. g.O.Recorder.Records first begun at j c.note.new.self c.note.new.log) _ _ (k + 1) c.calm_rounds-calm.result looked
    c.args.limit (omega arith) (over_of c.stations-in-rounds.ensures (c.is_over.ensures.0 c.if-is_over.true))

pub returns-then-is_over-clause-step : goal.returns-then-is_over-clause-step
returns-then-is_over-clause-step g c =
    let inv = c.rounds.invariant in
    let after = c.in-Ok.ensures in
    ends_step g.R.Node.Station.kind g.P.Plant.exact _ _ c.args.limit _ _ (let enough = c.requires.prepared.enough in omega arith)
    (returns-then-is_over-clause-heard g c).settles
    (prepared_back (g.R.RunsRounds.held c.args.ring.now) (g.R.RunsRounds.held c.rounds.ring) _ _ _ inv.held after.prepared)
    (let e = after.later in omega (arith, inv.later)) (λ x. after.counted.none x (λ e. cc) ∙ inv.none x)

pub returns-clause-step : goal.returns-clause-step
returns-clause-step g c =
    let st = g.R.Node.Station.kind in
    let inv = c.rounds.invariant in
    let w = world (g.R.RunsRounds.held c.args.ring.now) (g.P.Plant.fibres c.args.plant.now) in
    let now = world (g.R.RunsRounds.held c.rounds.ring) (g.P.Plant.fibres c.rounds.plant) in
    let all : c.rounds._turn ≡ c.args.limit = omega arith in
    runs_out st g.P.Plant.exact w now c.args.limit c.rounds.calm _ _
    (subst (λ k. GoesOn st w now k c.rounds.calm) all inv.observes.on) inv.prepared inv.later inv.none

pub returns-clause-begun : goal.returns-clause-begun
returns-clause-begun g c = record {
  mid = world (g.R.RunsRounds.held c.rounds.ring) (g.P.Plant.fibres c.rounds.plant);
  ran =
      ran_some g.R.Node.Station.kind
      (λ at k. g.O.Recorder.Records c.args.recorder.now c.args.log.now at k c.rounds.recorder c.rounds.log) _ _ c.rounds._turn c.rounds.calm
      c.rounds.invariant.observes c.args.limit (omega arith);
  next = inl refl;
}

-- a step that ended, or that a fault broke off, wasn't unsettled
pub returns-in_default-clause-unsettled : goal.returns-in_default-clause-unsettled
returns-in_default-clause-unsettled g c e = absurd (grind arith)

pub returns-then-is_over-clause-unsettled : goal.returns-then-is_over-clause-unsettled
returns-then-is_over-clause-unsettled g c e = absurd (grind arith)

pub returns-clause-unsettled : goal.returns-clause-unsettled
returns-clause-unsettled g c e =
    ran_some g.R.Node.Station.kind
    (λ at k. g.O.Recorder.Records c.args.recorder.now c.args.log.now at k c.rounds.recorder c.rounds.log) _ _ c.rounds._turn c.rounds.calm
    c.rounds.invariant.observes c.args.limit (omega arith)
