use Rattle.std.proofs.Common.{◌+◌, ap, sym, subst, arith, ◌∙◌, inr}
use Rattle.std.specs.Prelude.{length}
use Rattle.sdh_plant.specs.Fibres.{IsPrepared}
use Rattle.sdh_node.specs.Rings.Held.{HeldRing}
use Rattle.sdh_node.specs.Rings.Rounds.{world}
use Rattle.sdh_circuits.specs.declared.PortId.{PortId}
use Rattle.sdh_owed.proofs.Standing.{long_step}
use Rattle.sdh_scripts.specs.Ports.{lines_room}
use Rattle.sdh_owed.proofs.Steps.{settled_held, settled_whole}
use Rattle.sdh_watch.specs.Watching.{watched}
use Rattle.sdh_watch.proofs.Rounds.{ended_with, breaks_with}
use Rattle.sdh_watch.specs.Ports.{AreWatching}
use Rattle.sdh_watch.proofs.Leading.{held_lead}
use Rattle.sdh_watch.proofs.Steps.{went_held, watched_next}
use Rattle.sdh_watch.specs.Scripts.{watch_walk}
use Rattle.sdh_watch.specs.Lines.{watched_text}
use Rattle.std.proofs.lemmas.Result.{err_from_is_err_and}
use Rattle.sdh_rounds.specs.declared.faults.SettleError.TheVariants as settling
use Rattle.sdh_shell.proofs.Failing.{counted_as}
use Rattle.sdh_scripts.proofs.Tellers.{stops_by, silent_begun, ends_by, none_written, fault_on, fault_back}
use Rattle.sdh_watch.proofs.script.WatchRunTellerText.settle.Goals as goal

pub watch_rounds-requires-clause-prepared : goal.watch_rounds-requires-clause-prepared
watch_rounds-requires-clause-prepared g c =
    subst (λ (r : HeldRing). IsPrepared r.settings.rate (length r.ids) (g.P.Plant.fibres c.settle.new.plant))
    (sym (settled_held _ _ c.args.limit c.in_ok-settle.ensures.step.outcome))
    (c.in_ok-settle.ensures.step.prepared (settled_whole _ _ c.args.limit c.in_ok-settle.ensures.step.outcome c.requires.may.1.ring_may.whole))

pub watch_rounds-requires-clause-whole : goal.watch_rounds-requires-clause-whole
watch_rounds-requires-clause-whole g c = settled_whole _ _ c.args.limit c.in_ok-settle.ensures.step.outcome c.requires.may.1.ring_may.whole

pub watch_rounds-requires-clause-many : goal.watch_rounds-requires-clause-many
watch_rounds-requires-clause-many g c =
    c.requires.may.1.many ∙ ap (λ (r : HeldRing). length r.circuits.circuits)
    (sym (settled_held _ _ c.args.limit c.in_ok-settle.ensures.step.outcome))

pub watch_rounds-requires-clause-room : goal.watch_rounds-requires-clause-room
watch_rounds-requires-clause-room g c =
    let s = c.in_ok-settle.ensures.step.outcome in
    let grown = ap (λ (r : HeldRing). r.rounds) (settled_held _ _ c.args.limit s) in
    omega (arith, grown, s.settles.within, c.requires.may.1.ring_may.rounds, c.requires.may.1.ring_may.few)

pub put_step-requires-clause-room : goal.put_step-requires-clause-room
put_step-requires-clause-room g c =
    let shown = c.in-Ok.ensures.ok in
    omega (
      arith,
      ap (λ (x : HeldRing). length x.circuits.circuits)
          (went_held _ _ _ c.args.limit 128 shown.heard c.in_ok-settle.ensures.step.outcome shown.rounds),
      c.requires.room,
    )

pub put_step-requires-clause-many : goal.put_step-requires-clause-many
put_step-requires-clause-many g c =
    let shown = c.in-Ok.ensures.ok in
    shown.watching.many ∙ sym (ap (λ (r : HeldRing). length r.circuits.circuits) (held_lead 128 _ _ shown.heard shown.rounds))

pub returns-in-Err-clause-err : goal.returns-in-Err-clause-err
returns-in-Err-clause-err g c =
    let means = g.P.Plant.fibres in
    inr (breaks_with c.args.limit (world c.args.self.now.ring (means c.args.plant.now))
    (world c.settle.new.self (means c.settle.new.plant)) _ c.in_ok-settle.ensures.step.outcome c.in-Err.ensures.err)

pub returns-in-Ok-clause-ok : goal.returns-in-Ok-clause-ok
returns-in-Ok-clause-ok g c =
    let means = g.P.Plant.fibres in
    let w = world c.args.self.now.ring (means c.args.plant.now) in
    let mid = world c.settle.new.self (means c.settle.new.plant) in
    let left = world c.watch_rounds.new.ring (means c.watch_rounds.new.plant) in
    let shown = c.in-Ok.ensures.ok in
    let watching : AreWatching left.ring.circuits.circuits shown.heard c.watch_rounds.new.watches.items =
    subst (λ (r : HeldRing). AreWatching r.circuits.circuits shown.heard c.watch_rounds.new.watches.items)
    (sym (held_lead 128 mid left shown.heard shown.rounds)) shown.watching in
    record {
      told = watched (c.args.number + 1) mid.ring left.ring shown.heard;
      ended = ended_with c.args.limit (c.args.number + 1) w mid left shown.heard c.in_ok-settle.ensures.step.outcome shown.rounds;
      text = c.put_step.ensures.bytes mid.ring shown.heard c.rounds-rounds.ensures watching;
    }

pub returns-in-Ok-clause-next : goal.returns-in-Ok-clause-next
returns-in-Ok-clause-next g c later may =
    let means = g.P.Plant.fibres in
    let w = world c.args.self.now.ring (means c.args.plant.now) in
    let mid = world c.settle.new.self (means c.settle.new.plant) in
    let left = world c.watch_rounds.new.ring (means c.watch_rounds.new.plant) in
    let s = c.in_ok-settle.ensures.step.outcome in
    let shown = c.in-Ok.ensures.ok in
    let long = long_step w.ring mid.ring c.args.limit may.ring_may.begins c.in_ok-settle.ensures.step.numbers in
    let none = λ (port : PortId). c.in_ok-settle.ensures.laws.slips port (omega (arith, long.1)) in
    let prepared : IsPrepared w.ring.settings.rate (length w.ring.ids) left.fibres =
    subst (λ (r : HeldRing). IsPrepared r.settings.rate (length r.ids) left.fibres)
    (settled_held w mid c.args.limit s) c.in-Ok.ensures.prepared in
    watched_next c.args.limit c.args.number w mid left c.args.self.now.watches.items c.watch_rounds.new.watches.items c.requires.few s c.in_ok-settle.ensures.step.numbers none shown prepared later may

pub returns-in-Ok-clause-room : goal.returns-in-Ok-clause-room
returns-in-Ok-clause-room g c more takes =
    let shown = c.in-Ok.ensures.ok in
    omega (
      arith,
      ap (λ (x : HeldRing). length x.circuits.circuits)
          (went_held _ _ _ c.args.limit 128 shown.heard c.in_ok-settle.ensures.step.outcome shown.rounds),
      takes,
      c.put_step.ensures.room,
    )

pub returns-in-Ok-clause-same_room : goal.returns-in-Ok-clause-same_room
returns-in-Ok-clause-same_room g c =
    let shown = c.in-Ok.ensures.ok in
    ap (λ (x : HeldRing). lines_room (length x.circuits.circuits))
    (went_held _ _ _ c.args.limit 128 shown.heard c.in_ok-settle.ensures.step.outcome shown.rounds)

-- ---- the settle step didn't end: the text is as it was

pub returns-in_err-settle-clause-err : goal.returns-in_err-settle-clause-err
returns-in_err-settle-clause-err g c =
    let means = g.P.Plant.fibres in
    let w = world c.args.self.now.ring (means c.args.plant.now) in
    let left = world c.settle.new.self (means c.settle.new.plant) in
    let why = c.in_err-settle.field-0.0 in
    let ends = ends_by watch_walk c.args.limit (c.args.number + 1) w left why c.in_err-settle.ensures.step.outcome in
    let p = err_from_is_err_and c.from_residual.result c.from_residual.ensures.1 in
    rw (p.1, p.2) (stops_by watch_walk c.args.limit (c.args.number + 1) w left why ends)

pub returns-in_err-settle-clause-begun : goal.returns-in_err-settle-clause-begun
returns-in_err-settle-clause-begun g c =
    let means = g.P.Plant.fibres in
    let w = world c.args.self.now.ring (means c.args.plant.now) in
    let left = world c.settle.new.self (means c.settle.new.plant) in
    let why = c.in_err-settle.field-0.0 in
    let ends = ends_by watch_walk c.args.limit (c.args.number + 1) w left why c.in_err-settle.ensures.step.outcome in
    let p = err_from_is_err_and c.from_residual.result c.from_residual.ensures.1 in
    rw (p.1, p.2) (silent_begun watch_walk c.args.limit (c.args.number + 1) w left (watched_text) c.args.output.now.bytes why ends)

pub returns-in_err-settle-clause-cut : goal.returns-in_err-settle-clause-cut
returns-in_err-settle-clause-cut g c =
    let p = err_from_is_err_and c.from_residual.result c.from_residual.ensures.1 in
    rw (p.1, p.2) (λ e. absurd (none_written c.in_err-settle.field-0.0 e))

pub returns-in_err-settle-clause-failed : goal.returns-in_err-settle-clause-failed
returns-in_err-settle-clause-failed g c =
    let p = err_from_is_err_and c.from_residual.result c.from_residual.ensures.1 in
    rw (p.1, p.2) (λ e. c.in_err-settle.ensures.step.failed (fault_back c.in_err-settle.field-0.0 e))

pub returns-in_err-settle-clause-counted : goal.returns-in_err-settle-clause-counted
returns-in_err-settle-clause-counted g c =
    let p = err_from_is_err_and c.from_residual.result c.from_residual.ensures.1 in
    let why = c.in_err-settle.field-0.0 in
    rw (p.1, p.2) (counted_as _ _ _ (fault_back why) (fault_on why) c.in_err-settle.ensures.step.counted)

pub returns-in-Err-clause-begun : goal.returns-in-Err-clause-begun
returns-in-Err-clause-begun g c =
    let means = g.P.Plant.fibres in
    let w = world c.args.self.now.ring (means c.args.plant.now) in
    let left = world c.watch_rounds.new.ring (means c.watch_rounds.new.plant) in
    silent_begun watch_walk c.args.limit (c.args.number + 1) w left watched_text c.args.output.now.bytes settling.PlantFault
    (inr (breaks_with c.args.limit w (world c.settle.new.self (means c.settle.new.plant)) _ c.in_ok-settle.ensures.step.outcome c.in-Err.ensures.err))
