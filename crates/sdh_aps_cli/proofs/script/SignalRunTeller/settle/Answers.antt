use Rattle.std.proofs.Common.{◌≡◌, suc, ◌+◌, length, refl, ap, sym, subst, ◌∙◌, arith, le_refl}
use Rattle.std.specs.Io.KnownBytes.{Appends}
use Rattle.sdh_outside.specs.Writing.{AppendsFewer}
use Rattle.sdh_circuits.specs.declared.PortId.{PortId}
use Rattle.std.proofs.lemmas.Result.{err_from_is_err_and}
use Rattle.sdh_node.specs.Rings.Held.{HeldRing}
use Rattle.sdh_node.specs.Rings.Rounds.{World, world}
use Rattle.sdh_owed.proofs.Standing.{long_step}
use Rattle.sdh_owed.proofs.Steps.{settled_held, settled_whole, next_by}
use Rattle.sdh_aps_cli.specs.Recording.{IsCut}
use Rattle.sdh_aps_cli.proofs.Rounds.{recorded_none}
use Rattle.sdh_aps_cli.specs.Signalled.{shown_changes, changes_shown_in}
use Rattle.sdh_aps_cli.specs.Listing.{changes_text, begun_text, ended_text}
use Rattle.sdh_aps_cli.proofs.Steps.{on_ok_is, ids_at, not_ended, cut_some, wrote_step, cut_line, lines_add, ready_as}
use Rattle.sdh_aps_cli.proofs.script.SignalRunTeller.settle.Goals as goal

pub begin-requires : goal.begin-requires
begin-requires g c = c.requires.may.1.1.many

pub settle_recording-requires-clause-ready : goal.settle_recording-requires-clause-ready
settle_recording-requires-clause-ready g c = λ at is. (
  refl,
  recorded_none c.begin.new.self.listing at c.args.self.now.ring c.begin.new.self.before.items c.begin.new.self.text _
      (ap (λ (v : World). v.ring) (sym is))
      (ready_as c.args.self.now.ring c.args.self.now.ring _ _ _ _ refl c.begin.ensures.many
      (ap (λ t. t.room + length t.bytes) c.begin.ensures.text) c.requires.may.1.1)
      c.begin.ensures.shown,
  record { later = le_refl _; none = λ e. refl },
)

pub returns-in_default-clause-begun : goal.returns-in_default-clause-begun
returns-in_default-clause-begun g c =
    let means = g.P.Plant.fibres in
    let listing = c.args.self.now.recorder.listing in
    let w = world c.args.self.now.ring (means c.args.plant.now) in
    let left = world c.settle_recording.new.self (means c.settle_recording.new.plant) in
    let old = g.W.Sink.written c.args.output.now in
    let new = g.W.Sink.written c.settle_recording.new.log in
    cut_some w left c.args.limit (c.args.number + 1) (ended_text listing) (begun_text listing) old new _
    (λ at j. changes_text listing (shown_changes (at j).ring (at (suc j)).ring)) c.in_default.ensures.stopped.ran
    (lines_add listing (c.args.number + 1)) (λ at k x. subst (λ l. IsCut l at k old new) c.begin.ensures.listing x.0)

pub returns-in_err-ended-clause-begun : goal.returns-in_err-ended-clause-begun
returns-in_err-ended-clause-begun g c =
    let means = g.P.Plant.fibres in
    let listing = c.args.self.now.recorder.listing in
    let w = world c.args.self.now.ring (means c.args.plant.now) in
    let left = world c.settle_recording.new.self (means c.settle_recording.new.plant) in
    let old = g.W.Sink.written c.args.output.now in
    let new = g.W.Sink.written c.settle_recording.new.log in
    let p = err_from_is_err_and c.from_residual.result c.from_residual.ensures.1 in
    rw (p.1, p.2) (not_ended w left c.args.limit (c.args.number + 1) (ended_text listing) (begun_text listing) old new _
    c.in_err-ended.field-0.0 c.in-Ok.ended c.in_err-ended.was c.in-Ok.ensures.unsettled c.in-Ok.ensures.begun
    (λ at k x. subst (λ l. Appends old new (changes_text l (changes_shown_in k at))) c.begin.ensures.listing x.1.written))

pub end-requires-clause-room : goal.end-requires-clause-room
end-requires-clause-room g c =
    let means = g.P.Plant.fibres in
    let w = world c.args.self.now.ring (means c.args.plant.now) in
    let left = world c.settle_recording.new.self (means c.settle_recording.new.plant) in
    let x = on_ok_is c.in-Ok.ended c.in_ok-ended.field-0 c.in_ok-ended.was c.in-Ok.ensures.heard in
    let size = ids_at w left c.args.limit x.settles in
    let enough = c.requires.may.1.0.prepared.enough in
    omega (arith, size, enough, x.kept.1.ready.room)

pub returns-in-Ok-write_text-clause-ok : goal.returns-in-Ok-write_text-clause-ok
returns-in-Ok-write_text-clause-ok g c =
    let means = g.P.Plant.fibres in
    let listing = c.args.self.now.recorder.listing in
    let w = world c.args.self.now.ring (means c.args.plant.now) in
    let left = world c.settle_recording.new.self (means c.settle_recording.new.plant) in
    let old = g.W.Sink.written c.args.output.now in
    let mid = g.W.Sink.written c.settle_recording.new.log in
    let new = g.W.Sink.written c.write_text.new.sink in
    let x = on_ok_is c.in-Ok.ended c.in_ok-ended.field-0 c.in_ok-ended.was c.in-Ok.ensures.heard in
    wrote_step w left c.args.limit (c.args.number + 1) listing old new _ x c.begin.new.self.listing c.begin.ensures.listing mid
    x.kept.1.written (subst (Appends mid new)
    (c.bytes.ensures ∙ c.end.ensures.bytes)
    c.in-Ok-write_text.ensures.ok)

pub returns-in-Ok-write_text-clause-next : goal.returns-in-Ok-write_text-clause-next
returns-in-Ok-write_text-clause-next g c later may =
    let means = g.P.Plant.fibres in
    let w = world c.args.self.now.ring (means c.args.plant.now) in
    let left = world c.settle_recording.new.self (means c.settle_recording.new.plant) in
    let x = on_ok_is c.in-Ok.ended c.in_ok-ended.field-0 c.in_ok-ended.was c.in-Ok.ensures.heard in
    let s = x.settles in
    let held = settled_held w left c.args.limit s in
    let numbers = on_ok_is c.in-Ok.ended c.in_ok-ended.field-0 c.in_ok-ended.was c.in-Ok.ensures.step.numbers in
    let slips = on_ok_is c.in-Ok.ended c.in_ok-ended.field-0 c.in_ok-ended.was c.in-Ok.ensures.laws.slips in
    let long = long_step w.ring left.ring c.args.limit may.0.begins numbers in
    let none = λ (port : PortId). slips port (omega (arith, long.1)) in
    let most = s.settles.within in
    let size = ids_at w left c.args.limit s in
    let same : length left.ring.ids ≡ length w.ring.ids = ap (λ (r : HeldRing). length r.ids) held in (
      next_by 65536 c.args.number (length s.rounds) w left held (omega (arith, most, c.requires.few)) long.0 none
          (c.in-Ok.ensures.step.prepared (settled_whole w left c.args.limit s may.0.whole)) later may.0,
      ready_as _ left.ring _ _ _ _ (same ∙ sym size) (ap (λ b. length b.items) c.end.ensures.before) c.end.ensures.room x.kept.1.ready,
    )

pub returns-in-Err-clause-begun : goal.returns-in-Err-clause-begun
returns-in-Err-clause-begun g c =
    let means = g.P.Plant.fibres in
    let listing = c.args.self.now.recorder.listing in
    let w = world c.args.self.now.ring (means c.args.plant.now) in
    let left = world c.settle_recording.new.self (means c.settle_recording.new.plant) in
    let old = g.W.Sink.written c.args.output.now in
    let mid = g.W.Sink.written c.settle_recording.new.log in
    let new = g.W.Sink.written c.write_text.new.sink in
    let x = on_ok_is c.in-Ok.ended c.in_ok-ended.field-0 c.in_ok-ended.was c.in-Ok.ensures.heard in
    cut_line w left c.args.limit (c.args.number + 1) listing old new _ x c.begin.new.self.listing c.begin.ensures.listing mid
    x.kept.1.written (subst (AppendsFewer mid new)
    (c.bytes.ensures ∙ c.end.ensures.bytes)
    c.in-Err.ensures.front)
