use Rattle.std.proofs.Common.{◌≡◌, ℕ, suc, ◌+◌, List, [], ◌∷◌, length, ap, refl, arith, le_refl}
use Rattle.std.proofs.KnownBytes.{Appends-nil}
use Rattle.sdh_circuits.specs.declared.PortId.{PortId}
use Rattle.std.proofs.lemmas.Result.{err_from_is_err_and}
use Rattle.sdh_node.specs.Rings.Held.{HeldRing}
use Rattle.sdh_node.specs.Rings.Rounds.{World, world}
use Rattle.sdh_owed.proofs.Standing.{long_step}
use Rattle.sdh_owed.proofs.Steps.{settled_held, settled_whole, next_by}
use Rattle.sdh_aps_cli.specs.Frames.{sent_last, frames_bytes}
use Rattle.sdh_aps_cli.specs.Signalled.{Signalled}
use Rattle.sdh_aps_cli.specs.declared.window.FrameWindow.{FrameWindow}
use Rattle.sdh_aps_cli.proofs.Steps.{on_ok_is, not_ended, cut_some, wrote_ended, frames_add}
use Rattle.sdh_aps_cli.proofs.framing.FrameRunTeller.settle.Goals as goal

pub settle_recording-requires-clause-ready : goal.settle_recording-requires-clause-ready
settle_recording-requires-clause-ready g c = λ at is. (
  refl,
  record {
    place =
        let nodes = ap (λ (v : World). v.fibres.nodes) is in
        let made = c.requires.may.1.0.prepared.nodes in
        omega (arith, nodes, made, c.requires.may.1.1);
    written = Appends-nil _;
  },
  record { later = le_refl _; none = λ e. refl },
)

pub returns-in_default-clause-begun : goal.returns-in_default-clause-begun
returns-in_default-clause-begun g c =
    let means = g.P.Plant.fibres in
    let text = λ (s : Signalled). frames_bytes c.args.self.now.recorder.ask s.sent in
    let w = world c.args.self.now.ring (means c.args.plant.now) in
    let left = world c.settle_recording.new.self (means c.settle_recording.new.plant) in
    cut_some w left c.args.limit (c.args._number + 1) text text (g.W.Sink.written c.args.output.now)
    (g.W.Sink.written c.settle_recording.new.log) _
    (λ at j. frames_bytes c.args.self.now.recorder.ask (sent_last (at (suc j)) ∷ [])) c.in_default.ensures.stopped.ran
    (frames_add c.args.self.now.recorder.ask (c.args._number + 1)) (λ at k x. x.0)

pub returns-in_err-ended-clause-begun : goal.returns-in_err-ended-clause-begun
returns-in_err-ended-clause-begun g c =
    let means = g.P.Plant.fibres in
    let text = λ (s : Signalled). frames_bytes c.args.self.now.recorder.ask s.sent in
    let w = world c.args.self.now.ring (means c.args.plant.now) in
    let left = world c.settle_recording.new.self (means c.settle_recording.new.plant) in
    let p = err_from_is_err_and c.from_residual.result c.from_residual.ensures.1 in
    rw (p.1, p.2) (not_ended w left c.args.limit (c.args._number + 1) text text (g.W.Sink.written c.args.output.now)
    (g.W.Sink.written c.settle_recording.new.log) _ c.in_err-ended.field-0.0 c.in-Ok.ended c.in_err-ended.was c.in-Ok.ensures.unsettled
    c.in-Ok.ensures.begun (λ at k x. x.1.written))

pub returns-clause-ok : goal.returns-clause-ok
returns-clause-ok g c =
    let means = g.P.Plant.fibres in
    let text = λ (s : Signalled). frames_bytes c.args.self.now.recorder.ask s.sent in
    let w = world c.args.self.now.ring (means c.args.plant.now) in
    let left = world c.settle_recording.new.self (means c.settle_recording.new.plant) in
    wrote_ended w left c.args.limit (c.args._number + 1) text text (g.W.Sink.written c.args.output.now)
    (g.W.Sink.written c.settle_recording.new.log) _
    (on_ok_is c.in-Ok.ended c.in_ok-ended.field-0 c.in_ok-ended.was c.in-Ok.ensures.heard) (λ at k x. x.1.written)

pub returns-clause-next : goal.returns-clause-next
returns-clause-next g c later may =
    let means = g.P.Plant.fibres in
    let w = world c.args.self.now.ring (means c.args.plant.now) in
    let left = world c.settle_recording.new.self (means c.settle_recording.new.plant) in
    let x = on_ok_is c.in-Ok.ended c.in_ok-ended.field-0 c.in_ok-ended.was c.in-Ok.ensures.heard in
    let s = x.settles in
    let held = settled_held w left c.args.limit s in
    let numbers = on_ok_is c.in-Ok.ended c.in_ok-ended.field-0 c.in_ok-ended.was c.in-Ok.ensures.step.numbers in
    let slips = on_ok_is c.in-Ok.ended c.in_ok-ended.field-0 c.in_ok-ended.was c.in-Ok.ensures.laws.slips in
    let long = long_step w.ring left.ring c.args.limit may.0.begins numbers in
    let none = λ (port : PortId). slips port (omega (arith, long.1)) in
    let most = s.settles.within in
    let same : length left.ring.ids ≡ length w.ring.ids = ap (λ (r : HeldRing). length r.ids) held in (
      next_by 65536 c.args._number (length s.rounds) w left held (omega (arith, most, c.requires.few)) long.0 none
          (c.in-Ok.ensures.step.prepared (settled_whole w left c.args.limit s may.0.whole)) later may.0,
      (let place = ap (λ (a : FrameWindow). a.at.0) x.kept.0 in omega (arith, same, place, may.1)),
    )

-- the frames that are asked for stay the same
pub returns-clause-writes : goal.returns-clause-writes
returns-clause-writes g c =
    let x = on_ok_is c.in-Ok.ended c.in_ok-ended.field-0 c.in_ok-ended.was c.in-Ok.ensures.heard in
    let text : FrameWindow → Signalled → List ℕ = λ a s. frames_bytes a s.sent in
    ap text x.kept.0

pub returns-clause-begins : goal.returns-clause-begins
returns-clause-begins g c =
    let x = on_ok_is c.in-Ok.ended c.in_ok-ended.field-0 c.in_ok-ended.was c.in-Ok.ensures.heard in
    let text : FrameWindow → Signalled → List ℕ = λ a s. frames_bytes a s.sent in
    ap text x.kept.0
