use Rattle.std.proofs.Common.{◌-◌, ap, arith}
use Rattle.sdh_report.specs.Written.{Written}
use Rattle.sdh_aps_cli.proofs.recorder.SignalRecorder.end.Goals as goal

pub settle_line-requires : goal.settle_line-requires
settle_line-requires c =
    let short = c.lines_are_short.ensures.settle c.args.number (c.args.ring.now.rounds - 1) (omega arith) (omega arith) in
    let room = ap (λ (w : Written). w.room) c.clear.ensures in
    omega (arith, short, room, c.requires.room)
