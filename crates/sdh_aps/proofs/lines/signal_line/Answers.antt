use Rattle.std.proofs.Common.{length, ap, arith}
use Rattle.std.proofs.lemmas.List.{length-append}
use Rattle.sdh_report.specs.Written.{Written}
use Rattle.sdh_aps.specs.Lines.{signal_line}
use Rattle.sdh_aps.proofs.Short.{short-signal_line}
use Rattle.sdh_aps.proofs.lines.signal_line.Goals as goal

pub put_line-requires-clause-room : goal.put_line-requires-clause-room
put_line-requires-clause-room c =
    omega (
      arith,
      c.requires.room,
      short-signal_line c.args.round c.args.id c.args.shown.now c.numbers_are_small.ensures.round c.numbers_are_small.ensures.id
          c.far_is_small.ensures,
    )

pub returns-clause-room : goal.returns-clause-room
returns-clause-room c =
    omega (
      arith,
      c.requires.room,
      ap (λ (w : Written). w.room) c.put_line.ensures,
      short-signal_line c.args.round c.args.id c.args.shown.now c.numbers_are_small.ensures.round c.numbers_are_small.ensures.id
          c.far_is_small.ensures,
    )

pub returns-clause-kept : goal.returns-clause-kept
returns-clause-kept c =
    omega (
      arith,
      c.requires.room,
      ap (λ (w : Written). w.room) c.put_line.ensures,
      ap (λ (w : Written). length w.bytes) c.put_line.ensures,
      length-append c.args.text.now.bytes (signal_line c.args.round c.args.id c.args.shown.now),
      short-signal_line c.args.round c.args.id c.args.shown.now c.numbers_are_small.ensures.round c.numbers_are_small.ensures.id
          c.far_is_small.ensures,
    )
