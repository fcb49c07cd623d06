use Rattle.std.proofs.Common.{◌-◌, arith, ap}
use Rattle.sdh_report.specs.Written.{Written}
use Rattle.sdh_report.proofs.Short.{short-settle_line}
use Rattle.sdh_scripts.proofs.lines.put_settle.Goals as goal

pub settle_line-requires : goal.settle_line-requires
settle_line-requires c = omega (arith, c.requires.room, short-settle_line c.args.number (c.args.rounds - 1) (omega arith) (omega arith))

pub returns-clause-room : goal.returns-clause-room
returns-clause-room c =
    omega (
      arith,
      c.requires.room,
      ap (λ (w : Written). w.room) c.settle_line.ensures,
      short-settle_line c.args.number (c.args.rounds - 1) (omega arith) (omega arith),
    )
