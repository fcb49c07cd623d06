use Rattle.std.proofs.Common.{arith, ap}
use Rattle.sdh_report.specs.Written.{Written}
use Rattle.sdh_report.proofs.Short.{short-port_line}
use Rattle.sdh_scripts.proofs.lines.put_port.Goals as goal

pub port_line-requires : goal.port_line-requires
port_line-requires g c =
    omega (
      arith,
      c.requires.room,
      short-port_line c.name.result.now c.args.end c.port.result.now c.value.result c.name.ensures.short
          (omega (arith, c.value.ensures.small)),
    )

pub returns-clause-room : goal.returns-clause-room
returns-clause-room g c =
    omega (
      arith,
      c.requires.room,
      ap (λ (w : Written). w.room) c.port_line.ensures,
      short-port_line c.name.result.now c.args.end c.port.result.now c.value.result c.name.ensures.short
          (omega (arith, c.value.ensures.small)),
    )
