use Rattle.std.proofs.Common.{arith, ap}
use Rattle.sdh_report.specs.Written.{Written}
use Rattle.sdh_report.proofs.Short.{short-table_line}
use Rattle.sdh_cli.proofs.tables.put_circuit.Goals as goal

pub table_line-requires : goal.table_line-requires
table_line-requires c =
    omega (
      arith,
      c.requires.room,
      short-table_line c.id.result c.args.side c.args.slot c.args.name.now c.id-2.result c.id-3.result
          (omega arith) (omega arith) c.requires.name (omega arith) (omega arith),
    )

pub returns-clause-room : goal.returns-clause-room
returns-clause-room c =
    omega (
      arith,
      c.requires.room,
      ap (λ (w : Written). w.room) c.table_line.ensures,
      short-table_line c.id.result c.args.side c.args.slot c.args.name.now c.id-2.result c.id-3.result (omega arith)
          (omega arith) c.requires.name (omega arith) (omega arith),
    )
