use Rattle.std.proofs.Common.{◌++◌, arith, ap, sym, ◌∙◌}
use Rattle.sdh_report.specs.Written.{Written}
use Rattle.sdh_report.specs.Lines.{drop_lines}
use Rattle.sdh_report.proofs.Short.{short-drop_lines}
use Rattle.sdh_node.specs.Rings.Held.{outlet_at}
use Rattle.sdh_cli.proofs.Told.{delivered_is}
use Rattle.sdh_cli.proofs.reports.put_delivered.Goals as goal

pub drop_lines-requires : goal.drop_lines-requires
drop_lines-requires c = omega (arith, c.requires.room, short-drop_lines c.port.result.now)

pub returns-clause-bytes : goal.returns-clause-bytes
returns-clause-bytes c =
    let r = c.args.ring.now in
    ap (λ (w : Written). w.bytes) c.drop_lines.ensures
    ∙ ap (λ d. c.args.text.now.bytes ++ drop_lines d)
    (c.port.ensures ∙ sym (delivered_is (outlet_at r) r.circuits.circuits c.args.port c.requires.inside))

pub returns-clause-room : goal.returns-clause-room
returns-clause-room c =
    omega (arith, c.requires.room, ap (λ (w : Written). w.room) c.drop_lines.ensures, short-drop_lines c.port.result.now)
