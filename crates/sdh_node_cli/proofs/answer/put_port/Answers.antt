use Rattle.std.proofs.Common.{◌++◌, length, ap, sym, arith, ◌∙◌}
use Rattle.std.proofs.lemmas.List.{length-append}
use Rattle.sdh_terminal.specs.Tributaries.{outlet_of}
use Rattle.sdh_report.specs.Written.{Written}
use Rattle.sdh_report.specs.Lines.{front_line}
use Rattle.sdh_report.proofs.Fronts.{front_line_is}
use Rattle.sdh_node_cli.specs.Bench.{text_of}
use Rattle.sdh_node_cli.proofs.answer.put_port.Goals as goal

pub front_line-requires : goal.front_line-requires
front_line-requires c = omega (arith, c.requires.room, c.front_line_is_short.ensures)

pub returns-clause-bytes : goal.returns-clause-bytes
returns-clause-bytes c =
    let node = c.args.node.now in
    let name = c.name-name.result.now in
    let port = c.in-Some.port in
    let line = ap (front_line name port.end) c.front-front.ensures ∙ front_line_is name port.end (outlet_of port node.ports) in
    ap (λ (w : Written). w.bytes) c.front_line.ensures
    ∙ ap (λ l. c.args.text.now.bytes ++ l) (line ∙ (λ j. text_of node (c.name-name.ensures.name j) (sym c.in-Some.is j)))

pub returns-clause-room : goal.returns-clause-room
returns-clause-room c =
    omega (arith, c.requires.room, ap (λ (w : Written). w.room) c.front_line.ensures, c.front_line_is_short.ensures)

pub returns-clause-kept : goal.returns-clause-kept
returns-clause-kept c =
    omega (
      arith,
      c.requires.room,
      ap (λ (w : Written). w.room) c.front_line.ensures,
      ap (λ (w : Written). length w.bytes) c.front_line.ensures,
      length-append c.args.text.now.bytes (front_line c.name-name.result.now c.in-Some.port.end c.front-front.result),
      c.front_line_is_short.ensures,
    )
