use Rattle.std.proofs.Common.{sym, ◌∙◌}
use Rattle.sdh_node_cli.proofs.Newlines.{one_line, front_line, front_cut}
use Rattle.sdh_node_cli.proofs.line.put_front.Goals as goal

pub returns-in-Some-clause-rest : goal.returns-in-Some-clause-rest
returns-in-Some-clause-rest c =
    let bytes = c.args.bytes.now in
    let at = c.in-Some.at in
    let is = sym c.newline_in.ensures.place ∙ c.in-Some.is in
    (front_cut bytes at is, front_line bytes at is, c.put.ensures)

pub returns-in-None-clause-part : goal.returns-in-None-clause-part
returns-in-None-clause-part c = λ e.
    (one_line c.args.bytes.now (sym c.newline_in.ensures.place ∙ c.in-None.is), c.put-in-None.ensures)
