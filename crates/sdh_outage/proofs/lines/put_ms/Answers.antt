use Rattle.std.proofs.Common.{◌*◌, ◌/◌, ◌%◌, ◌++◌, codes, decimal, ap, ◌∙◌}
use Rattle.sdh_report.specs.Written.{Written, with_part}
use Rattle.sdh_outage.specs.Lines.{three_digits}
use Rattle.sdh_report.proofs.Parts.{two_parts}
use Rattle.sdh_outage.proofs.Parts.{ms_is}
use Rattle.sdh_outage.proofs.lines.put_ms.Goals as goal

pub returns : goal.returns
returns c =
    let t = c.args.text.now in
    let whole = decimal (c.args.rounds / 8) in
    let rest = three_digits (c.args.rounds % 8 * 125) in
    let first = c.put.ensures ∙ ap (λ (w : Written). with_part w (codes ".")) c.put_number.ensures ∙ two_parts t whole (codes ".") in
    c.put_three.ensures ∙ ap (λ (w : Written). with_part w rest) first ∙ two_parts t (whole ++ codes ".") rest
    ∙ ap (with_part t) (ms_is c.args.rounds)
