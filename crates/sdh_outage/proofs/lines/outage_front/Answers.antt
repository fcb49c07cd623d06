use Rattle.std.proofs.Common.{◌++◌, codes, decimal, ap, ◌∙◌}
use Rattle.sdh_report.specs.Lines.{port_named}
use Rattle.sdh_report.specs.Written.{with_part}
use Rattle.sdh_outage.specs.Outages.{out}
use Rattle.sdh_outage.specs.Lines.{runs_text, stretch_text, counts_text}
use Rattle.sdh_outage.proofs.Parts.{next_part}
use Rattle.sdh_outage.proofs.lines.outage_front.Goals as goal

pub returns : goal.returns
returns c =
    let t = c.args.text.now in
    let o = c.args.outage.now in
    let a = port_named c.args.name.now c.args.end in
    let b = a ++ codes " out " in
    let d = b ++ decimal (out o) in
    let e = d ++ runs_text o.runs in
    let f = e ++ stretch_text o.stretch in
    let one = next_part t _ c.put.new.self a (codes " out ") c.put_port.ensures c.put.ensures in
    let number = c.put_number.ensures ∙ ap (λ n. with_part c.put.new.self (decimal n)) c.out.ensures in
    let two = next_part t _ c.put_number.new.self b (decimal (out o)) one number in
    let three = next_part t _ c.put_runs.new.text d (runs_text o.runs) two c.put_runs.ensures in
    let four = next_part t _ c.put_stretch.new.text e (stretch_text o.stretch) three c.put_stretch.ensures in
    next_part t _ c.put_counts.new.text f (counts_text o) four c.put_counts.ensures
