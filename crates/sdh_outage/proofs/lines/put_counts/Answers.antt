use Rattle.std.proofs.Common.{◌++◌, codes, decimal}
use Rattle.sdh_outage.specs.Lines.{first_counts_text}
use Rattle.sdh_outage.proofs.Parts.{next_count}
use Rattle.sdh_outage.proofs.lines.put_counts.Goals as goal

pub returns : goal.returns
returns c =
    let t = c.args.text.now in
    let o = c.args.outage.now in
    let a = first_counts_text o in
    let b = (a ++ codes " torn ") ++ decimal o.torn in
    let d = (b ++ codes " strange ") ++ decimal o.strange in
    let one = next_count t _ c.put_count.new.text a (codes " torn ") (decimal o.torn) c.put_first_counts.ensures c.put_count.ensures in
    let two = next_count t _ c.put_count-2.new.text b (codes " strange ") (decimal o.strange) one c.put_count-2.ensures in
    next_count t _ c.put_count-3.new.text d (codes " foreign ") (decimal o.foreign) two c.put_count-3.ensures
