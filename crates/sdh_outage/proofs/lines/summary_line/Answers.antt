use Rattle.std.proofs.Common.{◌++◌, codes, decimal}
use Rattle.sdh_outage.specs.Lines.{longest_text, foreign_line}
use Rattle.sdh_outage.proofs.Parts.{next_part, next_count}
use Rattle.sdh_outage.proofs.lines.summary_line.Goals as goal

pub returns : goal.returns
returns c =
    let t = c.args.text.now in
    let s = c.args.summary.now in
    let a = longest_text s in
    let b = (a ++ codes " none ") ++ decimal s.none in
    let d = (b ++ codes " still ") ++ decimal s.still in
    let e = d ++ codes "\n" in
    let one = next_count t _ c.put_count.new.text a (codes " none ") (decimal s.none) c.put_longest.ensures c.put_count.ensures in
    let two = next_count t _ c.put_count-2.new.text b (codes " still ") (decimal s.still) one c.put_count-2.ensures in
    let three = next_part t _ c.put.new.self d (codes "\n") two c.put.ensures in
    next_part t _ c.put_foreign.new.text e (foreign_line s.foreign) three c.put_foreign.ensures
