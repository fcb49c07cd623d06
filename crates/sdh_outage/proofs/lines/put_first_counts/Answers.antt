use Rattle.std.proofs.Common.{◌++◌, codes, decimal}
use Rattle.sdh_outage.proofs.Parts.{next_count}
use Rattle.sdh_outage.proofs.lines.put_first_counts.Goals as goal

pub returns : goal.returns
returns c =
    let t = c.args.text.now in
    let o = c.args.outage.now in
    let a = codes " ais " ++ decimal o.ais in
    let b = (a ++ codes " ones ") ++ decimal o.ones in
    let two = next_count t _ c.put_count-2.new.text a (codes " ones ") (decimal o.ones) c.put_count.ensures c.put_count-2.ensures in
    next_count t _ c.put_count-3.new.text b (codes " jump ") (decimal o.jump) two c.put_count-3.ensures
