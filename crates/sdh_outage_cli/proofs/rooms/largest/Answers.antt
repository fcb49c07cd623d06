use Rattle.std.proofs.Common.{◌≤◌, get_or, arith}
use Rattle.sdh_outage_cli.proofs.Counting.{upto}
use Rattle.sdh_outage_cli.proofs.rooms.largest.Goals as goal
use Rattle.sdh_outage_cli.proofs.rooms.largest.Goals.{then-counts-i, else-counts-i}

pub loop-i-preserved : goal.loop-i-preserved
loop-i-preserved c =
    let xs = c.args.counts.now in
    let i = c.loop-i.i in
    let new = c.if-counts-i.most in
    let inv = c.loop-i.invariant in
    elim c.if-counts-i.branch [
      | then-counts-i w ↦ record {
        all = upto (λ j. get_or xs j 0 ≤ new) i (λ j lt. (let h = inv.all j lt in omega (arith, h, w.if-counts-i.true, w.most-is)))
            (omega (arith, w.most-is));
        few = λ most h. (let here = h i in omega (arith, here, w.most-is));
      }
      | else-counts-i w ↦ record {
        all = upto (λ j. get_or xs j 0 ≤ new) i (λ j lt. (let h = inv.all j lt in omega (arith, h, w.most-is)))
            (omega (arith, w.if-counts-i.false, w.most-is));
        few = λ most h. (let here = inv.few most h in omega (arith, here, w.most-is));
      }
    ]
