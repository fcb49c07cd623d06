use Rattle.std.proofs.Common.{length}
use Rattle.sdh_verdicts.proofs.Counts.{meets_is}
use Rattle.sdh_verdicts.proofs.judging.meets.Goals as goal

pub returns : goal.returns
returns c = λ p are. (
    let arc = c.own_arc-first.ensures in
    meets_is (length c.args.map.now) p c.args.circuit.now c.args.spans.now.before are.before
    c.own_arc-first.result.0 c.own_arc-first.result.1 arc.first arc.spans arc.within.0 arc.within.1)
