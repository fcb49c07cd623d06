use Rattle.std.proofs.Common.{◌<◌, arith, sym, ◌∙◌}
use Rattle.sdh_restoration.specs.Rounds.{history_of}
use Rattle.sdh_restoration.proofs.Ends.{last_end-here, last_end-before, last_end-none}
use Rattle.sdh_restoration.proofs.history.last_end.Goals as goal

pub returns-then-ends_after-clause-end : goal.returns-then-ends_after-clause-end
returns-then-ends_after-clause-end c =
    let some : 0 < c.loop-u.u = omega (arith, c.loop-u-test.true) in
    sym (c.loop-u.invariant ∙ last_end-here c.args.threshold (history_of c.args.rounds.now) c.loop-u.u some
    (sym c.ends_after.ensures ∙ c.if-ends_after.true))

pub loop-u-preserved : goal.loop-u-preserved
loop-u-preserved c =
    let some : 0 < c.loop-u.u = omega (arith, c.loop-u-test.true) in
    c.loop-u.invariant ∙ last_end-before c.args.threshold (history_of c.args.rounds.now) c.loop-u.u some
    (sym c.ends_after.ensures ∙ c.if-ends_after.false)

pub returns-clause-end : goal.returns-clause-end
returns-clause-end c =
    sym (c.loop-u.invariant ∙ last_end-none c.args.threshold (history_of c.args.rounds.now) c.loop-u.u (omega (arith, c.loop-u-test.false)))
