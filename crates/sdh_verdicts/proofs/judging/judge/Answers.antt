use Rattle.std.proofs.Common.{◌∙◌, sym, ap, length, get_or}
use Rattle.sdh_verdicts.proofs.Counts.{never_less, kept_is, over_is, lost_is}
use Rattle.sdh_verdicts.proofs.judging.judge.Goals as goal

pub overflow_sub-inside : goal.overflow_sub-inside
overflow_sub-inside c =
    let arc = c.own_arc-first.ensures in
    never_less (length c.args.map.now) c.requires.of.0 c.args.circuit.now c.args.applied.now.before c.requires.of.1.before
    c.own_arc-first.result.0 c.own_arc-first.result.1 arc.first arc.spans arc.within.0 arc.within.1

pub returns-then-inside-eq0 : goal.returns-then-inside-eq0
returns-then-inside-eq0 c = λ p are. (
    let arc = c.own_arc-first.ensures in
    kept_is (length c.args.map.now) p c.args.circuit.now c.args.applied.now.before are.before
    c.own_arc-first.result.0 c.own_arc-first.result.1 arc.first arc.spans arc.within.0 arc.within.1 c.if-inside-eq0.true)

pub returns-then-inside-applied : goal.returns-then-inside-applied
returns-then-inside-applied c = λ p are. (
    let arc = c.own_arc-first.ensures in
    over_is (length c.args.map.now) p c.args.circuit.now c.args.applied.now.before are.before
    c.own_arc-first.result.0 c.own_arc-first.result.1 arc.first arc.spans arc.within.0 arc.within.1 c.if-inside-eq0.false
    (c.if-inside-applied.true ∙ ap (λ x. get_or c.args.applied.now.before x 0) c.len.ensures.len))

pub returns-else-inside-applied : goal.returns-else-inside-applied
returns-else-inside-applied c = λ p are. (
    let arc = c.own_arc-first.ensures in
    lost_is (length c.args.map.now) p c.args.circuit.now c.args.applied.now.before are.before
    c.own_arc-first.result.0 c.own_arc-first.result.1 arc.first arc.spans arc.within.0 arc.within.1 c.if-inside-eq0.false
    (λ e. c.if-inside-applied.false (e ∙ ap (λ x. get_or c.args.applied.now.before x 0) (sym c.len.ensures.len))))
