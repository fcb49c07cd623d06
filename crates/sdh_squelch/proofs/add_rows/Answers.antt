use Rattle.std.proofs.Common.{◌≡◌, ℕ, Option, ◌+◌, ◌++◌, ◌∙◌, ap, sym, subst, length, arith}
use Rattle.sdh_squelch.specs.declared.Row.{Row}
use Rattle.std.specs.List.{All}
use Rattle.sdh_basics.specs.Cells.{cells}
use Rattle.sdh_squelch.specs.Table.{circuit_on, HasEnds}
use Rattle.sdh_squelch.proofs.LookUps.{rows-none, rows-more, ends-more}
use Rattle.sdh_squelch.proofs.add_rows.Goals as goal

pub loop-i-init : goal.loop-i-init
loop-i-init c = λ ids kept.
    (rows-none (λ i. circuit_on (length ids) c.args.circuits.now.circuits c.args.span.0 (i + 1)) c.args.rows.now.items, λ ends. ends)

pub loop-i-preserved : goal.loop-i-preserved
loop-i-preserved c = λ ids kept.
    let f : ℕ → Option Row = λ i. circuit_on (length ids) c.args.circuits.now.circuits c.args.span.0 (i + 1) in
    let before = c.loop-i.invariant ids kept in
    let added = c.in_ok-push.ensures.items in (
      added ∙ rows-more f c.args.rows.now.items c.loop-i.rows.items c.loop-i.i c.row_on.result before.0 (c.row_on.ensures.row ids kept),
      λ ends. subst (All (HasEnds (length ids))) (sym added)
          (ends-more (length ids) c.loop-i.rows.items c.row_on.result (before.1 ends) (c.row_on.ensures.ends ids kept)),
    )

pub returns-clause-rows : goal.returns-clause-rows
returns-clause-rows c = λ ids kept.
    let f : ℕ → Option Row = λ i. circuit_on (length ids) c.args.circuits.now.circuits c.args.span.0 (i + 1) in
    let all : c.loop-i.i ≡ 8 = omega arith in
    (c.loop-i.invariant ids kept).0 ∙ ap (λ k. c.args.rows.now.items ++ cells f k) all

pub returns-clause-ends : goal.returns-clause-ends
returns-clause-ends c = λ ids kept. (c.loop-i.invariant ids kept).1
