use Rattle.std.proofs.Common.{◌≡◌, ◌+◌, ◌≤◌, length, rules, sym, eqb-true, eq-eqb, arith}
use Rattle.sdh_node_cli.proofs.EndLine.{here_by, ends_first, ends_later, ends_back}
use Rattle.sdh_node_cli.proofs.head.ends_plan.Goals as goal

pub returns-then-at-eq0 : goal.returns-then-at-eq0
returns-then-at-eq0 c =
    let bytes = c.args.bytes.now in
    let at = c.in-Some.at in (
      λ e. ends_first bytes at (here_by bytes at (sym c.if-eq.ensures)) c.if-at-eq0.true,
      λ ends. eq-eqb at 0 c.if-at-eq0.true,
    )

pub returns-else-at-eq0 : goal.returns-else-at-eq0
returns-else-at-eq0 c =
    let bytes = c.args.bytes.now in
    let at = c.in-Some.at in
    let size : at + 12 ≡ length bytes = search rules in
    let some : 1 ≤ at = search rules in (
      λ e. ends_later bytes at (here_by bytes at (sym c.if-eq.ensures)) some (omega (arith, size)) (eqb-true _ 10 e),
      λ ends. eq-eqb _ 10 (ends_back bytes at size some ends),
    )
