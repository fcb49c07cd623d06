use Rattle.std.proofs.Common.{◌≤◌, sym, subst, ap, ◌∙◌, arith}
use Rattle.sdh_terminal.specs.Tributaries.{HasPort}
use Rattle.sdh_node.specs.Node.{Node, new_node, moment_of}
use Rattle.sdh_node_cli.proofs.Own.{own_there}
use Rattle.sdh_node_cli.proofs.bench.Bench.try_new.Goals as goal

pub invariant_of-result : goal.invariant_of-result
unfolding new_node
invariant_of-result c =
    let is = sym c.in_ok-node.ensures in
    let rate = ap (λ (n : Node). n.settings.rate) is in (
      record {
        forward = subst (λ (n : Node). moment_of n ≤ 0) is (omega arith);
        within = omega arith;
        few = omega (arith, c.if-prove.false);
        ports = λ port own. subst (λ (n : Node). HasPort n.ports port) is (own_there _ c.args.at port own);
      },
      ap (λ (n : Node). n.rounds) is,
      c.in_ok-west.ensures.0 ∙ rate,
      c.in_ok-west.ensures.1 ∙ rate,
    )
