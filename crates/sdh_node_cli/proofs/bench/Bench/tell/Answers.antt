use Rattle.std.proofs.Common.{ap, sym, subst, ◌∙◌, arith}
use Rattle.sdh_node.specs.Node.{Node}
use Rattle.sdh_terminal.specs.Tributaries.{HasPort}
use Rattle.sdh_node_cli.proofs.Own.{has_slipped}
use Rattle.sdh_node_cli.proofs.bench.Bench.tell.Goals as goal

pub invariant_of-self-in-Slip : goal.invariant_of-self-in-Slip
invariant_of-self-in-Slip c =
    let inv = c.self.invariant in
    let is = sym c.slip.ensures.node in (
      record {
        forward = omega (arith, c.slip.ensures.moment, inv.0.forward);
        within = inv.0.within;
        few = inv.0.few;
        ports = λ port own. subst (λ (n : Node). HasPort n.ports port) is
            (has_slipped port c.in-Slip.port c.in-Slip.turn c.in-Slip.count c.self.inside.node.ports (inv.0.ports port own));
      },
      inv.1 ∙ ap (λ (n : Node). n.rounds) is,
      inv.2 ∙ ap (λ (n : Node). n.settings.rate) is,
      inv.3 ∙ ap (λ (n : Node). n.settings.rate) is,
    )
