use Rattle.std.proofs.Common.{◌+◌, ◌/◌, ◌≤◌, length, ap, sym, subst, ◌∙◌}
use Rattle.std.specs.Prelude.{All}
use Rattle.sdh_ringmap.specs.Rates.{n_of}
use Rattle.sdh_terminal.specs.Tributaries.{HasPort, waiting_of, outlets_of, IsTributary}
use Rattle.sdh_node.specs.Crossing.{all_delivered}
use Rattle.sdh_node.specs.Node.{Node, slips_at}
use Rattle.sdh_terminal.proofs.Slips.{slips_are}
use Rattle.sdh_node.proofs.Kept.{slips_delivered, slips_many}
use Rattle.sdh_node.proofs.Turning.{node_of}
use Rattle.sdh_node.proofs.Later.{few_wait, has_waits, slips_later}
use Rattle.sdh_node.proofs.adm.Adm.slip.Goals as goal

pub invariant_of-self : goal.invariant_of-self
invariant_of-self g c =
    let i = c.self.inside in
    let inv = c.self.invariant.node in
    let slots = n_of i.settings.rate / 2 in
    let few : waiting_of c.args.port i.ports + c.args.count ≤ 16 = few_wait c.args.port c.args.count i.cross i.ports
    (subst (λ (n : Node). waiting_of c.args.port n.ports + c.args.count ≤ 16) (sym c.self.view_is) c.requires.few) in
    record {
      node = record {
        west_rate = inv.west_rate;
        west_out_rate = inv.west_out_rate;
        east_out_rate = inv.east_out_rate;
        moments = inv.moments;
        held = inv.held;
        ports =
            subst (All (IsTributary slots i.rounds)) (sym c.slip.ensures)
            (slips_are slots i.rounds c.args.port _ c.args.count i.ports few inv.ports);
      };
      room = c.self.invariant.room ∙ sym (ap length c.slip.ensures ∙ slips_many c.args.port c.args.turn c.args.count i.ports);
      taken = λ each.
          c.self.invariant.taken each ∙ sym (ap (λ ts. outlets_of (all_delivered i.cross ts)) c.slip.ensures
          ∙ ap outlets_of (slips_later i.cross c.args.port c.args.turn c.args.count i.ports)
          ∙ slips_delivered c.args.port c.args.turn c.args.count (all_delivered i.cross i.ports));
    }

pub slip-requires-clause-there : goal.slip-requires-clause-there
slip-requires-clause-there g c =
    let i = c.self.inside in
    has_waits i.cross c.args.port i.ports (subst (λ (n : Node). HasPort n.ports c.args.port) (sym c.self.view_is) c.requires.there)

pub slip-requires-clause-few : goal.slip-requires-clause-few
slip-requires-clause-few g c =
    let i = c.self.inside in
    few_wait c.args.port c.args.count i.cross i.ports
    (subst (λ (n : Node). waiting_of c.args.port n.ports + c.args.count ≤ 16) (sym c.self.view_is) c.requires.few)

pub returns-clause-node : goal.returns-clause-node
returns-clause-node g c =
    let i = c.self.inside in
    (λ j. node_of i.settings i.rounds i.held i.cross (all_delivered i.cross (c.slip.ensures j)) i.west_out i.east_out i.calm)
    ∙ (λ j. node_of i.settings i.rounds i.held i.cross (slips_later i.cross c.args.port c.args.turn c.args.count i.ports j) i.west_out i.east_out
    i.calm)
    ∙ ap (slips_at c.args.port c.args.turn c.args.count) c.self.view_is
