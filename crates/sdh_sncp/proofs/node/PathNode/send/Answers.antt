use Rattle.std.proofs.Common.{◌+◌, ◌/◌, ◌<◌, ap, sym, subst, ◌∙◌}
use Rattle.std.specs.Prelude.{All, ◌^◌}
use Rattle.sdh_ringmap.specs.Rates.{n_of}
use Rattle.sdh_terminal.specs.Tributaries.{IsTributary}
use Rattle.sdh_terminal.proofs.Ports.{few_rounds, fed_are}
use Rattle.sdh_sncp.specs.Node.{PathNode, path_node_round, GoesOn}
use Rattle.sdh_sncp.proofs.Turning.{west_frame_is, east_frame_is, calm_is, node_is, round_goes_on}
use Rattle.sdh_sncp.proofs.node.PathNode.send.Goals as goal

pub feed-requires : goal.feed-requires
feed-requires c =
    let i = c.self.inside in
    let slots = n_of i.cross.west.section.rate / 2 in
    let few : i.rounds < 2 ^ 32 = subst (λ (n : PathNode). n.rounds < 2 ^ 32) (sym c.self.view_is) c.requires.few in
    few_rounds slots i.rounds i.ports few c.self.invariant.ports

pub invariant_of-self : goal.invariant_of-self
invariant_of-self c =
    let i = c.self.inside in
    let inv = c.self.invariant in
    let rate = c.take-taken.ensures.rate in
    let slots = n_of i.cross.west.section.rate / 2 in
    record {
      west_out_rate = c.send_both-west_made.ensures.rates.0 ∙ inv.west_out_rate ∙ sym rate;
      east_out_rate = c.send_both-west_made.ensures.rates.1 ∙ inv.east_out_rate ∙ sym rate;
      ports = subst (λ r. All (IsTributary (n_of r / 2) (i.rounds + 1)) c.feed.new.self) (sym rate)
          (subst (All (IsTributary slots (i.rounds + 1))) (sym c.feed.ensures)
          (fed_are slots i.rounds i.ports inv.ports));
    }

pub returns-clause-west : goal.returns-clause-west
returns-clause-west c =
    let i = c.self.inside in
    west_frame_is i.threshold i.rounds i.cross i.ports i.west_out i.east_out i.calm c.take-taken.new.self c.feed.new.self c.take-taken.ensures.cross c.feed.ensures
    c.send_both-west_made.new.west_out c.send_both-west_made.ensures.west_frame
    ∙ ap (λ (n : PathNode). (path_node_round n).1.west) c.self.view_is

pub returns-clause-east : goal.returns-clause-east
returns-clause-east c =
    let i = c.self.inside in
    east_frame_is i.threshold i.rounds i.cross i.ports i.west_out i.east_out i.calm c.take-taken.new.self c.feed.new.self c.take-taken.ensures.cross c.feed.ensures
    c.send_both-west_made.new.east_out c.send_both-west_made.ensures.east_frame
    ∙ ap (λ (n : PathNode). (path_node_round n).1.east) c.self.view_is

pub returns-clause-node : goal.returns-clause-node
returns-clause-node c =
    let i = c.self.inside in
    let told = c.is_calm-calm.ensures
    ∙ calm_is i.threshold i.rounds i.cross i.ports i.west_out i.east_out i.calm c.take-taken.new.self c.feed.new.self c.take-taken.ensures.cross c.feed.ensures
    c.send_both-west_made.new.west c.send_both-west_made.new.east c.send_both-west_made.ensures.west c.send_both-west_made.ensures.east
    c.has_run-ran.result c.take-taken.result c.send_both-west_made.result.0 c.send_both-west_made.result.1
    c.has_run-ran.ensures c.take-taken.ensures.same c.send_both-west_made.ensures.west_same c.send_both-west_made.ensures.east_same in
    node_is i.threshold i.rounds i.cross i.ports i.west_out i.east_out i.calm c.take-taken.new.self c.feed.new.self c.take-taken.ensures.cross c.feed.ensures
    c.send_both-west_made.new.west c.send_both-west_made.new.east c.send_both-west_made.ensures.west c.send_both-west_made.ensures.east
    c.is_calm-calm.result told
    ∙ ap (λ (n : PathNode). (path_node_round n).0) c.self.view_is

pub returns-clause-goes_on : goal.returns-clause-goes_on
returns-clause-goes_on c = subst (GoesOn c.args.self.now) (sym (returns-clause-node c)) (round_goes_on c.args.self.now)
