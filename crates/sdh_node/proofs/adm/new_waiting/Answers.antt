use Rattle.std.proofs.Common.{false, ap, sym, subst, arith, ◌∙◌}
use Rattle.std.specs.Prelude.{All}
use Rattle.sdh_ringmap.specs.declared.Side.TheVariants.{West, East}
use Rattle.sdh_nodestate.specs.Words.{first_word}
use Rattle.sdh_node.specs.Crossing.{Cross, all_delivered}
use Rattle.sdh_node.specs.Node.{new_node, new_cross}
use Rattle.sdh_terminal.specs.Sending.{Sending, new_sending}
use Rattle.sdh_terminal.specs.Tributaries.{IsTributary}
use Rattle.sdh_node.proofs.Turning.{node_of}
use Rattle.sdh_node.proofs.Later.{new_waits}
use Rattle.sdh_node.proofs.adm.new_waiting.Goals as goal

pub invariant_of-result : goal.invariant_of-result
invariant_of-result c =
    let cross = c.in_ok-try_new-4.ensures in
    record {
      node = record {
        west_rate = ap (λ (x : Cross). x.west.section.rate) cross;
        west_out_rate = ap (λ (s : Sending). s.section.rate) c.in_ok-try_new-2.ensures;
        east_out_rate = ap (λ (s : Sending). s.section.rate) c.in_ok-try_new-3.ensures;
        moments = ap (λ (x : Cross). x.east.local.moment) cross ∙ sym (ap (λ (x : Cross). x.west.local.moment) cross);
        held = omega arith;
        ports = subst (λ slots. All (IsTributary slots 0) c.in_ok-ports.ports) c.requires.slots c.in_ok-ports.ensures.slots;
      };
      room = c.in_ok-ports.ensures.room;
      taken = λ each. cc;
    }

pub returns : goal.returns
unfolding new_node
returns c =
    let s = c.args.settings in
    let ids = c.args.map.now in
    let circuits = c.args.circuits.now.circuits in
    let ports = c.in_ok-ports.ensures.ports in
    let cross = c.in_ok-try_new-4.ensures in
    let west = c.in_ok-try_new-2.ensures ∙ ap (new_sending s.rate) c.first_word-west.ensures.word in
    let east = c.in_ok-try_new-3.ensures ∙ ap (new_sending s.rate) c.first_word-east.ensures.word in
    (λ j. node_of s 0 0 (cross j) (all_delivered (cross j) (ports j)) (west j) (east j) false)
    ∙ (λ j. node_of s 0 0 (new_cross s ids circuits c.args.at) (new_waits s ids circuits c.args.at j)
    (new_sending s.rate (first_word ids c.args.at.0 West)) (new_sending s.rate (first_word ids c.args.at.0 East)) false)
