use Rattle.std.proofs.Common.{◌/◌, false, ap, sym, subst, ◌∙◌}
use Rattle.std.specs.Prelude.{All}
use Rattle.sdh_ringmap.specs.Rates.{n_of}
use Rattle.sdh_ringmap.specs.declared.Side.TheVariants.{West, East}
use Rattle.sdh_nodestate.specs.Words.{first_word}
use Rattle.sdh_terminal.specs.Sending.{Sending, new_sending}
use Rattle.sdh_terminal.specs.Tributaries.{IsTributary}
use Rattle.sdh_sncp.specs.Node.{PathCross, new_path_cross, new_path_node}
use Rattle.sdh_sncp.proofs.Turning.{node_of}
use Rattle.sdh_sncp.proofs.Waiting.{delivers, new_waits}
use Rattle.sdh_sncp.proofs.node.PathNode.try_new.Goals as goal

pub invariant_of-result : goal.invariant_of-result
invariant_of-result c =
    let cross = c.in_ok-try_new-4.ensures in
    let rate = ap (λ (x : PathCross). x.west.section.rate) cross in
    record {
      west_out_rate = ap (λ (s : Sending). s.section.rate) c.in_ok-try_new-2.ensures ∙ sym rate;
      east_out_rate = ap (λ (s : Sending). s.section.rate) c.in_ok-try_new-3.ensures ∙ sym rate;
      ports =
          subst (λ slots. All (IsTributary slots 0) c.in_ok-try_new.field-0)
          (c.requires.slots ∙ ap (λ r. n_of r / 2) (sym rate)) c.in_ok-try_new.ensures.slots;
    }

pub returns : goal.returns
unfolding new_path_node
returns c =
    let s = c.args.settings in
    let ids = c.args.map.now in
    let circuits = c.args.circuits.now.circuits in
    let ports = c.in_ok-try_new.ensures.ports in
    let cross = c.in_ok-try_new-4.ensures in
    let west = c.in_ok-try_new-2.ensures ∙ ap (new_sending s.rate) c.first_word-west.ensures.word in
    let east = c.in_ok-try_new-3.ensures ∙ ap (new_sending s.rate) c.first_word-east.ensures.word in
    (λ j. node_of s.threshold 0 (cross j) (delivers (cross j) (ports j)) (west j) (east j) false)
    ∙ (λ j. node_of s.threshold 0 (new_path_cross s.rate circuits c.args.at) (new_waits s.rate circuits c.args.at j)
    (new_sending s.rate (first_word ids c.args.at.0 West)) (new_sending s.rate (first_word ids c.args.at.0 East)) false)
