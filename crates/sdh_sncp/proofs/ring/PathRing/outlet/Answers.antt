use Rattle.std.proofs.Common.{◌≡◌, Some, [], length, get_or, ap, sym, ◌∙◌, arith}
use Rattle.std.proofs.lemmas.List.{length-map, get_or-map}
use Rattle.std.proofs.lemmas.Option.{slice_get-get_or}
use Rattle.sdh_terminal.specs.Tributaries.{outlets_of}
use Rattle.sdh_sncp.specs.Node.{PathNode}
use Rattle.sdh_sncp.specs.Ring.{HeldPath, outlet_at}
use Rattle.sdh_sncp.proofs.Rings.{has_port, outlet_there}
use Rattle.sdh_sncp.proofs.ring.PathRing.outlet.Goals as goal

pub of-requires : goal.of-requires
of-requires c =
    let low = c.place_of-at.ensures.inside in
    let many : length c.self.inside.deliveries ≡ length c.self.inside.ring.nodes =
    ap length c.self.invariant.delivered ∙ length-map c.self.inside.ring.nodes (λ (n : PathNode). outlets_of n.ports) in
    omega (arith, low, many)

pub outlet-requires-clause-there : goal.outlet-requires-clause-there
outlet-requires-clause-there c =
    let ns = c.self.inside.ring.nodes in
    let at = c.place_of-at.result in
    let node = c.index-nodes_of-at.result in
    has_port c.self.inside.ring c.args.port node c.self.invariant.ring (record {
      at = at;
      place = c.place_of-at.ensures;
      there = slice_get-get_or ns at node c.place_of-at.ensures.inside
          ∙ ap Some (sym (c.index-nodes_of-at.is ∙ ap (λ ms. get_or ms at node) c.nodes_of.ensures));
    })

pub outlet-requires-clause-outlets : goal.outlet-requires-clause-outlets
outlet-requires-clause-outlets c =
    let at = c.place_of-at.result in
    let node = c.index-nodes_of-at.result in
    c.of.ensures ∙ ap (λ ds. get_or ds at []) c.self.invariant.delivered
    ∙ get_or-map (λ (n : PathNode). outlets_of n.ports) c.self.inside.ring.nodes at node [] c.place_of-at.ensures.inside
    ∙ ap (λ (n : PathNode). outlets_of n.ports) (sym (c.index-nodes_of-at.is ∙ ap (λ ms. get_or ms at node) c.nodes_of.ensures))

pub returns : goal.returns
returns c =
    let ns = c.self.inside.ring.nodes in
    let at = c.place_of-at.result in
    let node = c.index-nodes_of-at.result in
    c.outlet.ensures
    ∙ sym (outlet_there c.self.inside.ring c.args.port node (record {
      at = at;
      place = c.place_of-at.ensures;
      there = slice_get-get_or ns at node c.place_of-at.ensures.inside
          ∙ ap Some (sym (c.index-nodes_of-at.is ∙ ap (λ ms. get_or ms at node) c.nodes_of.ensures));
    }))
    ∙ ap (λ (r : HeldPath). outlet_at r c.args.port) c.self.view_is
