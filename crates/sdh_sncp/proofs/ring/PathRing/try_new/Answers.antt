use Rattle.std.proofs.Common.{◌≡◌, length, map, ap, sym, subst, ◌∙◌, rules}
use Rattle.sdh_payload.specs.Outlet.{silent}
use Rattle.sdh_plant.specs.Calls.{prepared}
use Rattle.sdh_terminal.specs.Tributaries.{outlets_of}
use Rattle.sdh_sncp.specs.Node.{PathNode}
use Rattle.sdh_sncp.specs.Ring.{HeldPath, world, outlet_at}
use Rattle.sdh_sncp.specs.Fixed.{AreAlone, IsRing}
use Rattle.sdh_sncp.specs.Laws.{IsPairedPathRing}
use Rattle.sdh_sncp.proofs.Rings.{fresh_is, new_is_ring}
use Rattle.sdh_sncp.proofs.ring.PathRing.try_new.Goals as goal

pub invariant_of-result : goal.invariant_of-result
invariant_of-result c =
    let alone : AreAlone c.args.circuits.circuits = search rules in
    record {
      ring = subst IsRing (sym (c.in_ok-ring.ensures ∙ fresh_is c.args.settings c.args.map c.args.circuits))
          (new_is_ring c.args.settings c.args.map c.args.circuits c.len.ensures.ids c.len-2.ensures.form c.requires.slots c.requires.kept
          alone);
      delivered = c.in_ok-deliveries.ensures ∙ ap (map (λ (n : PathNode). outlets_of n.ports)) c.nodes_of.ensures;
    }

pub returns-clause-paired : goal.returns-clause-paired
returns-clause-paired c = λ f honest.
    subst (λ (r : HeldPath). IsPairedPathRing (world r (prepared c.args.settings.rate (length c.args.map) f)))
    (sym (c.in_ok-ring.ensures ∙ fresh_is c.args.settings c.args.map c.args.circuits))
    (c.new_worlds_are_whole.ensures c.args.settings c.args.map c.args.circuits f c.len.ensures.ids honest).paired

pub returns-clause-silent : goal.returns-clause-silent
returns-clause-silent c =
    λ port. subst (λ (r : HeldPath). outlet_at r port ≡ silent)
    (sym (c.in_ok-ring.ensures ∙ fresh_is c.args.settings c.args.map c.args.circuits))
    (c.new_rings_are_silent.ensures c.args.settings c.args.map c.args.circuits port)
