use Rattle.std.proofs.Common.{◌≡◌, subst}
use Rattle.sdh_terminal.specs.Tributaries.{outlet_of, waiting_of}
use Rattle.sdh_node.specs.Rings.Held.{HeldRing, outlet_at}
use Rattle.sdh_node.specs.Rings.Clocks.{waiting_at}
use Rattle.sdh_ring.proofs.Owned.{has_port, outlet_there, waits_at}
use Rattle.sdh_ring.proofs.adm_ring.AdmRing.node_of.Goals as goal

pub returns-clause-port : goal.returns-clause-port
returns-clause-port g c = has_port _ c.args.port _ c.self.invariant.ring c.node_of.ensures

pub returns-clause-outlet : goal.returns-clause-outlet
returns-clause-outlet g c =
    subst (λ (r : HeldRing). outlet_at r c.args.port ≡ outlet_of c.args.port c.node_of.result.now.ports) c.self.view_is
    (outlet_there _ c.args.port _ c.node_of.ensures)

pub returns-clause-waiting : goal.returns-clause-waiting
returns-clause-waiting g c =
    subst (λ (r : HeldRing). waiting_at r c.args.port ≡ waiting_of c.args.port c.node_of.result.now.ports) c.self.view_is
    (waits_at _ c.args.port _ c.self.invariant.ring c.node_of.ensures)
