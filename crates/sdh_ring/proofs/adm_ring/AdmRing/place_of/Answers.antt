use Rattle.sdh_ring.proofs.Owned.{owned_from, outlet_owned}
use Rattle.sdh_ring.proofs.adm_ring.AdmRing.place_of.Goals as goal

pub returns-clause-place : goal.returns-clause-place
returns-clause-place g c = (owned_from _ _ c.args.port _ c.self.invariant.ring c.self.view_is c.place_of.ensures).place

pub returns-clause-inside : goal.returns-clause-inside
returns-clause-inside g c = (owned_from _ _ c.args.port _ c.self.invariant.ring c.self.view_is c.place_of.ensures).inside

pub returns-clause-port : goal.returns-clause-port
returns-clause-port g c = (owned_from _ _ c.args.port _ c.self.invariant.ring c.self.view_is c.place_of.ensures).has

pub returns-clause-outlet : goal.returns-clause-outlet
returns-clause-outlet g c =
    outlet_owned _ _ c.args.port _ c.self.view_is c.place_of.ensures
    (owned_from _ _ c.args.port _ c.self.invariant.ring c.self.view_is c.place_of.ensures)
