use Rattle.std.proofs.Common.{vec_capacity}
use Rattle.sdh_ring.proofs.Rings.{may_receive, may_go, still_ring, still_room, seen_round}
use Rattle.sdh_ring.proofs.adm_ring.AdmRingRunsRounds.round.Goals as goal

pub round-requires-clause-rates : goal.round-requires-clause-rates
round-requires-clause-rates g c = may_receive _ c.self.invariant.ring

pub round-requires-clause-may : goal.round-requires-clause-may
round-requires-clause-may g c = may_go _ _ c.self.view_is c.self.invariant.ring c.requires.whole c.requires.room

pub invariant_of-self : goal.invariant_of-self
invariant_of-self g c = record {
  ring = still_ring _ _ c.self.view_is c.self.invariant.ring c.requires.whole g.P.Plant.exact _ _ _ _ _ _ c.round.ensures;
  spare = c.self.invariant.spare;
  room =
      still_room _ _ c.self.view_is c.self.invariant.ring c.requires.whole g.P.Plant.exact _ _ _ _ _ _ c.round.ensures
      (vec_capacity c.self.inside.spare) c.self.invariant.room;
}

pub returns : goal.returns
returns g c = seen_round _ _ c.self.view_is c.self.invariant.ring c.requires.whole g.P.Plant.exact _ _ _ _ _ _ c.round.ensures
