use Rattle.std.proofs.Common.{refl}
use Rattle.sdh_rounds.proofs.Breaking.{fits_with}
use Rattle.sdh_rounds.proofs.ring.StationRing.moment.Goals as goal

pub invariant_of-self : goal.invariant_of-self
invariant_of-self g c =
    let inv = c.self.invariant in
    record {
      arrived = inv.arrived;
      west = inv.west;
      east = inv.east;
      ring = fits_with _ c.self.inside.nodes.items _ _ _ inv.ring refl;
    }
