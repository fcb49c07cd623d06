-- A walk stays at positions of the ring.
use Rattle.std.proofs.Common.{ℕ, ◌<◌, List, arith}
use Rattle.sdh_bridge.specs.declared.Origin.{Origin}
use Rattle.sdh_bridge.specs.declared.Origin.TheVariants.{Add, Ais, Protection, Working}
use Rattle.sdh_circuits.specs.Provisioned.{Provisioned}
use Rattle.sdh_ringmap.proofs.Sides.{neighbour_below}
use Rattle.sdh_signal.proofs.States.{Resting}
use Rattle.sdh_signal.specs.Walks.{back_from}

module _ (n : ℕ) (r : Resting n) (cs : List Provisioned) (m : ℕ) where
  pub back-inside : (p : ℕ) (o : Origin) → p < n → (back_from n r.state cs m p o).at < n
  back-inside p Ais h = h
  back-inside p (Add q) h = h
  back-inside p (Working d) h = neighbour_below n p d (omega arith)
  back-inside p (Protection d) h = neighbour_below n p d (omega arith)
