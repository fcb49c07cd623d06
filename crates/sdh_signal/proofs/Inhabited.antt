-- A ring with a circuit has nodes.
use Rattle.std.proofs.Common.{◌≡◌, ℕ, ◌<◌, List, Some, arith}
use Rattle.std.specs.Prelude.{slice_get}
use Rattle.sdh_circuits.specs.Provisioned.{Provisioned}
use Rattle.sdh_signal.proofs.Views.{AreOnRing}

pub some-nodes : (n : ℕ) (cs : List Provisioned) → AreOnRing n cs → (index : ℕ) (c : Provisioned) → slice_get cs index ≡ Some c → 0 < n
some-nodes n cs ring index c is = let b = (ring.inside index c is).0 in omega arith

pub below-some : (n p : ℕ) → p < n → 0 < n
below-some n p h = omega arith
