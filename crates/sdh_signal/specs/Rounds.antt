-- How soon a ring is steady, where the connections stay the same.
use Rattle.std.specs.Prelude.{ℕ, ◌+◌, ◌<◌, ◌≤◌, List}
use Rattle.sdh_circuits.specs.Provisioned.{Provisioned}
use Rattle.sdh_nodestate.specs.declared.NodeState.{NodeState}
use Rattle.sdh_bridge.specs.declared.Origin.{Origin}
use Rattle.sdh_signal.specs.Walks.{IsArrival, IsOver, back_from}

-- `steady t p o` says that from round t on what the origin o brings at p is steady. What ports send, and AIS, is steady
-- from round `first` on, and over each span it takes w rounds more.
pub record Spreads (n : ℕ) (state : ℕ → NodeState) (cs : List Provisioned) (m : ℕ) (steady : ℕ → ℕ → Origin → Type 0)
    (first w : ℕ) : Type 0 where
  pub starts : (p : ℕ) (o : Origin) → p < n → IsOver o → steady first p o
  pub later : (t u p : ℕ) (o : Origin) → t ≤ u → steady t p o → steady u p o
  pub over_span : (t p : ℕ) (o : Origin) → p < n → IsArrival o → first ≤ t
      → (let b = back_from n state cs m p o in steady t b.at b.origin → steady (t + w) p o)
