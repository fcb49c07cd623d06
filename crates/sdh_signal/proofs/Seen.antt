-- A circuit seen from one of its ends.
use Rattle.std.proofs.Common.{◌≡◌, ℕ, ◌<◌, Bool, Some, None, List}
use Rattle.std.specs.Prelude.{◌&&◌}
use Rattle.sdh_circuits.specs.Provisioned.{Provisioned}
use Rattle.sdh_circuits.specs.declared.End.{End}
use Rattle.sdh_circuits.specs.declared.End.TheVariants.{A, B}
use Rattle.sdh_ringmap.specs.Places.{opposite}
use Rattle.sdh_ringmap.specs.declared.Side.{Side}
use Rattle.sdh_signal.proofs.Views.{arc_length, end_at}
use Rattle.sdh_ringmap.specs.Steps.{going, way}
use Rattle.sdh_circuits.specs.Ends.{inward}
use Rattle.sdh_signal.specs.Walks.{port_at}
use Rattle.sdh_squelch.proofs.LookUps.{entry}
use Rattle.sdh_squelch.specs.Table.{circuit_from}

-- from its end `near` at p the arc leads on side d to its end `distant`
pub record Seen (n : ℕ) (cs : List Provisioned) (index : ℕ) (c : Provisioned) (d : Side) (p : ℕ) (near distant : End) : Type 0 where
  pub long : 0 < (arc_length n c)
  pub short : (arc_length n c) < n
  -- the circuit is on each span of its arc
  pub on_arc : (i : ℕ) → i < (arc_length n c) → circuit_from n (way n d p i) c.slot.0 0 cs ≡ Some (entry index c)
  pub starts : end_at c (going n d p 0) ≡ Some near
  pub passes_by : (i : ℕ) → 0 < i → i < (arc_length n c) → end_at c (going n d p i) ≡ None
  -- its ports are at the first and the last of these positions
  pub both : (f : ℕ → Bool) → (f (port_at c A) && f (port_at c B)) ≡ (f (going n d p 0) && f (going n d p (arc_length n c)))
  pub distant_at : port_at c distant ≡ going n d p (arc_length n c)
  pub distant_faces : inward distant ≡ opposite d
