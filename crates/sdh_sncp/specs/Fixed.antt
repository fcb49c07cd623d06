-- The part of a node that a path ring's calls never change, and what is true of every path ring.
use Rattle.std.specs.Prelude.{ℕ, ◌≡◌, ◌/◌, false, Some, List, length, map, All, slice_get}
use Rattle.sdh_ringmap.specs.declared.terms.Rate.{Rate}
use Rattle.sdh_ringmap.specs.Rates.{n_of}
use Rattle.sdh_ringmap.specs.Ids.{AreIds}
use Rattle.sdh_circuits.specs.Provisioned.{Provisioned}
use Rattle.sdh_circuits.specs.Provisioning.{IsProvisioning}
use Rattle.sdh_circuits.specs.Kept.{KeepsRing}
use Rattle.sdh_sncp.specs.declared.slots.Use.{Use}
use Rattle.sdh_sncp.specs.Node.{PathNode}
use Rattle.sdh_sncp.specs.Ring.{HeldPath, new_nodes}
use Rattle.sdh_sncp.specs.Placed.{IsPlacedPathRing}
use Rattle.sdh_terminal.specs.Fixed.{FixedPort, fixed_port}

-- the part of a node that stays, whatever it receives and sends
pub record FixedPath : Type 0 where
  pub threshold : ℕ
  pub rate : Rate
  pub uses : List Use
  pub ports : List FixedPort

unfoldable pub fixed_path : PathNode → FixedPath
fixed_path n = record { threshold = n.threshold; rate = n.west.section.rate; uses = n.uses; ports = map fixed_port n.ports }

-- no two circuits share a slot
abbrev pub AreAlone : List Provisioned → Type 0
AreAlone circuits =
    (i j : ℕ) (c d : Provisioned) → slice_get circuits i ≡ Some c → slice_get circuits j ≡ Some d → c.slot.0 ≡ d.slot.0 → i ≡ j

abbrev pub HaveRun : ℕ → List PathNode → Type 0
HaveRun rounds ns = All (λ (n : PathNode). n.rounds ≡ rounds) ns

-- What is true of every path ring. Each node is that of a new ring, except for what calls change. Unless a round was
-- broken off, all nodes are in their places and have run the ring's rounds.
pub record IsRing (r : HeldPath) : Type 0 where
  pub ids : AreIds r.ids
  pub circuits : IsProvisioning r.circuits
  pub slots : r.circuits.slots ≡ n_of r.settings.rate / 2
  pub kept : KeepsRing r.circuits r.ids
  pub alone : AreAlone r.circuits.circuits
  pub nodes : map fixed_path r.nodes ≡ map fixed_path (new_nodes r.settings r.ids r.circuits.circuits (length r.ids))
  pub going : r.broken ≡ false → HaveRun r.rounds r.nodes
  pub placed : r.broken ≡ false → IsPlacedPathRing r
