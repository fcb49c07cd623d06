-- What is kept over spans is kept along the walk of a port, from its end on, counted by spans.
use Rattle.std.proofs.Common.{◌≡◌, ℕ, ◌+◌, ◌<◌, ◌≤◌, Bool, true, false, Some, List, length, subst, arith}
use Rattle.std.specs.Prelude.{slice_get}
use Rattle.sdh_ringmap.specs.Arcs.{is_joined}
use Rattle.sdh_ringmap.specs.declared.Side.{Side}
use Rattle.sdh_circuits.specs.Provisioned.{Provisioned, arc_of}
use Rattle.sdh_circuits.specs.Provisioning.{AreCircuits}
use Rattle.sdh_circuits.specs.declared.End.{End}
use Rattle.sdh_bridge.specs.declared.Origin.{Origin}
use Rattle.sdh_bridge.specs.declared.Origin.TheVariants.{Ais}
use Rattle.sdh_restoration.specs.Applied.{is_applied}
use Rattle.sdh_signal.specs.Settled.{settled}
use Rattle.sdh_restoration.specs.Routes.{hops}
use Rattle.sdh_circuits.specs.Ends.{other_end}
use Rattle.sdh_signal.specs.Walks.{Stand, stand, port, port_at, delivery}
use Rattle.sdh_circuits.specs.Ends.{inward}
use Rattle.sdh_signal.specs.Law.{IsFree, ConnectsFree}
use Rattle.sdh_signal.proofs.Free.{connects_free}
use Rattle.sdh_signal.proofs.Ways.{IsKeptOver, along, routed, end_inside}

module _ (rs : List ℕ) (slots : ℕ) (cs : List Provisioned) (form : AreCircuits (length rs) slots cs) (index : ℕ) (c : Provisioned)
    (get : slice_get cs index ≡ Some c) (e : End) where
  abbrev n : ℕ
  n = length rs

  abbrev applied : ℕ → Bool
  applied = is_applied rs

  abbrev m : ℕ
  m = c.slot.0

  abbrev start : Stand
  start = delivery n (settled rs) cs c e

  connects : (p : ℕ) (d : Side) → ConnectsFree n applied (settled rs) cs p d m
  connects p d = connects_free rs cs p d m

  start_inside : start.at < n
  unfolding delivery
  start_inside = end_inside n slots cs form index c get e

  start_free : IsFree n applied start.at start.origin
  unfolding delivery
  start_free = (connects (port_at c e) (inward e)).stands

  module _ (P : ℕ → ℕ → Origin → Type 0) (last : ℕ) (kept : IsKeptOver n applied (settled rs) cs m P 0 last) where
    -- a port of a joined circuit, from the other port
    pub joined_walk : is_joined n applied (arc_of n c) ≡ true → hops n applied (arc_of n c) ≤ last
        → P 0 (port_at c (other_end e)) (port index (other_end e)) → P (hops n applied (arc_of n c)) start.at start.origin
    joined_walk j few is =
        let h = hops n applied (arc_of n c) in
        let same : 0 + h ≡ h = omega arith in
        subst (λ s. P s start.at start.origin) same
        (along n applied (settled rs) cs m connects P 0 last kept h 0 start
        (stand (port_at c (other_end e)) (port index (other_end e))) start_inside start_free (omega arith) (omega arith)
        ((routed rs slots cs form index c get e).joined j) is)

    -- every other port, from AIS
    pub parted_walk : is_joined n applied (arc_of n c) ≡ false → n ≤ last → ((q : ℕ) → P 0 q Ais)
        → (k : ℕ) × (k < n) × P k start.at start.origin
    parted_walk j few silent =
        let s = (routed rs slots cs form index c get e).parted j in
        let less : s.0 < n = s.2 in
        let same : 0 + s.0 ≡ s.0 = omega arith in (
          s.0,
          less,
          subst (λ r. P r start.at start.origin) same
              (along n applied (settled rs) cs m connects P 0 last kept s.0 0 start (stand s.1 Ais) start_inside start_free (omega arith)
              (omega arith) s.3 (silent s.1)),
        )
