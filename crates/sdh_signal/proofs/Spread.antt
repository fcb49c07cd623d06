-- Steadiness spreads from the ports span by span, and so reaches every AU-4 of the ring.
use Rattle.std.proofs.Common.{ℕ, ◌+◌, ◌*◌, ◌<◌, ◌≤◌, suc, zero, List, length, sym, subst, arith}
use Rattle.sdh_bridge.specs.declared.Origin.{Origin}
use Rattle.sdh_circuits.specs.Provisioned.{Provisioned}
use Rattle.sdh_circuits.specs.Provisioning.{AreCircuits}
use Rattle.sdh_signal.specs.Settled.{settled}
use Rattle.sdh_signal.proofs.Inhabited.{below-some}
use Rattle.sdh_signal.proofs.Rest.{resting}
use Rattle.sdh_signal.proofs.Inside.{back-inside}
use Rattle.sdh_signal.proofs.Loops.{no-loop}
use Rattle.sdh_signal.proofs.States.{Resting}
use Rattle.sdh_signal.proofs.Views.{AreOnRing, on-ring}
use Rattle.sdh_signal.specs.Rounds.{Spreads}
use Rattle.sdh_signal.specs.Walks.{IsOver, Leads, Stand, back_from, stand}

module _ (n : ℕ) (r : Resting n) (cs : List Provisioned) (m : ℕ) (steady : ℕ → ℕ → Origin → Type 0) (first w : ℕ)
    (s : Spreads n r.state cs m steady first w) where
  along_walk : (k : ℕ) (x y : Stand) → x.at < n → Leads n r.state cs m k x y → IsOver y.origin → steady (first + w * k) x.at x.origin
  along_walk zero x y i l o =
      s.later first (first + w * 0) x.at x.origin (omega arith)
      (subst (λ (z : Stand). steady first z.at z.origin) (sym l) (s.starts y.at y.origin (subst (λ (z : Stand). z.at < n) l i) o))
  along_walk (suc k) x y i l o =
      let b = back_from n r.state cs m x.at x.origin in
      s.later (first + w * k + w) (first + w * suc k) x.at x.origin (omega arith)
      (s.over_span (first + w * k) x.at x.origin i l.0 (omega arith) (along_walk k b y (back-inside n r cs m x.at x.origin i) l.1 o))

  times : (a b : ℕ) → a ≤ b → w * a ≤ w * b
  times a b h = grind arith

  all-steady : (ring : AreOnRing n cs) → 0 < n → (p : ℕ) (o : Origin) → p < n → steady (first + w * (3 * n + 1)) p o
  all-steady ring some p o h =
      let e = no-loop n r cs ring some m p o h in
      let t = times e.spans (3 * n + 1) e.within in
      s.later (first + w * e.spans) (first + w * (3 * n + 1)) p o (omega arith) (along_walk e.spans (stand (p) (o)) e.last h e.leads e.over)

-- in the settled states of a ring, for any notion of steadiness
pub steadiness_spreads : (rs : List ℕ) (slots : ℕ) (cs : List Provisioned) → AreCircuits (length rs) slots cs
    → (m : ℕ) (steady : ℕ → ℕ → Origin → Type 0) (first w : ℕ) → Spreads (length rs) (settled rs) cs m steady first w
    → (p : ℕ) (o : Origin) → p < length rs → steady (first + w * (3 * length rs + 1)) p o
unfolding resting
steadiness_spreads rs slots cs form m steady first w s p o h =
    let some = below-some (length rs) p h in
    all-steady (length rs) (resting rs some) cs m steady first w s (on-ring (length rs) slots cs form) some p o h
