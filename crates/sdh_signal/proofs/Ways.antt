-- What is kept over free spans is kept along a walk in settled states, one span a round. `P t p o`: in round t the
-- origin o of slot m brings at position p what is followed.
use Rattle.std.proofs.Common.{◌≡◌, ℕ, zero, suc, ◌+◌, ◌-◌, ◌*◌, ◌<◌, ◌≤◌, Bool, true, false, Some, List, length, sym, subst, arith, inl}
use Rattle.std.proofs.Common.{inr}
use Rattle.std.specs.Prelude.{slice_get}
use Rattle.std.proofs.lemmas.Bool.{cases_Bool}
use Rattle.sdh_ringmap.specs.Arcs.{is_clear, is_joined}
use Rattle.sdh_ringmap.specs.Places.{opposite, neighbour}
use Rattle.sdh_ringmap.specs.declared.Side.{Side}
use Rattle.sdh_ringmap.proofs.Sides.{neighbour_below}
use Rattle.sdh_circuits.specs.Provisioned.{Provisioned, arc_of}
use Rattle.sdh_circuits.specs.Provisioning.{AreCircuits}
use Rattle.sdh_circuits.specs.declared.End.{End}
use Rattle.sdh_circuits.specs.declared.End.TheVariants.{A, B}
use Rattle.sdh_nodestate.specs.declared.NodeState.{NodeState}
use Rattle.sdh_restoration.specs.Applied.{is_applied}
use Rattle.sdh_signal.specs.Settled.{settled}
use Rattle.sdh_restoration.specs.Routes.{hops}
use Rattle.sdh_circuits.specs.Ends.{other_end}
use Rattle.sdh_bridge.specs.declared.Origin.{Origin}
use Rattle.sdh_bridge.specs.declared.Origin.TheVariants.{Add, Working, Protection, Ais}
use Rattle.sdh_signal.specs.Walks.{Stand, stand, port, port_at, IsArrival, back_from, Leads, delivery}
use Rattle.sdh_circuits.specs.Ends.{inward}
use Rattle.sdh_signal.specs.Law.{IsRouted, IsShort, IsFree, ConnectsFree}
use Rattle.sdh_signal.proofs.Views.{on-ring}
use Rattle.sdh_signal.proofs.Rest.{resting}
use Rattle.sdh_signal.proofs.Inhabited.{some-nodes}
use Rattle.sdh_signal.proofs.Lengths.{is-short}
use Rattle.sdh_signal.proofs.Sights.{arc-long, arc-short}
use Rattle.sdh_signal.proofs.Routes.{routes}
use Rattle.sdh_signal.proofs.Free.{connects_free}

-- P is kept over each span that is free, from the round at its one end to the next round at its other, between these
-- rounds
abbrev pub IsKeptOver : (n : ℕ) (applied : ℕ → Bool) (state : ℕ → NodeState) (cs : List Provisioned) (m : ℕ) (P : ℕ → ℕ → Origin → Type 0)
    (first last : ℕ) → Type 0
IsKeptOver n applied state cs m P first last = (t p : ℕ) (o : Origin) → p < n → IsArrival o → IsFree n applied p o → first ≤ t → t < last
    → (let b = back_from n state cs m p o in P t b.at b.origin → P (t + 1) p o)

module _ (n : ℕ) (applied : ℕ → Bool) (state : ℕ → NodeState) (cs : List Provisioned) (m : ℕ)
    (connects : (p : ℕ) (d : Side) → ConnectsFree n applied state cs p d m) where
  pub back_free : (p : ℕ) (o : Origin) → IsFree n applied p o → (let b = back_from n state cs m p o in IsFree n applied b.at b.origin)
  back_free p Ais f = f
  back_free p (Add q) f = f
  back_free p (Working d) f = (connects (neighbour n p d) (opposite d)).working
  back_free p (Protection d) f = (connects (neighbour n p d) (opposite d)).protection

  pub back_inside : (p : ℕ) (o : Origin) → p < n → (back_from n state cs m p o).at < n
  back_inside p Ais lt = lt
  back_inside p (Add q) lt = lt
  back_inside p (Working d) lt = neighbour_below n p d (omega arith)
  back_inside p (Protection d) lt = neighbour_below n p d (omega arith)

  -- P holds at the start of a walk of k spans, if it held k rounds before at the walk's end
  pub along : (P : ℕ → ℕ → Origin → Type 0) (first last : ℕ) → IsKeptOver n applied state cs m P first last
      → (k t : ℕ) (x y : Stand) → x.at < n → IsFree n applied x.at x.origin → first ≤ t → t + k ≤ last → Leads n state cs m k x y
      → P t y.at y.origin → P (t + k) x.at x.origin
  along P first last kept zero t x y lt f early late way is =
      let same : t ≡ t + 0 = omega arith in
      subst (λ s. P s x.at x.origin) same (subst (λ (z : Stand). P t z.at z.origin) (sym way) is)
  along P first last kept (suc k) t x y lt f early late way is =
      let b = back_from n state cs m x.at x.origin in
      let before =
      along P first last kept k t b y (back_inside x.at x.origin lt) (back_free x.at x.origin f) early (omega arith) way.1 is in
      let now : t + k + 1 ≡ t + suc k = omega arith in
      subst (λ s. P s x.at x.origin) now (kept (t + k) x.at x.origin lt way.0 f (omega arith) (omega arith) before)

-- ---- what a port is led to

pub routed : (rs : List ℕ) (slots : ℕ) (cs : List Provisioned) → AreCircuits (length rs) slots cs → (index : ℕ) (c : Provisioned)
    → slice_get cs index ≡ Some c → (e : End)
    → IsRouted (length rs) (is_applied rs) (settled rs) cs index c e
unfolding resting
routed rs slots cs form index c get e =
    let ring = on-ring (length rs) slots cs form in
    routes (length rs) (resting rs (some-nodes (length rs) cs ring index c get)) cs ring index c get e

pub short : (n : ℕ) (applied : ℕ → Bool) (slots : ℕ) (cs : List Provisioned) → AreCircuits n slots cs → (index : ℕ) (c : Provisioned)
    → slice_get cs index ≡ Some c → IsShort n applied c
short n applied slots cs form index c get =
    let ring = on-ring n slots cs form in
    is-short n applied c (arc-long n cs ring index c get) (arc-short n cs ring index c get)

pub few_hops : (n : ℕ) (applied : ℕ → Bool) (c : Provisioned) → IsShort n applied c → hops n applied (arc_of n c) + 1 ≤ 2 * n
few_hops n applied c s = elim (cases_Bool (is_clear n applied (arc_of n c))) [
  | inl t ↦ (let a = s.straight t in omega arith)
  | inr t ↦ (let a = s.around t in omega arith)
]

pub end_inside : (n slots : ℕ) (cs : List Provisioned) → AreCircuits n slots cs → (index : ℕ) (c : Provisioned)
    → slice_get cs index ≡ Some c → (e : End) → port_at c e < n
end_inside n slots cs form index c get A = ((on-ring n slots cs form).inside index c get).0
end_inside n slots cs form index c get B = ((on-ring n slots cs form).inside index c get).1

module _ (rs : List ℕ) (slots : ℕ) (cs : List Provisioned) (form : AreCircuits (length rs) slots cs) (index : ℕ) (c : Provisioned)
    (get : slice_get cs index ≡ Some c) (e : End) where
  abbrev n : ℕ
  n = length rs

  abbrev applied : ℕ → Bool
  applied = is_applied rs

  abbrev m : ℕ
  m = c.slot.0

  abbrev start : Stand
  start = delivery n (settled rs) cs c e

  connects : (p : ℕ) (d : Side) → ConnectsFree n applied (settled rs) cs p d m
  connects p d = connects_free rs cs p d m

  start_inside : start.at < n
  unfolding delivery
  start_inside = end_inside n slots cs form index c get e

  start_free : IsFree n applied start.at start.origin
  unfolding delivery
  start_free = (connects (port_at c e) (inward e)).stands

  module _ (P : ℕ → ℕ → Origin → Type 0) (first last : ℕ) (kept : IsKeptOver n applied (settled rs) cs m P first last) where
    -- a port of a joined circuit gets what the other port sent `hops` rounds before
    pub joined_arrives : first + 2 * n ≤ last + 1 → is_joined n applied (arc_of n c) ≡ true
        → (let h = hops n applied (arc_of n c) in (first + h ≤ last)
        × (P (last - h) (port_at c (other_end e)) (port index (other_end e)) → P last start.at start.origin))
    joined_arrives long j =
        let h = hops n applied (arc_of n c) in
        let few = few_hops n applied c (short n applied slots cs form index c get) in
        let t : last - h + h ≡ last = omega arith in (
          omega arith,
          λ is. subst (λ s. P s start.at start.origin) t
              (along n applied (settled rs) cs m connects P first last kept h (last - h) start
              (stand (port_at c (other_end e)) (port index (other_end e))) start_inside start_free (omega arith) (omega arith)
              ((routed rs slots cs form index c get e).joined j) is),
        )

    -- every other port gets AIS
    pub parted_arrives : first + 2 * n ≤ last → is_joined n applied (arc_of n c) ≡ false → ((t q : ℕ) → P t q Ais)
        → P last start.at start.origin
    parted_arrives long j silent =
        let s = (routed rs slots cs form index c get e).parted j in
        let less = s.2 in
        let t : last - s.0 + s.0 ≡ last = omega arith in
        subst (λ r. P r start.at start.origin) t
        (along n applied (settled rs) cs m connects P first last kept s.0 (last - s.0) start (stand s.1 Ais) start_inside start_free
        (omega arith) (omega arith) s.3 (silent (last - s.0) s.1))
