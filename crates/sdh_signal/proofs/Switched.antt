-- The way of a port whose circuit's arc meets the applied set, seen from the other end of the circuit.
use Rattle.std.proofs.Common.{◌≡◌, ℕ, ◌+◌, ◌-◌, ◌*◌, ◌<◌, ◌≤◌, suc, Bool, true, false, Option, List, refl, ap, sym, ◌∙◌, subst, arith, inl}
use Rattle.std.proofs.Common.{inr, ◌⊎◌, ap₂}
use Rattle.std.specs.Prelude.{◌&&◌, nat_le}
use Rattle.std.proofs.lemmas.Bool.{and_from, and_left, le-leb, lt-leb, cases_lt}
use Rattle.sdh_bridge.specs.declared.Origin.TheVariants.{Ais, Protection}
use Rattle.sdh_circuits.specs.Provisioned.{Provisioned}
use Rattle.sdh_circuits.specs.declared.End.{End}
use Rattle.sdh_circuits.specs.declared.End.TheVariants.{A, B}
use Rattle.sdh_ringmap.specs.Places.{opposite}
use Rattle.sdh_ringmap.specs.declared.Pos.{Pos}
use Rattle.sdh_ringmap.specs.declared.Side.{Side}
use Rattle.sdh_ringmap.specs.declared.Side.TheVariants.{East, West}
use Rattle.sdh_ringmap.proofs.Going.{going-round, way-behind}
use Rattle.sdh_ringmap.proofs.Sides.{opposite_twice}
use Rattle.sdh_signal.proofs.Between.{passes-at}
use Rattle.sdh_signal.proofs.Passing.{bridged-leaves, carries-by, isolated-stands, switched-stands}
use Rattle.sdh_signal.specs.Law.{is_open}
use Rattle.sdh_signal.proofs.Seen.{Seen}
use Rattle.sdh_signal.proofs.Segments.{IsFree, IsHit, along, bridge, chain_ahead, chain_passes, delivered, home, leads-on, on-round, own}
use Rattle.sdh_signal.proofs.Segments.{passing, sending, taking}
use Rattle.sdh_signal.proofs.States.{Resting, any-applied, on, state-ahead, state-behind, state-isolated}
use Rattle.sdh_signal.proofs.Views.{Switch, arc_length, carried, far_at, passes}
use Rattle.sdh_ringmap.specs.Steps.{going}
use Rattle.sdh_signal.specs.Walks.{Leads, carries_in, delivery, port_at, protection_in, stand, stands_in, working_in}
use Rattle.sdh_squelch.specs.Table.{circuit_from}

pub isnt_side : (d : Side) (f : Option Pos) → is_open (Switch d f) (opposite d) ≡ true
isnt_side East f = refl
isnt_side West f = refl

module _ (n : ℕ) (r : Resting n) (cs : List Provisioned) (some : 0 < n) (d : Side) (p : ℕ) (index : ℕ) (c : Provisioned)
    (near distant : End) (seen : Seen n cs index c d p near distant) where
  abbrev pub free : ℕ → Type 0
  free i = IsFree n r cs some d p i

  -- both ends of the circuit are among the k positions after step i
  abbrev pub both_test : ℕ → ℕ → Bool
  both_test i k = nat_le (n - i) k && nat_le ((arc_length n c) - i) k

  pub ends-passed : (i k : ℕ) → 0 < i → i ≤ (arc_length n c) → k < n →
      (passes n d (going n d p i) (going n d p (i + k)) (port_at c A) && passes n d (going n d p i) (going n d p (i + k)) (port_at c B))
      ≡ both_test i k
  ends-passed i k h g kn =
      let short = seen.short in
      let test : ℕ → Bool = λ q. passes n d (going n d p i) (going n d p (i + k)) q in
      let first : going n d p 0 ≡ going n d p (i + (n - i)) = sym (going-round n some d p 0) ∙ ap (going n d p) (omega arith) in
      let last : going n d p (arc_length n c) ≡ going n d p (i + ((arc_length n c) - i)) = ap (going n d p) (omega arith) in
      seen.both test ∙ ap₂ ◌&&◌ (ap test first ∙ passes-at n some d p i k (n - i) kn (omega arith))
      (ap test last ∙ passes-at n some d p i k ((arc_length n c) - i) kn (omega arith))

  -- a node on the arc that switches the side behind, with its far end k steps ahead
  pub carry-behind : (l k : ℕ) → l < (arc_length n c) → k < n
      → carries_in n cs (going n d p (suc l)) (opposite d) c.slot.0 (far_at (going n d p (suc l + k))) ≡ both_test (suc l) k
  carry-behind l k h g =
      let q = going n d p (suc l) in let f = going n d p (suc l + k) in
      carries-by n cs q (opposite d) c.slot.0 f ∙ ap (λ o. carried n q o (opposite d) f)
      (ap (λ s. circuit_from n s c.slot.0 0 cs) (way-behind n some d p l) ∙ seen.on_arc l h)
      ∙ ap₂ ◌&&◌ (chain_ahead n d q f (port_at c A)) (chain_ahead n d q f (port_at c B)) ∙ ends-passed (suc l) k (omega arith) h g

  -- a node on the arc that switches the side ahead, with its far end k steps behind
  pub carry-ahead : (l k x : ℕ) → l < (arc_length n c) → k < n → x < (arc_length n c) → going n d p x ≡ going n d p (suc l + k)
      → carries_in n cs (going n d p x) d c.slot.0 (far_at (going n d p (suc l))) ≡ both_test (suc l) k
  carry-ahead l k x h g hx e =
      let q = going n d p x in let f = going n d p (suc l) in
      carries-by n cs q d c.slot.0 f ∙ ap (λ o. carried n q o d f) (seen.on_arc x hx)
      ∙ ap₂ ◌&&◌ (chain_passes n d q f (port_at c A)) (chain_passes n d q f (port_at c B))
      ∙ ap (λ y. passes n d f y (port_at c A) && passes n d f y (port_at c B)) e
      ∙ ends-passed (suc l) k (omega arith) h g

  -- f is the first and l the last of the arc's places that are applied, and no span of the opposite arc is
  pub record Struck (f l : ℕ) : Type 0 where
    pub ordered : f ≤ l
    pub inside : l < (arc_length n c)
    pub before : (j : ℕ) → j < f → free j
    pub first : IsHit n r cs some d p f
    pub last : IsHit n r cs some d p l
    pub after : (j : ℕ) → l < j → j < n → free j

  -- the length of the way
  abbrev pub detour : ℕ → ℕ → ℕ
  detour f l = (2 * f + n + (arc_length n c)) - 2 * (l + 1)

  module _ (f l : ℕ) (hit : Struck f l) where
    -- the number of free spans from the last applied span on, the other way round, to the first
    abbrev pub gap : ℕ
    gap = n + f - suc l

    pub gap_is : suc l + gap ≡ f + n
    gap_is = let a = hit.ordered in let b = hit.inside in let e = seen.short in omega arith

    pub gap_few : gap < n
    gap_few = let a = hit.ordered in let e = gap_is in omega arith

    pub gap_some : 0 < gap
    gap_some = let b = hit.inside in let e = gap_is in let g = seen.short in omega arith

    pub free_ahead : (j : ℕ) → l < j → j < suc l + gap → free j
    free_ahead j h g = elim (cases_lt j n) [
      | inl low ↦ hit.after j h low
      | inr high ↦ (
          let round : on n r some d p j ≡ on n r some d p (j - n) = ap (on n r some d p) (omega arith) ∙ on-round n r cs some d p (j - n) in
          round ∙ hit.before (j - n) (let e = gap_is in omega arith))
    ]

    hit_far : on n r some d p (suc l + gap) ≡ true
    hit_far = ap (on n r some d p) gap_is ∙ on-round n r cs some d p f ∙ hit.first

    far_place : going n d p (suc l + gap) ≡ going n d p f
    far_place = ap (going n d p) gap_is ∙ going-round n some d p f

    allowed : both_test (suc l) gap ≡ true
    allowed =
        let e = gap_is in let b = hit.inside in let g = seen.short in
        and_from (nat_le (n - suc l) gap) (nat_le ((arc_length n c) - suc l) gap) (le-leb (n - suc l) gap (omega arith))
        (le-leb ((arc_length n c) - suc l) gap (omega arith))

    near_side : r.state (going n d p (suc l)) ≡ Switch (opposite d) (far_at (going n d p (suc l + gap)))
    near_side =
        state-behind n r some d p l gap gap_some gap_few hit.last (λ j h. free_ahead (suc l + j) (omega arith) (omega arith)) hit_far

    pub far_side : r.state (going n d p f) ≡ Switch d (far_at (going n d p (suc l)))
    far_side =
        let one : suc (l + gap) ≡ suc l + gap = omega arith in
        ap r.state (sym far_place ∙ ap (going n d p) (sym one))
        ∙ state-ahead n r some d p l gap gap_some gap_few hit.last (λ j h g. free_ahead j h (omega arith))
        (ap (on n r some d p) one ∙ hit_far)

    pub turned_near : taking n r cs some d p c.slot.0 (going n d p (suc l)) ≡ stand (going n d p (suc l)) (Protection d)
    turned_near =
        let q = going n d p (suc l) in
        ap (stand q) (ap (λ st. stands_in n cs q st (opposite d) c.slot.0) near_side
        ∙ switched-stands n cs q (opposite d) c.slot.0 (far_at (going n d p (suc l + gap))) true
        (carry-behind l gap hit.inside gap_few ∙ allowed)
        ∙ ap (λ x. Protection x) (opposite_twice d))

    pub f_inside : f < (arc_length n c)
    f_inside = let a = hit.ordered in let b = hit.inside in omega arith

    pub turned_far : bridge n r cs some d p c.slot.0 (going n d p (suc l + gap)) ≡ sending n r cs some d p c.slot.0 (going n d p f)
    turned_far =
        let q = going n d p f in
        ap (bridge n r cs some d p c.slot.0) far_place
        ∙ ap (stand q) (ap (λ st. protection_in n cs q st (opposite d) c.slot.0) far_side
        ∙ bridged-leaves n cs q d c.slot.0 (far_at (going n d p (suc l)))
        (carry-ahead l gap f hit.inside gap_few f_inside (sym far_place) ∙ allowed)
        ∙ ap (λ st. working_in n cs q st d c.slot.0) (sym far_side))

    pub switched : Leads n r.state cs c.slot.0 (detour f l) (delivery n r.state cs c distant)
        (own n r cs some d p index c near distant seen)
    switched =
        let z = own n r cs some d p index c near distant seen in
        let m = c.slot.0 in
        let w = gap_is in let b = hit.inside in let a = hit.ordered in let g = gap_some in
        let last_part : Leads n r.state cs c.slot.0 f (sending n r cs some d p m (going n d p f)) z =
        home n r cs some d p index c near distant seen f (opposite d) f_inside hit.before
        (ap (λ st. is_open st (opposite d)) far_side ∙ isnt_side d (far_at (going n d p (suc l)))) in
        let turn : bridge n r cs some d p m (going n d p (suc (suc l + (gap - 1)))) ≡ sending n r cs some d p m (going n d p f) =
        ap (λ i. bridge n r cs some d p m (going n d p i)) (omega arith) ∙ turned_far in
        let mid_part : Leads n r.state cs c.slot.0 (suc (gap - 1)) (stand (going n d p (suc l)) (Protection d))
        (bridge n r cs some d p m (going n d p (suc (suc l + (gap - 1))))) =
        passing n r cs some d p m (gap - 1) (suc l) (any-applied n r some d p l hit.last) (λ j h e. free_ahead j h (omega arith)) in
        let from_near : Leads n r.state cs c.slot.0 (suc (gap - 1) + f) (stand (going n d p (suc l)) (Protection d)) z =
        leads-on n r cs c.slot.0 (suc (gap - 1)) f (stand (going n d p (suc l)) (Protection d))
        (bridge n r cs some d p m (going n d p (suc (suc l + (gap - 1))))) z mid_part
        (subst (λ s. Leads n r.state cs c.slot.0 f s z) (sym turn) last_part) in
        let from_taking : Leads n r.state cs c.slot.0 (suc (gap - 1) + f) (taking n r cs some d p m (going n d p (suc l))) z =
        subst (λ s. Leads n r.state cs c.slot.0 (suc (gap - 1) + f) s z) (sym turned_near) from_near in
        let all =
        along n r cs some d p index c near distant seen ((arc_length n c) - suc l) (suc l) (suc (gap - 1) + f) z (omega arith)
        (omega arith)
        (λ x h e. hit.after x h (let short = seen.short in omega arith)) from_taking in
        let long : ((arc_length n c) - suc l) + (suc (gap - 1) + f) ≡ detour f l = omega arith in
        let at_end : suc l + ((arc_length n c) - suc l) ≡ (arc_length n c) = omega arith in
        subst (λ s. Leads n r.state cs c.slot.0 (detour f l) s z) (sym (delivered n r cs some d p index c near distant seen))
        (subst (λ i. Leads n r.state cs c.slot.0 (detour f l) (taking n r cs some d p m (going n d p i)) z) at_end
        (subst (λ k. Leads n r.state cs c.slot.0 k (taking n r cs some d p m
        (going n d p (suc l + ((arc_length n c) - suc l)))) z) long all))

  -- l is the last applied place of the arc, and g the first of the opposite arc
  pub record Parted (l g : ℕ) : Type 0 where
    pub inside : l < (arc_length n c)
    pub outside : (arc_length n c) ≤ g
    pub few : g < n
    pub last : IsHit n r cs some d p l
    pub next : IsHit n r cs some d p g
    pub between : (j : ℕ) → l < j → j < g → free j

  module _ (l g : ℕ) (cut : Parted l g) where
    -- the node after the last applied span gives AIS: it is isolated, or the circuit's near end isn't in its chain
    silent_at : (g ≡ suc l) ⊎ (suc l < g) → taking n r cs some d p c.slot.0 (going n d p (suc l)) ≡ stand (going n d p (suc l)) Ais
    silent_at (inl here) =
        let q = going n d p (suc l) in
        ap (λ st. stand q (stands_in n cs q st (opposite d) c.slot.0))
        (state-isolated n r some d p l (ap (on n r some d p) (sym here) ∙ cut.next) cut.last)
        ∙ ap (stand q) (isolated-stands n cs q (opposite d) c.slot.0)
    silent_at (inr far) =
        let q = going n d p (suc l) in let k = g - suc l in
        let a = cut.inside in let b = cut.few in
        let there : suc l + k ≡ g = omega arith in
        let state : r.state q ≡ Switch (opposite d) (far_at (going n d p (suc l + k))) =
        state-behind n r some d p l k (omega arith) (omega arith) cut.last (λ j h. cut.between (suc l + j) (omega arith) (omega arith))
        (ap (on n r some d p) there ∙ cut.next) in
        let squelched : both_test (suc l) k ≡ false =
        and_left (nat_le (n - suc l) k) (nat_le ((arc_length n c) - suc l) k) (lt-leb (n - suc l) k (omega arith)) in
        ap (stand q) (ap (λ st. stands_in n cs q st (opposite d) c.slot.0) state
        ∙ switched-stands n cs q (opposite d) c.slot.0 (far_at (going n d p (suc l + k))) false
        (carry-behind l k cut.inside (omega arith) ∙ squelched))

    choice : (g ≡ suc l) ⊎ (suc l < g)
    choice = let a = cut.inside in let b = cut.outside in elim (cases_lt (suc l) g) [ inl far ↦ inr far | inr near ↦ inl (omega arith) ]

    pub silent : Leads n r.state cs c.slot.0 ((arc_length n c) - suc l) (delivery n r.state cs c distant) (stand (going n d p (suc l)) Ais)
    silent =
        let a = cut.inside in let b = cut.outside in
        let z = stand (going n d p (suc l)) Ais in
        let all =
        along n r cs some d p index c near distant seen ((arc_length n c) - suc l) (suc l) 0 z (omega arith) (omega arith)
        (λ x h e. cut.between x h (omega arith)) (silent_at choice) in
        let at_end : suc l + ((arc_length n c) - suc l) ≡ (arc_length n c) = omega arith in
        let none : ((arc_length n c) - suc l) + 0 ≡ (arc_length n c) - suc l = omega arith in
        subst (λ s. Leads n r.state cs c.slot.0 ((arc_length n c) - suc l) s z) (sym (delivered n r cs some d p index c near distant seen))
        (subst (λ i. Leads n r.state cs c.slot.0 ((arc_length n c) - suc l) (taking n r cs some d p c.slot.0 (going n d p i)) z) at_end
        (subst (λ k. Leads n r.state cs c.slot.0 k (taking n r cs some d p c.slot.0
        (going n d p (suc l + ((arc_length n c) - suc l)))) z) none all))
