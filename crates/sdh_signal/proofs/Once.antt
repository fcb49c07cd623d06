-- A walk ends in one place; and how long a route is.
use Rattle.std.proofs.Common.{◌≡◌, ℕ, suc, zero, Some, List, refl, ap, sym, ◌∙◌, subst, inl, inr}
use Rattle.std.specs.Prelude.{slice_get}
use Rattle.std.proofs.lemmas.Bool.{cases_Bool}
use Rattle.sdh_bridge.specs.declared.Origin.{Origin}
use Rattle.sdh_bridge.specs.declared.Origin.TheVariants.{Add, Ais, Protection, Working}
use Rattle.sdh_circuits.specs.Provisioned.{Provisioned, arc_of}
use Rattle.sdh_circuits.specs.declared.End.{End}
use Rattle.sdh_circuits.specs.declared.End.TheVariants.{A}
use Rattle.sdh_nodestate.specs.declared.NodeState.{NodeState}
use Rattle.sdh_circuits.specs.Ends.{other_end}
use Rattle.sdh_restoration.specs.Routes.{hops}
use Rattle.sdh_ringmap.specs.Arcs.{is_joined}
use Rattle.sdh_signal.proofs.Routes.{routes}
use Rattle.sdh_signal.proofs.States.{Resting}
use Rattle.sdh_signal.proofs.Views.{AreOnRing}
use Rattle.sdh_signal.specs.Walks.{IsArrival, IsOver, Leads, Stand, back_from, delivery, port, port_at, stand}

-- the circuit and the end of a port
abbrev number_of : Origin → ℕ
number_of Ais = 0
number_of (Add q) = q.circuit
number_of (Working d) = 0
number_of (Protection d) = 0

abbrev end_of : Origin → End
end_of Ais = A
end_of (Add q) = q.end
end_of (Working d) = A
end_of (Protection d) = A

over_or_on : (o : Origin) → IsOver o → IsArrival o → ⊥
over_or_on Ais a b = b
over_or_on (Add q) a b = b
over_or_on (Working d) a b = a
over_or_on (Protection d) a b = a

module _ (n : ℕ) (state : ℕ → NodeState) (cs : List Provisioned) where
  -- a walk has one end, and one length
  pub once : (m j k : ℕ) (x y z : Stand) → Leads n state cs m j x y → Leads n state cs m k x z → IsOver y.origin → IsOver z.origin
      → (j ≡ k) × (y ≡ z)
  once m zero zero x y z a b u v = (refl, sym a ∙ b)
  once m zero (suc k) x y z a b u v = absurd (over_or_on x.origin (subst (λ (s : Stand). IsOver s.origin) (sym a) u) b.0)
  once m (suc j) zero x y z a b u v = absurd (over_or_on x.origin (subst (λ (s : Stand). IsOver s.origin) (sym b) v) a.0)
  once m (suc j) (suc k) x y z a b u v = let t = once m j k (back_from n state cs m x.at x.origin) y z a.1 b.1 u v in (ap suc t.0, t.1)

module _ (n : ℕ) (r : Resting n) (cs : List Provisioned) where
  -- what a port's walk ends in, if in a port at all, is its own circuit's other port
  pub no-stranger : (ring : AreOnRing n cs) (index : ℕ) (c : Provisioned) → slice_get cs index ≡ Some c → (e : End) (k q i : ℕ) (x : End)
      → Leads n r.state cs c.slot.0 k (delivery n r.state cs c e) (stand (q) (port i x)) → (i ≡ index) × (x ≡ other_end e)
  no-stranger ring index c is e k q i x w =
      let law = routes n r cs ring index c is e in
      elim (cases_Bool (is_joined n r.applied (arc_of n c))) [
        | inl yes_joined ↦ (
            let t =
            once n r.state cs c.slot.0 k (hops n r.applied (arc_of n c)) (delivery n r.state cs c e) (stand (q) (port i x))
            (stand (port_at c (other_end e)) (port index (other_end e))) w (law.joined yes_joined) tt tt in
            same_add (ap (λ (s : Stand). s.origin) t.1))
        | inr parted ↦ (
            let s = law.parted parted in
            let t = once n r.state cs c.slot.0 k s.0 (delivery n r.state cs c e) (stand (q) (port i x)) (stand (s.1) (Ais)) w s.3 tt tt in
            absurd (not_ais (ap (λ (s : Stand). s.origin) t.1)))
      ] where
        same_add : {i j : ℕ} {x y : End} → port i x ≡ port j y → (i ≡ j) × (x ≡ y)
        same_add e = (ap number_of e, ap end_of e)

        not_ais : {i : ℕ} {x : End} → port i x ≡ Ais → ⊥
        not_ais e = cc
