-- The listeners on the ports of one node after the other.
use Rattle.std.proofs.Common.{◌≡◌, ℕ, zero, suc, ◌+◌, ◌^◌, ◌<◌, ◌≤◌, ◌⊎◌, inl, inr, List, length, Some, refl, ap, sym, subst, ◌∙◌, arith}
use Rattle.std.specs.Prelude.{slice_get}
use Rattle.std.specs.Option.{option_map_or}
use Rattle.std.proofs.lemmas.Option.{get_or_from_slice_get, slice_get_within}
use Rattle.sdh_circuits.specs.declared.PortId.{PortId}
use Rattle.sdh_circuits.specs.declared.End.{End}
use Rattle.sdh_circuits.specs.declared.End.TheVariants.{A, B}
use Rattle.sdh_circuits.specs.Ends.{port_id}
use Rattle.sdh_circuits.specs.Provisioned.{Provisioned, end_of}
use Rattle.sdh_circuits.specs.Provisioning.{IsInRing, AreCircuits}
use Rattle.sdh_node.specs.Rings.Held.{HeldRing, place_of_port}
use Rattle.sdh_outage.specs.Kept.{Heard}
use Rattle.sdh_scripts.proofs.Lists.{some_at}
use Rattle.sdh_outage_cli.specs.Ports.{Listens, HeardAt, LookedAt, ListenersLooked, AreFewAt}
use Rattle.sdh_outage_cli.specs.declared.ports.ListenerPair.{ListenerPair}
use Rattle.sdh_outage_cli.specs.declared.streams.StreamPair.{StreamPair}

-- the listener on a port heard what it delivered, if the port is at this position or at a later one of the ring, and
-- heard of nothing where the port is at an earlier one
pub record HeardFrom (r : HeldRing) (low : ℕ) (port : PortId) (streams : List StreamPair) (before after : Heard) : Type 0 where
  pub here : low ≤ place_of_port r port → place_of_port r port < length r.ids → Listens r port streams before after
  pub earlier : place_of_port r port < low → after ≡ before

pub record LookedFrom (r : HeldRing) (low : ℕ) (streams : List StreamPair) (index : ℕ) (before after : ListenerPair) : Type 0 where
  pub a : HeardFrom r low (port_id index A) streams before.a after.a
  pub b : HeardFrom r low (port_id index B) streams before.b after.b

-- no node was looked at
heard_none : (r : HeldRing) (low : ℕ) (port : PortId) (streams : List StreamPair) (before after : Heard) → length r.ids ≤ low → after ≡ before
    → HeardFrom r low port streams before after
heard_none r low port streams before after past same = record { here = λ at inside. absurd (omega arith); earlier = λ lt. same }

pub looked_none : (r : HeldRing) (low : ℕ) (streams : List StreamPair) (index : ℕ) (before after : ListenerPair) → length r.ids ≤ low → after ≡ before
    → LookedFrom r low streams index before after
looked_none r low streams index before after past same = record {
  a = heard_none r low (port_id index A) streams before.a after.a past (ap (λ (b : ListenerPair). b.a) same);
  b = heard_none r low (port_id index B) streams before.b after.b past (ap (λ (b : ListenerPair). b.b) same);
}

same_or : (m n : ℕ) → (m ≡ n) ⊎ (n < m) ⊎ (m < n)
same_or zero zero = inl refl
same_or zero (suc n) = inr (inr (omega arith))
same_or (suc m) zero = inr (inl (omega arith))
same_or (suc m) (suc n) = by (same_or m n)
  where
    by : (m ≡ n) ⊎ (n < m) ⊎ (m < n) → (suc m ≡ suc n) ⊎ (suc n < suc m) ⊎ (suc m < suc n)
    by (inl e) = inl (omega arith)
    by (inr (inl e)) = inr (inl (omega arith))
    by (inr (inr e)) = inr (inr (omega arith))

-- one node more was looked at
heard_more : (r : HeldRing) (at : ℕ) (port : PortId) (streams : List StreamPair) (before mid after : Heard)
    → HeardFrom r (at + 1) port streams before mid → HeardAt r at port streams mid after → HeardFrom r at port streams before after
heard_more r at port streams before mid after were is = record {
  here = λ low inside. by (place_of_port r port) refl (same_or (place_of_port r port) at) low inside;
  earlier = λ lt. is.elsewhere (λ same. absurd (omega arith)) ∙ were.earlier (omega arith);
}
  where
    by : (p : ℕ) → place_of_port r port ≡ p → (p ≡ at) ⊎ (at < p) ⊎ (p < at) → at ≤ place_of_port r port
        → place_of_port r port < length r.ids → Listens r port streams before after
    by p e (inl same) low inside = subst (λ h. Listens r port streams h after) (were.earlier (omega arith)) (is.here (e ∙ same))
    by p e (inr (inl later)) low inside =
        subst (λ h. Listens r port streams before h) (sym (is.elsewhere (λ same. absurd (omega arith)))) (were.here (omega arith) inside)
    by p e (inr (inr earlier)) low inside = absurd (omega arith)

pub looked_more : (r : HeldRing) (at : ℕ) (streams : List StreamPair) (index : ℕ) (before mid after : ListenerPair)
    → LookedFrom r (at + 1) streams index before mid → LookedAt r at streams index mid after → LookedFrom r at streams index before after
looked_more r at streams index before mid after were is = record {
  a = heard_more r at (port_id index A) streams before.a mid.a after.a were.a is.a;
  b = heard_more r at (port_id index B) streams before.b mid.b after.b were.b is.b;
}

-- few rounds were heard of at a node that wasn't looked at
pub few_at : (r : HeldRing) (at index : ℕ) (streams : List StreamPair) (before mid : ListenerPair)
    → LookedFrom r (at + 1) streams index before mid → (before.a.round ≤ 2 ^ 31 + 65536) × (before.b.round ≤ 2 ^ 31 + 65536)
    → AreFewAt r at index mid
few_at r at index streams before mid were few = record {
  a = λ here. subst (λ (h : Heard). h.round ≤ 2 ^ 31 + 65536) (sym (were.a.earlier (omega arith))) few.0;
  b = λ here. subst (λ (h : Heard). h.round ≤ 2 ^ 31 + 65536) (sym (were.b.earlier (omega arith))) few.1;
}

-- ---- all nodes were looked at

inside_at : (r : HeldRing) (i : ℕ) (c : Provisioned) (end : End) → slice_get r.circuits.circuits i ≡ Some c
    → IsInRing (length r.ids) c → place_of_port r (port_id i end) < length r.ids
unfolding place_of_port
inside_at r i c A there in_ring =
    subst (λ p. p < length r.ids) (sym (ap (λ o. option_map_or (λ (x : Provisioned). (end_of x A).0) o (length r.nodes)) there)) in_ring.from_inside
inside_at r i c B there in_ring =
    subst (λ p. p < length r.ids) (sym (ap (λ o. option_map_or (λ (x : Provisioned). (end_of x B).0) o (length r.nodes)) there)) in_ring.to_inside

in_ring_at : (r : HeldRing) (slots i : ℕ) (c : Provisioned) → AreCircuits (length r.ids) slots r.circuits.circuits → slice_get r.circuits.circuits i ≡ Some c
    → IsInRing (length r.ids) c
in_ring_at r slots i c fit there =
    let cs = r.circuits.circuits in
    subst (IsInRing (length r.ids)) (get_or_from_slice_get cs i c c there) (fit.in_ring i c (slice_get_within cs i c there))

pub looked_all : (r : HeldRing) (slots low : ℕ) (streams : List StreamPair) (index : ℕ) (before after : ListenerPair) → AreCircuits (length r.ids) slots r.circuits.circuits
    → index < length r.circuits.circuits → low ≡ 0 → LookedFrom r low streams index before after → ListenersLooked r streams index before after
looked_all r slots low streams index before after fit inside none were =
    let c = some_at r.circuits.circuits index inside in
    let ring = in_ring_at r slots index c.0 fit c.1 in
    record {
      a = were.a.here (omega arith) (inside_at r index c.0 A c.1 ring);
      b = were.b.here (omega arith) (inside_at r index c.0 B c.1 ring);
    }
