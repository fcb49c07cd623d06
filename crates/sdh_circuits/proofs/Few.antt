-- There are at most as many circuits as pairs of a span and a working slot.
use Rattle.std.proofs.Common.{◌≡◌, ℕ, ◌+◌, ◌-◌, ◌*◌, ◌<◌, ◌≤◌, List, [], ◌∷◌, length, map, get_or, true, sym, ap, ◌∙◌, arith, inl, inr}
use Rattle.std.specs.List.{list_any, IsDistinct}
use Rattle.std.proofs.Math.Dec.{eqb}
use Rattle.std.proofs.lemmas.Bool.{eqb-true, ne_eqb}
use Rattle.std.proofs.lemmas.List.{get_or-map, length-map}
use Rattle.std.proofs.lemmas.Option.{slice_get-get_or}
use Rattle.std.proofs.lemmas.List.Folds.{Any-from_list_any}
use Rattle.std.proofs.lemmas.Map.Steps.{length-le_from_distinct_below}
use Rattle.std.proofs.lemmas.Map.Keys.{IsDistinct-from_apart}
use Rattle.sdh_ringmap.specs.Arcs.{holds_span}
use Rattle.sdh_ringmap.proofs.Around.{holds_start}
use Rattle.sdh_circuits.specs.declared.Slot.{Slot}
use Rattle.sdh_circuits.specs.Provisioned.{Provisioned, arc_of}
use Rattle.sdh_circuits.specs.Provisioning.{Provisioning, IsProvisioning, AreCircuits, ring_size}

-- the number of the pair of a circuit's first span and its slot
key : Provisioned → ℕ
key c = c.from.0 + 16 * (c.slot.0 - 1)

pub same_slot : (s t : Slot) → s.0 ≡ t.0 → s ≡ t
same_slot s t e = let at : ℕ → Slot = λ k. record { 0 = k } in ap at e

-- circuits with one first span and one slot are one circuit
one_start : (n slots : ℕ) (circuits : List Provisioned) → AreCircuits n slots circuits → (i j : ℕ) (d : Provisioned) → i < length circuits
    → j < length circuits
    → (get_or circuits i d).from.0 ≡ (get_or circuits j d).from.0 → (get_or circuits i d).slot.0 ≡ (get_or circuits j d).slot.0 → i ≡ j
one_start n slots circuits are i j d hi hj from slot =
    let a = get_or circuits i d in
    let b = get_or circuits j d in
    let ra = are.in_ring i d hi in
    let rb = are.in_ring j d hj in
    let held : holds_span n (arc_of n a) a.from.0 ≡ true = holds_start n a.from.0 a.to.0 ra.from_inside ra.to_inside ra.two_ends in
    let also : holds_span n (arc_of n b) a.from.0 ≡ true =
    ap (holds_span n (arc_of n b)) from ∙ holds_start n b.from.0 b.to.0 rb.from_inside rb.to_inside rb.two_ends in
    are.apart i j a.from.0 a b (slice_get-get_or circuits i d hi) (slice_get-get_or circuits j d hj) held also
    (same_slot a.slot b.slot slot)

-- circuits with one key are one circuit
key_apart : (n slots : ℕ) (circuits : List Provisioned) → AreCircuits n slots circuits → n ≤ 16 → (i j : ℕ) (d : Provisioned)
    → i < length circuits → j < length circuits
    → key (get_or circuits i d) ≡ key (get_or circuits j d) → i ≡ j
unfolding key
key_apart n slots circuits are few i j d hi hj e =
    let ra = are.in_ring i d hi in
    let rb = are.in_ring j d hj in
    let sa = are.in_slots i d hi in
    let sb = are.in_slots j d hj in
    one_start n slots circuits are i j d hi hj (omega arith) (omega arith)

key_small : (n slots : ℕ) (circuits : List Provisioned) → AreCircuits n slots circuits → n ≤ 16 → slots ≤ 8 → (i : ℕ) (d : Provisioned)
    → i < length circuits → key (get_or circuits i d) < 128
unfolding key
key_small n slots circuits are few half i d hi =
    let ra = are.in_ring i d hi in
    let sa = are.in_slots i d hi in
    omega arith

keys : List Provisioned → List ℕ
keys circuits = map key circuits

keys_at : (circuits : List Provisioned) (i e : ℕ) (d : Provisioned) → i < length circuits
    → get_or (keys circuits) i e ≡ key (get_or circuits i d)
unfolding keys
keys_at circuits i e d h = get_or-map key circuits i d e h

length-keys : (circuits : List Provisioned) → length (keys circuits) ≡ length circuits
unfolding keys
length-keys circuits = simp length-map

keys_small : (n slots : ℕ) (circuits : List Provisioned) → AreCircuits n slots circuits → n ≤ 16 → slots ≤ 8 → (d : Provisioned) (q : ℕ)
    → list_any (eqb q) (keys circuits) ≡ true → q < 128
keys_small n slots circuits are few half d q e =
    let found = Any-from_list_any (eqb q) (keys circuits) e in
    let k = found.0 in
    let x = found.1 in
    let lt : k < length circuits = omega (arith, found.2, length-keys circuits) in
    let is : x ≡ key (get_or circuits k d) = sym found.3 ∙ keys_at circuits k x d lt in
    let q_is : q ≡ x = eqb-true q x found.4 in
    omega (arith, key_small n slots circuits are few half k d lt)

pub few_below : (n slots : ℕ) (circuits : List Provisioned) → AreCircuits n slots circuits → n ≤ 16 → slots ≤ 8 → length circuits ≤ 128
few_below n slots [] are few half = omega arith
few_below n slots (c ∷ cs) are few half =
    let all = c ∷ cs in
    let distinct : IsDistinct eqb (keys all) = IsDistinct-from_apart eqb (keys all)
    (λ i j d lt h. ne_eqb (get_or (keys all) i d) (get_or (keys all) j d)
    (λ e. let hj : j < length all = omega (arith, length-keys all) in let hi : i < length all = omega arith in
    let same : key (get_or all i c) ≡ key (get_or all j c) = sym (keys_at all i d c hi) ∙ e ∙ keys_at all j d c hj in
    let one = key_apart n slots all are few i j c hi hj same in
    omega arith)) in
    let below : (q : ℕ) → list_any (eqb q) (keys all) ≡ true → q < 128 = keys_small n slots all are few half c in
    omega (arith, length-keys all, length-le_from_distinct_below (keys all) 128 distinct below)

pub few_circuits : (p : Provisioning) → IsProvisioning p → length p.circuits ≤ 128
few_circuits p is =
    few_below (ring_size p) p.slots p.circuits is.circuits is.ring_small (elim is.rate [ inl e ↦ omega arith | inr e ↦ omega arith ])
