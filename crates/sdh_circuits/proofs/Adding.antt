-- A circuit that passes all checks keeps the circuits apart.
use Rattle.std.proofs.Common.{◌≡◌, ℕ, zero, suc, ◌<◌, ◌≤◌, List, [], ◌∷◌, ◌++◌, length, get_or, Bool, true, false, not, nat_le, Option}
use Rattle.std.proofs.Common.{Some, None, refl, sym, ap, ◌∙◌, subst, arith, ◌⊎◌, inl, inr}
use Rattle.std.specs.Prelude.{ℤ, pos, negsuc, IfSome, slice_get}
use Rattle.std.specs.List.{list_any}
use Rattle.std.specs.Str.{bytes_eq}
use Rattle.std.proofs.lemmas.Bool.{and_parts, leb-true, not-true}
use Rattle.std.proofs.lemmas.List.Folds.{list_any_at}
use Rattle.std.proofs.lemmas.List.Elements.{All-push}
use Rattle.std.proofs.lemmas.Slice.Eq.{bytes_eq-Decides}
use Rattle.sdh_ringmap.specs.Arcs.{holds_span}
use Rattle.sdh_ringmap.specs.Numbering.{magnitude}
use Rattle.sdh_circuits.specs.Naming.{is_name}
use Rattle.sdh_circuits.specs.Provisioned.{Provisioned, arc_of}
use Rattle.sdh_circuits.specs.Provisioning.{Provisioning, IsProvisioning, AreCircuits, IsInRing, IsInSlots, HasOffsets}
use Rattle.sdh_circuits.specs.Checks.{Wish, do_share, is_within, has_slot, has_offsets, is_free_name, circuit_of, with_circuit}
use Rattle.sdh_circuits.proofs.Shares.{shared}

pushed : {X : Type 0} (xs : List X) (x y : X) (i : ℕ) → slice_get (xs ++ x ∷ []) i ≡ Some y
    → (slice_get xs i ≡ Some y) ⊎ ((i ≡ length xs) × (x ≡ y))
pushed [] x y zero e = inr (refl, cc)
pushed [] x y (suc i) e = cc
pushed (z ∷ zs) x y zero e = inl e
pushed (z ∷ zs) x y (suc i) e = elim (pushed zs x y i e) [ inl f ↦ inl f | inr f ↦ inr (ap suc f.0, f.1) ]

-- the element that is got at a place stands there, and the place is in the list
got : {X : Type 0} (xs : List X) (x : X) (i : ℕ) → slice_get xs i ≡ Some x → (i < length xs) × (get_or xs i x ≡ x)
got [] x i e = cc
got (z ∷ zs) x zero e = (omega arith, cc)
got (z ∷ zs) x (suc i) e = let is = got zs x i e in (omega arith, is.1)

-- a test that holds of no element of a list holds of none at any place
none_at : {X : Type 0} (p : X → Bool) (xs : List X) (x : X) (i : ℕ) → list_any p xs ≡ false → slice_get xs i ≡ Some x → p x ≡ true → ⊥
none_at p xs x i none e marked =
    let at = got xs x i e in
    let some : list_any p xs ≡ true = list_any_at p xs i x at.0 (ap p at.1 ∙ marked) in
    let no : false ≡ true = sym none ∙ some in
    cc

-- no two elements of a longer list are related, where those of the list are not, nor the new one to any of them
two_places : {X : Type 0} (R : X → X → Type 0) (xs : List X) (x : X)
    → ((i j : ℕ) (c d : X) → slice_get xs i ≡ Some c → slice_get xs j ≡ Some d → R c d → i ≡ j)
    → ((j : ℕ) (d : X) → slice_get xs j ≡ Some d → R x d → ⊥) → ((j : ℕ) (d : X) → slice_get xs j ≡ Some d → R d x → ⊥)
    → (i j : ℕ) (c d : X) → slice_get (xs ++ x ∷ []) i ≡ Some c → slice_get (xs ++ x ∷ []) j ≡ Some d → R c d → i ≡ j
two_places {X} R xs x old left right i j c d e f r =
    elim (pushed xs x c i e) [
      | inl p ↦ elim (pushed xs x d j f) [
        | inl q ↦ old i j c d p q r
        | inr q ↦ absurd (right i c p (subst (R c) (sym q.1) r))
      ]
      | inr p ↦ elim (pushed xs x d j f) [
        | inl q ↦ absurd (left j d q (let P : X → Type 0 = λ y. R y d in subst P (sym p.1) r))
        | inr q ↦ p.0 ∙ sym q.0
      ]
    ]

-- a circuit on a span where no kept one is in its slot, with a name of its own
pub one_more : (n slots : ℕ) (circuits : List Provisioned) (c : Provisioned) → AreCircuits n slots circuits → IsInRing n c
    → IsInSlots slots c → HasOffsets c → is_name c.name ≡ true
    → list_any (λ d. bytes_eq d.name c.name) circuits ≡ false → list_any (do_share n c) circuits ≡ false
    → AreCircuits n slots (circuits ++ c ∷ [])
one_more n slots circuits c are ring slot small form name room = record {
  in_ring = All-push (IsInRing n) circuits c are.in_ring ring;
  in_slots = All-push (IsInSlots slots) circuits c are.in_slots slot;
  offsets = All-push HasOffsets circuits c are.offsets small;
  named = All-push (λ d. is_name d.name ≡ true) circuits c are.named form;
  named_apart = two_places (λ a b. a.name ≡ b.name) circuits c are.named_apart
      (λ j d e same. none_at (λ k. bytes_eq k.name c.name) circuits d j name e ((bytes_eq-Decides d.name c.name).1 (sym same)))
      (λ j d e same. none_at (λ k. bytes_eq k.name c.name) circuits d j name e ((bytes_eq-Decides d.name c.name).1 same));
  apart =
      λ i j s a b e f p q same. two_places (λ x y. (holds_span n (arc_of n x) s ≡ true) × (holds_span n (arc_of n y) s ≡ true)
      × (x.slot ≡ y.slot)) circuits c
      (λ i j x y e f r. are.apart i j s x y e f r.0 r.1 r.2)
      (λ j d e r. none_at (do_share n c) circuits d j room e (shared n c d s r.0 r.1 r.2))
      (λ j d e r. none_at (do_share n c) circuits d j room e (shared n c d s r.1 r.0 (sym r.2)))
      i j a b e f (p, q, same);
}

ring_of_map : (ring : Option (List ℕ)) (slots : ℕ) (circuits : List Provisioned) (ids : List ℕ)
    → IsProvisioning (record { slots = slots; ring = ring; circuits = circuits })
    → IfSome ring (λ kept. kept ≡ ids) → AreCircuits (length ids) slots circuits
ring_of_map None slots circuits ids is same =
    let P : List Provisioned → Type 0 = λ cs. AreCircuits (length ids) slots cs in
    subst P (sym is.empty) (record {
      in_ring = λ k d h. absurd (omega arith);
      in_slots = λ k d h. absurd (omega arith);
      offsets = λ k d h. absurd (omega arith);
      named = λ k d h. absurd (omega arith);
      named_apart = λ i j c d e f r. cc;
      apart = λ i j s c d e f p q r. cc;
    })
ring_of_map (Some kept) slots circuits ids is same =
    let P : ℕ → Type 0 = λ n. AreCircuits n slots circuits in subst P (ap length same) is.circuits

-- the circuit map with one circuit more
pub with_one_more : (p : Provisioning) (ids : List ℕ) (c : Provisioned) → IsProvisioning p → IfSome p.ring (λ kept. kept ≡ ids)
    → length ids ≤ 16
    → IsInRing (length ids) c → IsInSlots p.slots c → HasOffsets c → is_name c.name ≡ true
    → list_any (λ d. bytes_eq d.name c.name) p.circuits ≡ false → list_any (do_share (length ids) c) p.circuits ≡ false
    → IsProvisioning (with_circuit p ids c)
with_one_more p ids c is same few ring slot small form name room = record {
  rate = is.rate;
  ring_small = few;
  empty = tt;
  circuits = one_more (length ids) p.slots p.circuits c (ring_of_map p.ring p.slots p.circuits ids is same) ring slot small form name room;
}

in_slots : (slots : ℕ) (z : ℤ) → is_within 1 slots z ≡ true → (1 ≤ magnitude z) × (magnitude z ≤ slots)
in_slots slots (pos n) e = let is = and_parts (nat_le 1 n) (nat_le n slots) e in (leb-true 1 n is.0, leb-true n slots is.1)
in_slots slots (negsuc n) e = cc

in_offsets : (z : ℤ) → is_within 0 782 z ≡ true → magnitude z ≤ 782
in_offsets (pos n) e = leb-true n 782 (and_parts (nat_le 0 n) (nat_le n 782) e).1
in_offsets (negsuc n) e = cc

-- the circuit map with the circuit that is asked for, where its slot, its name and its spans are free
pub fits : (p : Provisioning) (ids : List ℕ) (wish : Wish) (c : Provisioned) → IsProvisioning p → IfSome p.ring (λ kept. kept ≡ ids)
    → length ids ≤ 16 → IsInRing (length ids) c
    → c ≡ circuit_of ids wish → has_slot p.slots wish ≡ true → has_offsets wish ≡ true → is_free_name p.circuits wish.name ≡ true
    → list_any (do_share (length ids) c) p.circuits ≡ false
    → IsProvisioning (with_circuit p ids c)
fits p ids wish c is same few ring made slot pointers free room =
    let name = and_parts (is_name wish.name) (not (list_any (λ d. bytes_eq d.name wish.name) p.circuits)) free in
    let named : c.name ≡ wish.name = ap (λ d. d.name) made in
    let slotted : c.slot.0 ≡ magnitude wish.slot = ap (λ d. d.slot.0) made in
    let within = in_slots p.slots wish.slot slot in
    let offsets = and_parts (is_within 0 782 wish.offset_a) (is_within 0 782 wish.offset_b) pointers in
    let a = in_offsets wish.offset_a offsets.0 in
    let b = in_offsets wish.offset_b offsets.1 in
    let first : c.a.offset ≡ magnitude wish.offset_a = ap (λ d. d.a.offset) made in
    let second : c.b.offset ≡ magnitude wish.offset_b = ap (λ d. d.b.offset) made in
    with_one_more p ids c is same few ring
    (record { from_1 = omega arith; small = omega arith })
    (record { a = omega arith; b = omega arith })
    (ap is_name named ∙ name.0)
    (ap (λ n. list_any (λ d. bytes_eq d.name n) p.circuits) named ∙ not-true (list_any (λ d. bytes_eq d.name wish.name) p.circuits) name.1)
    room
