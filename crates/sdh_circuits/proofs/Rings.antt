-- The circuits of a ring.
use Rattle.std.proofs.Common.{◌≡◌, ℕ, ◌<◌, List, [], length, get_or, Some, inl, inr, true, ap, sym, subst, arith}
use Rattle.std.specs.Prelude.{slice_get}
use Rattle.std.specs.Option.{option_map_or}
use Rattle.std.proofs.lemmas.List.Elements.{All-nil}
use Rattle.sdh_circuits.specs.declared.End.{End}
use Rattle.sdh_circuits.specs.declared.End.TheVariants.{A, B}
use Rattle.sdh_circuits.specs.Naming.{is_name}
use Rattle.sdh_circuits.specs.Provisioned.{Provisioned, end_of}
use Rattle.sdh_circuits.specs.Provisioning.{Provisioning, IsProvisioning, AreCircuits, IsInRing, IsInSlots, HasOffsets}
use Rattle.sdh_circuits.specs.Kept.{KeepsRing}

none_get : (i : ℕ) (c : Provisioned) → slice_get [] i ≡ Some c → ⊥
none_get i c e = cc

no_circuits : (n slots : ℕ) → AreCircuits n slots []
no_circuits n slots = record {
  in_ring = All-nil (IsInRing n);
  in_slots = All-nil (IsInSlots slots);
  offsets = All-nil HasOffsets;
  named = All-nil (λ c. is_name c.name ≡ true);
  named_apart = λ i j c d e f same. absurd (none_get i c e);
  apart = λ i j s c d e f x y same. absurd (none_get i c e);
}

pub circuits_are : (p : Provisioning) (ids : List ℕ) → IsProvisioning p → KeepsRing p ids → AreCircuits (length ids) p.slots p.circuits
circuits_are p ids form (inl none) = subst (λ cs. AreCircuits (length ids) p.slots cs) (sym none) (no_circuits (length ids) p.slots)
circuits_are p ids form (inr ring) = subst (λ n. AreCircuits n p.slots p.circuits) (ap (λ r. option_map_or length r 0) ring) form.circuits

-- ---- the ends of one

end_within : (n : ℕ) (c : Provisioned) (e : End) → IsInRing n c → (end_of c e).0 < n
end_within n c A h = h.from_inside
end_within n c B h = h.to_inside

empty_has_none : {P : Type 0} (cs : List Provisioned) (i : ℕ) → cs ≡ [] → i < length cs → P
empty_has_none cs i none h = let len : length cs ≡ 0 = ap length none in absurd (omega arith)

-- each is at a position of the ring
pub end_inside : (p : Provisioning) (ids : List ℕ) (i : ℕ) (c : Provisioned) (e : End) → IsProvisioning p → KeepsRing p ids
    → i < length p.circuits → get_or p.circuits i c ≡ c → (end_of c e).0 < length ids
end_inside p ids i c e form (inl none) h read = empty_has_none p.circuits i none h
end_inside p ids i c e form (inr kept) h read =
    let size : option_map_or length p.ring 0 ≡ length ids = ap (λ r. option_map_or length r 0) kept in
    subst (λ n. (end_of c e).0 < n) size (end_within (option_map_or length p.ring 0) c e
    (subst (IsInRing (option_map_or length p.ring 0)) read (form.circuits.in_ring i c h)))
