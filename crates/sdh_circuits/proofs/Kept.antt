-- Circuits that are kept, and one that is asked for, in the ring of the map.
use Rattle.std.proofs.Common.{◌≡◌, ◌≢◌, ℕ, ◌<◌, List, [], length, get_or, Bool, true, false, not, cond, nat_lt, Option, Some, None, refl}
use Rattle.std.proofs.Common.{sym, ap, ◌∙◌, subst, arith}
use Rattle.std.specs.Prelude.{ℤ, IfSome, ◌==◌}
use Rattle.std.specs.List.{All, position_or_len}
use Rattle.std.specs.Option.{option_map}
use Rattle.std.proofs.lemmas.Bool.{both_ways, eqb-true, ltb-true, not-false, not-true}
use Rattle.std.proofs.lemmas.List.Sums.{prefix_len_stops}
use Rattle.std.specs.Ordering.{int_eq}
use Rattle.std.proofs.lemmas.Bool.Decides.{Decides-int_eq}
use Rattle.sdh_ringmap.specs.declared.Pos.{Pos}
use Rattle.sdh_ringmap.specs.Numbering.{is_id, magnitude}
use Rattle.sdh_ringmap.specs.Places.{found_at}
use Rattle.sdh_ringmap.proofs.Firsts.{same_of}
use Rattle.sdh_circuits.specs.Provisioned.{Provisioned}
use Rattle.sdh_circuits.specs.Provisioning.{Provisioning, IsProvisioning, IsInRing}
use Rattle.sdh_circuits.specs.Checks.{Wish, node_of, has_two_ends}

none_inside : (n : ℕ) (circuits : List Provisioned) → circuits ≡ [] → All (IsInRing n) circuits
none_inside n circuits e k d h = absurd (omega (arith, ap length e))

inside_ring : (ring : Option (List ℕ)) (slots : ℕ) (circuits : List Provisioned) (ids : List ℕ)
    → IsProvisioning (record { slots = slots; ring = ring; circuits = circuits })
    → IfSome ring (λ kept. kept ≡ ids) → All (IsInRing (length ids)) circuits
inside_ring None slots circuits ids is same k d h = none_inside (length ids) circuits is.empty k d h
inside_ring (Some kept) slots circuits ids is same k d h =
    let P : ℕ → Type 0 = λ n. IsInRing n (get_or circuits k d) in subst P (ap length same) (is.circuits.in_ring k d h)

-- the circuits that are kept are in the ring of the map
pub inside_kept : (p : Provisioning) (ids : List ℕ) → IsProvisioning p → IfSome p.ring (λ kept. kept ≡ ids)
    → All (IsInRing (length ids)) p.circuits
inside_kept p ids is same = inside_ring p.ring p.slots p.circuits ids is same

-- where a place is found
placed : (b : Bool) (x : ℕ) (p : Pos) → option_map (λ k. record { 0 = k }) (cond b (Some x) None) ≡ Some p → (b ≡ true) × (x ≡ p.0)
placed true x p e = (refl, cc)
placed false x p e = cc

passes : (x id : ℕ) → not (x == id) ≡ false → x ≡ id
passes x id e = eqb-true x id (not-false (x == id) e)

-- a node that is found is in the ring and has its number
found_here : (ids : List ℕ) (id : ℕ) (p : Pos) → found_at ids id ≡ Some p → (p.0 < length ids) × (get_or ids p.0 0 ≡ id)
found_here ids id p e =
    let at = position_or_len (λ x. x == id) ids in
    let is = placed (nat_lt at (length ids)) at p e in
    let lt : at < length ids = ltb-true at (length ids) is.0 in
    let stop : not (get_or ids at 0 == id) ≡ false = prefix_len_stops (λ x. not (x == id)) ids 0 lt in
    (omega (arith, lt, is.1), ap (λ k. get_or ids k 0) (sym is.1) ∙ passes (get_or ids at 0) id stop)

-- a number that is a node's
numbered : (b : Bool) (o : Option Pos) (p : Pos) → cond b o None ≡ Some p → (b ≡ true) × (o ≡ Some p)
numbered true o p e = (refl, e)
numbered false o p e = cc

node_here : (ids : List ℕ) (z : ℤ) (p : Pos) → node_of ids z ≡ Some p
    → (p.0 < length ids) × (is_id z ≡ true) × (get_or ids p.0 0 ≡ magnitude z)
node_here ids z p e =
    let is = numbered (is_id z) (found_at ids (magnitude z)) p e in
    let at = found_here ids (magnitude z) p is.1 in
    (at.0, is.0, at.1)

one_number : (y z : ℤ) → not (int_eq y z) ≡ true → y ≡ z → ⊥
one_number y z e same = both_ways (int_eq y z) (not-true (int_eq y z) e) ((Decides-int_eq y z).1 same)

-- the ends of a circuit of two nodes
ends_inside : (ids : List ℕ) (y z : ℤ) (from to : Pos) → node_of ids y ≡ Some from → node_of ids z ≡ Some to → y ≢ z
    → (from.0 < length ids) × (to.0 < length ids) × (from.0 ≢ to.0)
ends_inside ids y z from to e f ne =
    let a = node_here ids y from e in
    let b = node_here ids z to f in
    (a.0, b.0, λ same. ne (same_of y z a.1 b.1 (sym a.2 ∙ ap (λ k. get_or ids k 0) same ∙ b.2)))

pub in_ring : (ids : List ℕ) (wish : Wish) (c : Provisioned) → node_of ids wish.from ≡ Some c.from → node_of ids wish.to ≡ Some c.to
    → has_two_ends wish ≡ true → IsInRing (length ids) c
in_ring ids wish c e f two =
    let ne : wish.from ≢ wish.to = λ same. one_number wish.from wish.to two same in
    let is = ends_inside ids wish.from wish.to c.from c.to e f ne in
    record { from_inside = is.0; to_inside = is.1; two_ends = is.2 }
