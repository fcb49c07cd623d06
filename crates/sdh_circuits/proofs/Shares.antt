-- Circuits that share a span and a slot.
use Rattle.std.proofs.Common.{◌≡◌, ℕ, ◌<◌, get_or, Bool, true, false, ◌&&◌, ◌||◌, ◌==◌, refl, sym, ap, ◌∙◌, arith, inl, inr, eq-eqb}
use Rattle.std.specs.List.{list_any, range_with_len}
use Rattle.std.proofs.lemmas.Bool.{and_from}
use Rattle.std.proofs.lemmas.List.Folds.{list_any_at, list_any_none}
use Rattle.std.proofs.lemmas.List.FromFn.{get_or-range_with_len, length-range_with_len}
use Rattle.sdh_ringmap.specs.Arcs.{holds_span}
use Rattle.sdh_ringmap.proofs.Around.{holds_start, one_holds_start, held_inside}
use Rattle.sdh_circuits.specs.Provisioned.{Provisioned, arc_of}
use Rattle.sdh_circuits.specs.Provisioning.{IsInRing}
use Rattle.sdh_circuits.specs.Checks.{do_share}

-- both arcs hold the span
both_hold : ℕ → Provisioned → Provisioned → ℕ → Bool
both_hold n c d s = holds_span n (arc_of n c) s && holds_span n (arc_of n d) s

pub not_both : (a b : Bool) → (a ≡ true → b ≡ true → ⊥) → (a && b) ≡ false
not_both false b h = refl
not_both true false h = refl
not_both true true h = absurd (h refl refl)

shown : (n : ℕ) (c d : Provisioned) (s : ℕ) → s < n → both_hold n c d s ≡ true → list_any (both_hold n c d) (range_with_len 0 n) ≡ true
shown n c d s h e =
    let here : get_or (range_with_len 0 n) s 0 ≡ s = get_or-range_with_len 0 n s 0 h ∙ omega arith in
    list_any_at (both_hold n c d) (range_with_len 0 n) s 0 (omega (arith, length-range_with_len 0 n)) (ap (both_hold n c d) here ∙ e)

missed : (n : ℕ) (c d : Provisioned) (s : ℕ) → IsInRing n c → IsInRing n d → false ≡ holds_span n (arc_of n c) d.from.0
    → false ≡ holds_span n (arc_of n d) c.from.0 → both_hold n c d s ≡ false
unfolding both_hold
missed n c d s hc hd e f =
    not_both (holds_span n (arc_of n c) s) (holds_span n (arc_of n d) s)
    (λ p q. elim (one_holds_start n c.from.0 c.to.0 d.from.0 d.to.0 s hc.from_inside hd.from_inside p q) [
      | inl r ↦ cc (e, r)
      | inr r ↦ cc
          (f, r)
    ])

-- where one of two arcs holds the span at which the other starts, they share a span, and only there
share_any : (n : ℕ) (c d : Provisioned) → IsInRing n c → IsInRing n d → (h k : Bool) → h ≡ holds_span n (arc_of n c) d.from.0
    → k ≡ holds_span n (arc_of n d) c.from.0
    → list_any (both_hold n c d) (range_with_len 0 n) ≡ (h || k)
unfolding both_hold
share_any n c d hc hd true k e f =
    shown n c d d.from.0 hd.from_inside (and_from (holds_span n (arc_of n c) d.from.0) (holds_span n (arc_of n d) d.from.0) (sym e)
    (holds_start n d.from.0 d.to.0 hd.from_inside hd.to_inside hd.two_ends))
share_any n c d hc hd false true e f =
    shown n c d c.from.0 hc.from_inside (and_from (holds_span n (arc_of n c) c.from.0) (holds_span n (arc_of n d) c.from.0)
    (holds_start n c.from.0 c.to.0 hc.from_inside hc.to_inside hc.two_ends) (sym f))
share_any n c d hc hd false false e f =
    list_any_none (both_hold n c d) (range_with_len 0 n)
    (λ i x h. missed n c d (get_or (range_with_len 0 n) i x) hc hd e f)

pub share_by_starts : (n : ℕ) (c d : Provisioned) → IsInRing n c → IsInRing n d
    → do_share n c d ≡ (c.slot.0 == d.slot.0 && (holds_span n (arc_of n c) d.from.0 || holds_span n (arc_of n d) c.from.0))
unfolding do_share both_hold
share_by_starts n c d hc hd =
    ap (λ b. c.slot.0 == d.slot.0 && b) (share_any n c d hc hd (holds_span n (arc_of n c) d.from.0)
    (holds_span n (arc_of n d) c.from.0) refl refl)

-- two circuits in one slot whose arcs hold one span share it
pub shared : (n : ℕ) (c d : Provisioned) (s : ℕ) → holds_span n (arc_of n c) s ≡ true → holds_span n (arc_of n d) s ≡ true → c.slot ≡ d.slot
    → do_share n c d ≡ true
unfolding do_share both_hold
shared n c d s h k same =
    let slots : (c.slot.0 == d.slot.0) ≡ true = eq-eqb c.slot.0 d.slot.0 (ap (λ t. t.0) same) in
    and_from (c.slot.0 == d.slot.0) (list_any (both_hold n c d) (range_with_len 0 n)) slots
    (shown n c d s (held_inside n s (arc_of n c) h) (and_from (holds_span n (arc_of n c) s) (holds_span n (arc_of n d) s) h k))
