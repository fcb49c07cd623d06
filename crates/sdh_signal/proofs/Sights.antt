-- Each circuit of a ring, seen from its ends.
use Rattle.std.proofs.Common.{◌≡◌, ℕ, ◌+◌, ◌-◌, ◌<◌, suc, Bool, true, false, Option, Some, None, List, [], ◌∷◌, refl, ap, sym, ◌∙◌, arith}
use Rattle.std.proofs.Common.{inl, inr, get_or}
use Rattle.std.specs.Prelude.{◌&&◌, ◌==◌, if◌then◌else◌, slice_get}
use Rattle.std.proofs.lemmas.Bool.{and_parts, and_from, eq-eqb, eqb-true, ne_eqb, false_from_ne_true, cases_eq, cond-true, cond-false}
use Rattle.std.proofs.Math.Nat.{mod-lt}
use Rattle.std.proofs.lemmas.Option.{slice_get_within, slice_get-get_or}
use Rattle.std.proofs.Math.Bool.{and_comm}
use Rattle.sdh_circuits.specs.Provisioned.{Provisioned, arc_of, is_on}
use Rattle.sdh_circuits.specs.declared.End.TheVariants.{A, B}
use Rattle.sdh_circuits.proofs.Few.{same_slot}
use Rattle.sdh_ringmap.proofs.Around.{eastwards-place, holds as span_holds}
use Rattle.sdh_ringmap.specs.Places.{eastwards}
use Rattle.sdh_ringmap.specs.declared.Side.TheVariants.{East, West}
use Rattle.sdh_ringmap.proofs.Going.{going-inside, going-none, going-once, going-to, mirror, mirror-way}
use Rattle.sdh_signal.proofs.Seen.{Seen}
use Rattle.sdh_signal.proofs.Views.{AreOnRing, arc_length, end_at, holds}
use Rattle.sdh_ringmap.specs.Steps.{going, way}
use Rattle.sdh_signal.specs.Walks.{port_at}
use Rattle.sdh_squelch.proofs.LookUps.{entry, first-at}
use Rattle.sdh_squelch.specs.Table.{circuit_from}
use Rattle.sdh_squelch.specs.declared.Row.{Row}

-- what is found is a circuit of the list
pub record IsFound (n s m i : ℕ) (cs : List Provisioned) (e : Row) : Type 0 where
  pub place : ℕ
  pub circuit : Provisioned
  pub row : e ≡ entry (i + place) circuit
  pub is : slice_get cs place ≡ Some circuit
  pub on : is_on n s m circuit ≡ true

found_by : (n s m i : ℕ) (x : Provisioned) (cs : List Provisioned) (e : Row) (b : Bool) → is_on n s m x ≡ b
    → (if b then Some (entry i x) else circuit_from n s m (i + 1) cs) ≡ Some e
    → (circuit_from n s m (i + 1) cs ≡ Some e → IsFound n s m (i + 1) cs e) → IsFound n s m i (x ∷ cs) e
found_by n s m i x cs e true t h rest =
    let same : e ≡ entry i x = cc in
    record { place = 0; circuit = x; row = same ∙ ap (λ k. entry k x) (omega arith); is = refl; on = t }
found_by n s m i x cs e false t h rest =
    let r = rest h in
    record { place = suc r.place; circuit = r.circuit; row = r.row ∙ ap (λ k. entry k r.circuit) (omega arith); is = r.is; on = r.on }

pub found-gives : (n s m i : ℕ) (cs : List Provisioned) (e : Row) → circuit_from n s m i cs ≡ Some e → IsFound n s m i cs e
found-gives n s m i [] e h = absurd (none_isnt h) where
  none_isnt : ◌≡◌ {A = Option Row} None (Some e) → ⊥
  none_isnt h = cc
found-gives n s m i (x ∷ cs) e h = found_by n s m i x cs e (is_on n s m x) refl h (found-gives n s m (i + 1) cs e)

module _ (n : ℕ) (cs : List Provisioned) (ring : AreOnRing n cs) (index : ℕ) (c : Provisioned) (is : slice_get cs index ≡ Some c) where
  inside : c.from.0 < n
  inside = (ring.inside index c is).0

  to_inside : c.to.0 < n
  to_inside = (ring.inside index c is).1

  some : 0 < n
  some = omega (arith, inside)

  pub arc-short : (arc_length n c) < n
  unfolding arc_length
  arc-short = mod-lt (c.to.0 + (n - c.from.0)) some

  -- positions of the arc, from its start
  east : ℕ → ℕ
  east i = going n East c.from.0 i

  start : east 0 ≡ c.from.0
  unfolding east
  start = going-none n some East c.from.0 inside

  steps : (i : ℕ) → i < n → eastwards n c.from.0 (east i) ≡ i
  unfolding going east
  steps i h = eastwards-place n c.from.0 i inside h

  apart : (i j : ℕ) → i < n → j < n → east i ≡ east j → i ≡ j
  unfolding east
  apart i j hi hj e = going-once n some East c.from.0 i j hi hj e

  holds-at : (i : ℕ) → i < (arc_length n c) → holds n c (east i) ≡ true
  unfolding arc_length east
  holds-at i h =
      span_holds n (east i) (arc_of n c) (going-inside n some East c.from.0 i) (let e = steps i (omega (arith, arc-short)) in omega arith)

  on_span : (i : ℕ) → i < (arc_length n c) → circuit_from n (east i) c.slot.0 0 cs ≡ Some (entry index c)
  unfolding east
  on_span i h =
      let within = slice_get_within cs index c is in
      first-at n (east i) c.slot.0 0 index cs c c is (and_from _ _ (eq-eqb c.slot.0 c.slot.0 refl) (holds-at i h))
      (λ k before. false_from_ne_true (is_on n (east i) c.slot.0 (get_or cs k c)) (λ t.
      let x = get_or cs k c in
      let both = and_parts (x.slot.0 == c.slot.0) (holds n x (east i)) t in
      let same =
      ring.apart index k (east i) c x is (slice_get-get_or cs k c (omega arith)) (holds-at i h) both.1
      (same_slot c.slot x.slot (sym (eqb-true x.slot.0 c.slot.0 both.0))) in
      omega arith))
      ∙ ap (λ k. Some (entry k c)) (omega arith)

  end-first : end_at c (east 0) ≡ Some A
  end-first = cond-true (c.from.0 == east 0) _ _ (eq-eqb c.from.0 (east 0) (sym start))

  not_first : (i : ℕ) → 0 < i → i < n → (c.from.0 == east i) ≡ false
  not_first i h g = ne_eqb c.from.0 (east i) (λ e. let z : 0 ≡ i = apart 0 i some g (start ∙ e) in absurd (omega arith))

  last : port_at c B ≡ east (arc_length n c)
  unfolding east arc_length
  last = sym (going-to n some c.from.0 c.to.0 inside to_inside)

  pub arc-end : port_at c B ≡ going n East c.from.0 (arc_length n c)
  unfolding east
  arc-end = last

  pub arc-long : 0 < (arc_length n c)
  arc-long = elim (cases_eq 0 (arc_length n c)) [
    | inl none ↦ absurd
        (ring.two index c is (sym start ∙ ap east none ∙ sym last))
    | inr more ↦ omega arith
  ]

  end-last : end_at c (east (arc_length n c)) ≡ Some B
  end-last =
      cond-false (c.from.0 == east (arc_length n c)) _ _ (not_first (arc_length n c) arc-long arc-short)
      ∙ cond-true (port_at c B == east (arc_length n c)) _ _ (eq-eqb (port_at c B) (east (arc_length n c)) last)

  end-none : (i : ℕ) → 0 < i → i < (arc_length n c) → end_at c (east i) ≡ None
  end-none i h g =
      cond-false (c.from.0 == east i) _ _ (not_first i h (omega (arith, arc-short)))
      ∙ cond-false (port_at c B == east i) _ _ (ne_eqb (port_at c B) (east i)
      (λ e. let z : (arc_length n c) ≡ i = apart (arc_length n c) i arc-short (omega (arith, arc-short)) (sym last ∙ e) in absurd
      (omega arith)))

  pub seen-east : Seen n cs index c East c.from.0 A B
  unfolding east
  seen-east = record {
    long = arc-long;
    short = arc-short;
    on_arc = on_span;
    starts = end-first;
    passes_by = end-none;
    both = λ f. ap (λ q. f q && f (port_at c B)) (sym start) ∙ ap (λ q. f (east 0) && f q) last;
    distant_at = last;
    distant_faces = refl;
  }

  west : (i j : ℕ) → i + j ≡ (arc_length n c) → going n West (east (arc_length n c)) i ≡ east j
  unfolding east
  west i j e = mirror n some East c.from.0 i j (arc_length n c) e

  west_way : (i j : ℕ) → i + suc j ≡ (arc_length n c) → way n West (east (arc_length n c)) i ≡ east j
  unfolding east
  west_way i j e = mirror-way n some East c.from.0 i j (arc_length n c) e

  pub seen-west : Seen n cs index c West (going n East c.from.0 (arc_length n c)) B A
  unfolding east
  seen-west = record {
    long = arc-long;
    short = arc-short;
    on_arc =
        λ i h. ap (λ s. circuit_from n s c.slot.0 0 cs) (west_way i ((arc_length n c) - suc i) (omega arith))
        ∙ on_span ((arc_length n c) - suc i) (omega arith);
    starts = ap (end_at c) (west 0 (arc_length n c) (omega arith)) ∙ end-last;
    passes_by =
        λ i h g. ap (end_at c) (west i ((arc_length n c) - i) (omega arith)) ∙ end-none ((arc_length n c) - i) (omega arith) (omega arith);
    both =
        λ f. and_comm (f (port_at c A)) (f (port_at c B)) ∙ ap (λ q. f q && f (port_at c A))
        (last ∙ sym (west 0 (arc_length n c) (omega arith)))
        ∙ ap (λ q. f (going n West (east (arc_length n c)) 0) && f q) (sym start ∙ sym (west (arc_length n c) 0 (omega arith)));
    distant_at = sym start ∙ sym (west (arc_length n c) 0 (omega arith));
    distant_faces = refl;
  }
