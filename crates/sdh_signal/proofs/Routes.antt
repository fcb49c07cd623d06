-- The routes law: each port of a joined circuit gets its own circuit's other port, every other port AIS.
use Rattle.std.proofs.Common.{◌≡◌, ℕ, ◌+◌, ◌-◌, ◌*◌, ◌<◌, suc, Bool, true, false, Some, List, refl, ap, sym, ◌∙◌, subst, arith, inl, inr}
use Rattle.std.proofs.Common.{◌⊎◌}
use Rattle.std.specs.Prelude.{slice_get, ◌||◌}
use Rattle.std.proofs.lemmas.Bool.{cases_Bool, cases_lt, or_parts, or_cases, both_ways}
use Rattle.sdh_circuits.specs.Provisioned.{Provisioned, arc_of}
use Rattle.sdh_circuits.specs.declared.End.{End}
use Rattle.sdh_circuits.specs.declared.End.TheVariants.{A, B}
use Rattle.sdh_circuits.specs.Ends.{other_end}
use Rattle.sdh_restoration.specs.Routes.{applied_at_place, hops, last_place, places_before}
use Rattle.sdh_ringmap.specs.Arcs.{is_clear, is_joined, none_of}
use Rattle.sdh_ringmap.specs.declared.Side.TheVariants.{East, West}
use Rattle.sdh_ringmap.proofs.Going.{going-inside, going-none, going-round, mirror-way}
use Rattle.sdh_signal.proofs.Lengths.{around-hops, clear-is, straight-hops}
use Rattle.sdh_signal.proofs.RouteMarks.{IsFirst, IsLast, first-is, last-is, first-place, last-place}
use Rattle.sdh_ringmap.proofs.Clear.{is_clear-opposite, none_of-at}
use Rattle.sdh_signal.proofs.Seen.{Seen}
use Rattle.sdh_signal.proofs.Segments.{unswitched}
use Rattle.sdh_signal.proofs.Sights.{arc-end, arc-short, seen-east, seen-west}
use Rattle.sdh_signal.proofs.States.{Resting, on}
use Rattle.sdh_signal.proofs.Switched.{Parted, Struck, silent, switched}
use Rattle.sdh_signal.proofs.Views.{AreOnRing, arc_length}
use Rattle.sdh_signal.specs.Law.{IsRouted, IsSilent}
use Rattle.sdh_ringmap.specs.Steps.{going, way}
use Rattle.sdh_signal.specs.Walks.{Leads, delivery, port, port_at, stand}

module _ (n : ℕ) (r : Resting n) (cs : List Provisioned) (ring : AreOnRing n cs) (index : ℕ) (c : Provisioned)
    (is : slice_get cs index ≡ Some c) where
  -- whether the span at a place of the arc is applied
  abbrev pub place : ℕ → Bool
  place = applied_at_place n r.applied (arc_of n c)

  pub some : 0 < n
  some = let inside = ring.inside index c is in omega arith

  pub short : (arc_length n c) < n
  short = arc-short n cs ring index c is

  -- the circuit's end, from which the way west is counted
  abbrev pub end : ℕ
  end = going n East c.from.0 (arc_length n c)

  pub east-place : (i : ℕ) → on n r some East c.from.0 i ≡ place i
  unfolding going
  east-place i = refl

  pub west-place : (i j : ℕ) → i + suc j ≡ (arc_length n c) → on n r some West end i ≡ place j
  west-place i j e = ap r.applied (mirror-way n some East c.from.0 i j (arc_length n c) e) ∙ east-place j

  west-far : (i j : ℕ) → i + suc j ≡ (arc_length n c) + n → on n r some West end i ≡ place j
  west-far i j e =
      ap (λ q. r.applied (way n West q i)) (sym (going-round n some East c.from.0 (arc_length n c)))
      ∙ ap r.applied (mirror-way n some East c.from.0 i j ((arc_length n c) + n) e) ∙ east-place j

  pub seen_east : Seen n cs index c East c.from.0 A B
  seen_east = seen-east n cs ring index c is

  pub seen_west : Seen n cs index c West end B A
  seen_west = seen-west n cs ring index c is

  at_a : stand (going n East c.from.0 0) (port index A) ≡ stand (port_at c A) (port index A)
  at_a = ap (λ q. stand q (port index A)) (going-none n some East c.from.0 (ring.inside index c is).0)

  at_b : stand (going n West end 0) (port index B) ≡ stand (port_at c B) (port index B)
  unfolding going
  at_b =
      ap (λ q. stand q (port index B)) (going-none n some West end (going-inside n some East c.from.0 (arc_length n c))
      ∙ sym (arc-end n cs ring index c is))

  abbrev pub f : ℕ
  f = places_before place 0 (arc_length n c)

  abbrev pub l : ℕ
  l = last_place place (arc_length n c)

  abbrev pub clear : Bool
  clear = none_of place 0 (arc_length n c)

  abbrev pub opposite_clear : Bool
  opposite_clear = none_of place (arc_length n c) (n - (arc_length n c))

  pub is_free : clear ≡ true → (j : ℕ) → j < (arc_length n c) → place j ≡ false
  is_free e j h = none_of-at place 0 (arc_length n c) e j (omega arith) (omega arith)

  pub first : clear ≡ false → IsFirst place 0 (arc_length n c) f
  first e = first-place place (arc_length n c) e

  pub last : clear ≡ false → IsLast place f (arc_length n c) l
  last e = last-place place (arc_length n c) e

  pub struck_east : clear ≡ false → opposite_clear ≡ true → Struck n r cs some East c.from.0 index c A B seen_east f l
  struck_east e o = record {
    ordered = (last e).from;
    inside = (last e).below;
    before = λ j h. east-place j ∙ (first e).before j (omega arith) h;
    first = east-place f ∙ (first e).holds;
    last = east-place l ∙ (last e).holds;
    after = λ j h g. east-place j ∙ elim (cases_lt j (arc_length n c)) [
      | inl low ↦ (last e).after j h low
      | inr high ↦ none_of-at place (arc_length n c) (n - (arc_length n c)) o j high (let s = short in omega arith)
    ];
  }

  pub struck_west : clear ≡ false → opposite_clear ≡ true → Struck n r cs some West end index c B A seen_west ((arc_length n c) - suc l)
      ((arc_length n c) - suc f)
  struck_west e o =
      let a = (last e).from in let b = (last e).below in let s = short in
      record {
        ordered = omega arith;
        inside = omega arith;
        before =
            λ j h. west-place j ((arc_length n c) - suc j) (omega arith)
            ∙ (last e).after ((arc_length n c) - suc j) (omega arith) (omega arith);
        first = west-place ((arc_length n c) - suc l) l (omega arith) ∙ (last e).holds;
        last = west-place ((arc_length n c) - suc f) f (omega arith) ∙ (first e).holds;
        after = λ j h g. elim (cases_lt j (arc_length n c)) [
          | inl low ↦ west-place j ((arc_length n c) - suc j) (omega arith)
              ∙ (first e).before ((arc_length n c) - suc j) (omega arith) (omega arith)
          | inr high ↦ west-far j ((arc_length n c) + n - suc j) (omega arith)
              ∙ none_of-at place (arc_length n c) (n - (arc_length n c)) o ((arc_length n c) + n - suc j) (omega arith) (omega arith)
        ];
      }

  pub same_length : clear ≡ false → (2 * ((arc_length n c) - suc l) + n + (arc_length n c)) - 2 * (((arc_length n c) - suc f) + 1)
      ≡ (2 * f + n + (arc_length n c)) - 2 * (l + 1)
  same_length e = let a = (last e).from in let b = (last e).below in omega arith

  to_a : (k : ℕ) → Leads n r.state cs c.slot.0 k (delivery n r.state cs c B) (stand (going n East c.from.0 0) (port index A))
      → Leads n r.state cs c.slot.0 k (delivery n r.state cs c B) (stand (port_at c A) (port index A))
  to_a k w = subst (λ z. Leads n r.state cs c.slot.0 k (delivery n r.state cs c B) z) at_a w

  to_b : (k : ℕ) → Leads n r.state cs c.slot.0 k (delivery n r.state cs c A) (stand (going n West end 0) (port index B))
      → Leads n r.state cs c.slot.0 k (delivery n r.state cs c A) (stand (port_at c B) (port index B))
  to_b k w = subst (λ z. Leads n r.state cs c.slot.0 k (delivery n r.state cs c A) z) at_b w

  straight : clear ≡ true → (e : End) → Leads n r.state cs c.slot.0 (arc_length n c) (delivery n r.state cs c e)
      (stand (port_at c (other_end e)) (port index (other_end e)))
  straight h A =
      to_b (arc_length n c) (unswitched n r cs some West end index c B A seen_west
      (λ j g. west-place j ((arc_length n c) - suc j) (omega arith) ∙ is_free h ((arc_length n c) - suc j) (omega arith)))
  straight h B = to_a (arc_length n c) (unswitched n r cs some East c.from.0 index c A B seen_east (λ j g. east-place j ∙ is_free h j g))

  around : clear ≡ false → opposite_clear ≡ true → (e : End)
      → Leads n r.state cs c.slot.0 ((2 * f + n + (arc_length n c)) - 2 * (l + 1)) (delivery n r.state cs c e)
      (stand (port_at c (other_end e)) (port index (other_end e)))
  around h o A =
      subst (λ k. Leads n r.state cs c.slot.0 k (delivery n r.state cs c A) (stand (port_at c B) (port index B))) (same_length h)
      (to_b ((2 * ((arc_length n c) - suc l) + n + (arc_length n c)) - 2 * (((arc_length n c) - suc f) + 1))
      (switched n r cs some West end index c B A seen_west ((arc_length n c) - suc l) ((arc_length n c) - suc f) (struck_west h o)))
  around h o B =
      to_a ((2 * f + n + (arc_length n c)) - 2 * (l + 1)) (switched n r cs some East c.from.0 index c A B seen_east f l (struck_east h o))

  -- the first applied place of the opposite arc, and the last
  abbrev g : ℕ
  g = (arc_length n c) + places_before place (arc_length n c) (n - (arc_length n c))

  abbrev h : ℕ
  h = last_place place n

  first_opposite : opposite_clear ≡ false → IsFirst place (arc_length n c) (n - (arc_length n c)) g
  first_opposite o = first-is place (arc_length n c) (n - (arc_length n c)) o

  last_opposite : opposite_clear ≡ false → IsLast place g n h
  last_opposite o = last-is place g n (let b = (first_opposite o).below in let s = short in omega arith) (first_opposite o).holds

  pub parted_east : clear ≡ false → opposite_clear ≡ false → Parted n r cs some East c.from.0 index c A B seen_east l g
  parted_east e o = record {
    inside = (last e).below;
    outside = (first_opposite o).from;
    few = let b = (first_opposite o).below in let s = short in omega arith;
    last = east-place l ∙ (last e).holds;
    next = east-place g ∙ (first_opposite o).holds;
    between = λ j a b. east-place j ∙ elim (cases_lt j (arc_length n c)) [
      | inl low ↦ (last e).after j a low
      | inr high ↦ (first_opposite o).before j high b
    ];
  }

  pub parted_west : clear ≡ false → opposite_clear ≡ false → Parted n r cs some West end index c B A seen_west ((arc_length n c) - suc f)
      ((arc_length n c) + n - suc h)
  parted_west e o =
      let a = (first e).below in let b = (last_opposite o).below in let d = (last_opposite o).from in let i =
      (first_opposite o).from in let s = short in
      record {
        inside = omega arith;
        outside = omega arith;
        few = omega arith;
        last = west-place ((arc_length n c) - suc f) f (omega arith) ∙ (first e).holds;
        next = west-far ((arc_length n c) + n - suc h) h (omega arith) ∙ (last_opposite o).holds;
        between = λ j u v. elim (cases_lt j (arc_length n c)) [
          | inl low ↦ west-place j ((arc_length n c) - suc j) (omega arith)
              ∙ (first e).before ((arc_length n c) - suc j) (omega arith) (omega arith)
          | inr high ↦ west-far j ((arc_length n c) + n - suc j) (omega arith)
              ∙ (last_opposite o).after ((arc_length n c) + n - suc j) (omega arith) (omega arith)
        ];
      }

  nothing : clear ≡ false → opposite_clear ≡ false → (e : End) → IsSilent n r.state cs c.slot.0 (delivery n r.state cs c e)
  nothing t o A = (
    (arc_length n c) - suc ((arc_length n c) - suc f),
    going n West end (suc ((arc_length n c) - suc f)),
    (let s = short in omega arith),
    silent n r cs some West end index c B A seen_west ((arc_length n c) - suc f) ((arc_length n c) + n - suc h) (parted_west t o),
  )
  nothing t o B = (
    (arc_length n c) - suc l,
    going n East c.from.0 (suc l),
    (let s = short in omega arith),
    silent n r cs some East c.from.0 index c A B seen_east l g (parted_east t o),
  )

  -- where the ends are joined but the arc isn't free, the opposite arc is
  pub other_free : (clear || opposite_clear) ≡ true → clear ≡ false → opposite_clear ≡ true
  other_free j t = elim (or_cases clear opposite_clear j) [ inl free ↦ absurd (both_ways clear t free) | inr other ↦ other ]

  by_arcs : (e : End) → (clear ≡ true) ⊎ (clear ≡ false) → (clear || opposite_clear) ≡ true
      → Leads n r.state cs c.slot.0 (hops n r.applied (arc_of n c)) (delivery n r.state cs c e)
      (stand (port_at c (other_end e)) (port index (other_end e)))
  by_arcs e (inl t) j =
      subst (λ k. Leads n r.state cs c.slot.0 k (delivery n r.state cs c e) (stand (port_at c (other_end e)) (port index (other_end e))))
      (sym (straight-hops n r.applied c (clear-is n r.applied c ∙ t))) (straight t e)
  by_arcs e (inr t) j =
      subst (λ k. Leads n r.state cs c.slot.0 k (delivery n r.state cs c e) (stand (port_at c (other_end e)) (port index (other_end e))))
      (sym (around-hops n r.applied c (clear-is n r.applied c ∙ t))) (around t (other_free j t) e)

  -- the ends are joined where the places of one of the two arcs are free
  pub joined-is : is_joined n r.applied (arc_of n c) ≡ (clear || opposite_clear)
  unfolding is_joined is_clear arc_length
  joined-is = ap (λ b. is_clear n r.applied (arc_of n c) || b) (is_clear-opposite n r.applied (arc_of n c))

  pub routes : (e : End) → IsRouted n r.applied r.state cs index c e
  routes e = record {
    joined = λ j. by_arcs e (cases_Bool clear) (sym joined-is ∙ j);
    parted = λ j. let t = or_parts clear opposite_clear (sym joined-is ∙ j) in nothing t.0 t.1 e;
  }
