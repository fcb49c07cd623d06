-- The walk of a joined circuit's port leads along the route.
use Rattle.std.proofs.Common.{◌≡◌, ℕ, ◌+◌, ◌-◌, ◌*◌, ◌<◌, suc, zero, Bool, true, false, Some, List, [], ◌∷◌, ◌++◌, refl, ap, sym, ◌∙◌}
use Rattle.std.proofs.Common.{arith, inl, inr, ◌⊎◌, append_assoc, length, length-append, ap₂}
use Rattle.std.specs.Prelude.{slice_get, ◌||◌, reverse}
use Rattle.std.proofs.lemmas.List.{reverse-append, reverse-reverse, length-reverse}
use Rattle.std.proofs.lemmas.Bool.{cases_Bool, cond-true, cond-false}
use Rattle.sdh_circuits.specs.Provisioned.{Provisioned, arc_of}
use Rattle.sdh_circuits.specs.declared.End.{End}
use Rattle.sdh_circuits.specs.declared.End.TheVariants.{A, B}
use Rattle.sdh_restoration.specs.Routes.{hops, route, spans_from}
use Rattle.sdh_ringmap.specs.Arcs.{arc_span, is_clear}
use Rattle.sdh_ringmap.specs.declared.Side.TheVariants.{East, West}
use Rattle.sdh_signal.proofs.Crossing.{crossed-around, crossed-straight, down, up}
use Rattle.sdh_ringmap.proofs.Going.{going-round, mirror-way}
use Rattle.sdh_signal.proofs.Lengths.{around-hops, clear-is, straight-hops}
use Rattle.sdh_signal.proofs.Routes.{east-place, is_free, joined-is, same_length, seen_east, seen_west, struck_east, struck_west}
use Rattle.sdh_signal.proofs.Routes.{west-place, end, f, l, some, clear, opposite_clear, other_free, last, short}
use Rattle.sdh_signal.proofs.States.{Resting}
use Rattle.sdh_signal.proofs.Views.{AreOnRing, arc_length}
use Rattle.sdh_signal.specs.Law.{IsAlongRoute}
use Rattle.sdh_ringmap.specs.Steps.{going, way}
use Rattle.sdh_signal.specs.Walks.{crossed, delivery}

module _ (n : ℕ) (applied : ℕ → Bool) (c : Provisioned) where
  abbrev spans : ℕ → ℕ → List ℕ
  spans i k = spans_from n applied (arc_of n c) i k

  one_more : (i k : ℕ) → spans i (suc k) ≡ spans i k ++ (arc_span n (arc_of n c) (i + k) ∷ [])
  one_more i zero = ap (λ j. arc_span n (arc_of n c) j ∷ []) (omega arith)
  one_more i (suc k) =
      ap (λ l. arc_span n (arc_of n c) i ∷ l) (one_more (suc i) k
      ∙ ap (λ j. spans (suc i) k ++ (arc_span n (arc_of n c) j ∷ [])) (omega arith))

  turned : (i k : ℕ) → reverse (spans i (suc k)) ≡ arc_span n (arc_of n c) (i + k) ∷ reverse (spans i k)
  turned i k = ap reverse (one_more i k) ∙ reverse-append (spans i k) (arc_span n (arc_of n c) (i + k) ∷ [])

  span_count : (i k : ℕ) → length (spans i k) ≡ k
  span_count i zero = refl
  span_count i (suc k) = ap suc (span_count (suc i) k)

joined_lists : (a b c : List ℕ) → reverse (a ++ (reverse b ++ c)) ≡ reverse c ++ (b ++ reverse a)
joined_lists a b c =
    reverse-append a (reverse b ++ c) ∙ ap (λ x. x ++ reverse a)
    (reverse-append (reverse b) c ∙ ap (λ x. reverse c ++ x) (reverse-reverse b)) ∙ append_assoc (reverse c) b (reverse a)

same_three : (a b c x y z : List ℕ) → a ≡ x → b ≡ y → c ≡ z → (a ++ (b ++ c)) ≡ (x ++ (y ++ z))
same_three a b c x y z e h g = ap₂ ◌++◌ e (ap₂ ◌++◌ h g)

module _ (n : ℕ) (r : Resting n) (cs : List Provisioned) (ring : AreOnRing n cs) (index : ℕ) (c : Provisioned)
    (is : slice_get cs index ≡ Some c) where
  abbrev len : ℕ
  len = arc_length n c

  abbrev base : ℕ
  base = c.from.0

  abbrev stop : ℕ
  stop = end n r cs ring index c is

  abbrev first_place : ℕ
  first_place = f n r cs ring index c is

  abbrev last_applied : ℕ
  last_applied = l n r cs ring index c is

  abbrev part : ℕ → ℕ → List ℕ
  part i k = spans_from n r.applied (arc_of n c) i k

  abbrev positive : 0 < n
  positive = some n r cs ring index c is

  east_way : (i : ℕ) → way n East base i ≡ arc_span n (arc_of n c) i
  unfolding going
  east_way i = refl

  west_near : (i j : ℕ) → i + suc j ≡ len → way n West stop i ≡ arc_span n (arc_of n c) j
  west_near i j e = mirror-way n positive East base i j len e ∙ east_way j

  west_far : (i j : ℕ) → i + suc j ≡ len + n → way n West stop i ≡ arc_span n (arc_of n c) j
  west_far i j e =
      ap (λ q. way n West q i) (sym (going-round n positive East base len)) ∙ mirror-way n positive East base i j (len + n) e ∙ east_way j

  up-east : (i k : ℕ) → up n East base i k ≡ part i k
  up-east i zero = refl
  up-east i (suc k) = ap₂ ◌∷◌ (east_way i) (up-east (suc i) k)

  down-east : (i k : ℕ) → down n East base i k ≡ reverse (part i k)
  down-east i zero = refl
  down-east i (suc k) = ap₂ ◌∷◌ (east_way (i + k)) (down-east i k) ∙ sym (turned n r.applied c i k)

  down-west : (k i a : ℕ) → a + i + k ≡ len → down n West stop i k ≡ part a k
  down-west zero i a e = refl
  down-west (suc k) i a e = ap₂ ◌∷◌ (west_near (i + k) a (omega arith)) (down-west k i (suc a) (omega arith))

  up-west : (k i a : ℕ) → a + i + k ≡ len + n → up n West stop i k ≡ reverse (part a k)
  up-west zero i a e = refl
  up-west (suc k) i a e = ap₂ ◌∷◌ (west_far i (a + k) (omega arith)) (up-west k (suc i) a (omega arith)) ∙ sym (turned n r.applied c a k)

  abbrev is_free_arc : Bool
  is_free_arc = clear n r cs ring index c is

  abbrev is_free_rest : Bool
  is_free_rest = opposite_clear n r cs ring index c is

  -- the parts of a switched route
  abbrev out : List ℕ
  out = part 0 first_place

  abbrev round : List ℕ
  round = part (last_applied + 1) (n + first_place - (last_applied + 1))

  abbrev home : List ℕ
  home = part (last_applied + 1) (len - (last_applied + 1))

  straight_route : is_free_arc ≡ true → route n r.applied (arc_of n c) ≡ part 0 len
  unfolding route is_clear arc_length
  straight_route t = cond-true is_free_arc (part 0 len) (out ++ (reverse round ++ home)) t

  switched_route : is_free_arc ≡ false → route n r.applied (arc_of n c) ≡ out ++ (reverse round ++ home)
  unfolding route is_clear arc_length
  switched_route t = cond-false is_free_arc (part 0 len) (out ++ (reverse round ++ home)) t

  straight_hops : is_free_arc ≡ true → hops n r.applied (arc_of n c) ≡ len
  straight_hops t = straight-hops n r.applied c (clear-is n r.applied c ∙ t)

  switched_hops : is_free_arc ≡ false → hops n r.applied (arc_of n c) ≡ (2 * first_place + n + len) - 2 * (last_applied + 1)
  switched_hops t = around-hops n r.applied c (clear-is n r.applied c ∙ t)

  counted : (is_free_arc ≡ true) ⊎ (is_free_arc ≡ false) → length (route n r.applied (arc_of n c)) ≡ hops n r.applied (arc_of n c)
  counted (inl t) = ap length (straight_route t) ∙ span_count n r.applied c 0 len ∙ sym (straight_hops t)
  counted (inr t) =
      let a = (last n r cs ring index c is t).from in let b = (last n r cs ring index c is t).below in
      let x = span_count n r.applied c 0 first_place in
      let y = length-reverse round ∙ span_count n r.applied c (last_applied + 1) (n + first_place - (last_applied + 1)) in
      let z = span_count n r.applied c (last_applied + 1) (len - (last_applied + 1)) in
      let s = short n r cs ring index c is in
      ap length (switched_route t) ∙ length-append out (reverse round ++ home)
      ∙ ap (λ k. length out + k) (length-append (reverse round) home) ∙ omega arith ∙ sym (switched_hops t)

  abbrev walked : End → ℕ → List ℕ
  walked e k = crossed n r.state cs c.slot.0 k (delivery n r.state cs c e)

  straight_a : is_free_arc ≡ true → walked A len ≡ part 0 len
  straight_a t =
      let free = is_free n r cs ring index c is t in
      crossed-straight n r cs positive West stop index c B A (seen_west n r cs ring index c is)
      (λ j g. west-place n r cs ring index c is j (len - suc j) (omega arith) ∙ free (len - suc j) (omega arith))
      ∙ down-west len 0 0 (omega arith)

  straight_b : is_free_arc ≡ true → walked B len ≡ reverse (part 0 len)
  straight_b t =
      let free = is_free n r cs ring index c is t in
      crossed-straight n r cs positive East base index c A B (seen_east n r cs ring index c is)
      (λ j g. east-place n r cs ring index c is j ∙ free j g)
      ∙ down-east 0 len

  one_on : suc last_applied ≡ last_applied + 1
  one_on = omega arith

  around_b : is_free_arc ≡ false → is_free_rest ≡ true → walked B ((2 * first_place + n + len) - 2 * (last_applied + 1))
      ≡ reverse home ++ (round ++ reverse out)
  around_b t o =
      let u = suc last_applied in
      crossed-around n r cs positive East base index c A B (seen_east n r cs ring index c is) first_place last_applied
      (struck_east n r cs ring index c is t o)
      ∙ same_three (down n East base u (len - u)) (up n East base u (n + first_place - u)) (down n East base 0 first_place)
      (reverse home) round (reverse out)
      (down-east u (len - u) ∙ ap (λ i. reverse (part i (len - i))) one_on)
      (up-east u (n + first_place - u) ∙ ap (λ i. part i (n + first_place - i)) one_on) (down-east 0 first_place)

  around_a : is_free_arc ≡ false → is_free_rest ≡ true → walked A ((2 * first_place + n + len) - 2 * (last_applied + 1))
      ≡ out ++ (reverse round ++ home)
  around_a t o =
      let a = (last n r cs ring index c is t).from in let b = (last n r cs ring index c is t).below in let s =
      short n r cs ring index c is in
      let f' = len - suc last_applied in let l' = len - suc first_place in
      ap (walked A) (sym (same_length n r cs ring index c is t))
      ∙ crossed-around n r cs positive West stop index c B A (seen_west n r cs ring index c is) f' l'
      (struck_west n r cs ring index c is t o)
      ∙ same_three (down n West stop (suc l') (len - suc l')) (up n West stop (suc l') (n + f' - suc l')) (down n West stop 0 f') out
      (reverse round) home
      (down-west (len - suc l') (suc l') 0 (omega arith) ∙ ap (part 0) {x = len - suc l'} {y = first_place} (omega arith))
      (up-west (n + f' - suc l') (suc l') (suc last_applied) (omega arith)
      ∙ ap (λ k. reverse (part (suc last_applied) k)) {x = n + f' - suc l'} {y = n + first_place - suc last_applied} (omega arith)
      ∙ ap (λ i. reverse (part i (n + first_place - i))) one_on)
      (down-west f' 0 (suc last_applied) (omega arith) ∙ ap (λ i. part i (len - i)) one_on)

  from_a : (is_free_arc ≡ true) ⊎ (is_free_arc ≡ false) → (is_free_arc || is_free_rest) ≡ true
      → walked A (hops n r.applied (arc_of n c)) ≡ route n r.applied (arc_of n c)
  from_a (inl t) j = ap (walked A) (straight_hops t) ∙ straight_a t ∙ sym (straight_route t)
  from_a (inr t) j = ap (walked A) (switched_hops t) ∙ around_a t (other_free n r cs ring index c is j t) ∙ sym (switched_route t)

  from_b : (is_free_arc ≡ true) ⊎ (is_free_arc ≡ false) → (is_free_arc || is_free_rest) ≡ true
      → walked B (hops n r.applied (arc_of n c)) ≡ reverse (route n r.applied (arc_of n c))
  from_b (inl t) j = ap (walked B) (straight_hops t) ∙ straight_b t ∙ ap reverse (sym (straight_route t))
  from_b (inr t) j =
      ap (walked B) (switched_hops t) ∙ around_b t (other_free n r cs ring index c is j t) ∙ sym (joined_lists out round home)
      ∙ ap reverse (sym (switched_route t))

  pub along-route : IsAlongRoute n r.applied r.state cs c
  along-route = record {
    span_count = counted (cases_Bool is_free_arc);
    from_a = λ j. from_a (cases_Bool is_free_arc) (sym (joined-is n r cs ring index c is) ∙ j);
    from_b = λ j. from_b (cases_Bool is_free_arc) (sym (joined-is n r cs ring index c is) ∙ j);
  }
