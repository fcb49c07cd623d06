-- An arc that holds none of some spans, by the spans and by the arc's places.
use Rattle.std.proofs.Common.{◌≡◌, ℕ, zero, suc, ◌+◌, ◌-◌, ◌%◌, ◌<◌, ◌≤◌, Bool, true, false, List, [], ◌∷◌, inl, inr, refl, ap, ◌∙◌, sym}
use Rattle.std.proofs.Common.{arith, eq-eqb}
use Rattle.std.specs.Prelude.{not, ◌&&◌, ◌||◌, ◌==◌}
use Rattle.std.specs.List.{list_any}
use Rattle.std.proofs.Math.Nat.{mod-add-mod, mod-lt}
use Rattle.std.proofs.lemmas.Bool.{eqb-true, cases_eq, and_left, and_right, not_from_true, false_from_ne_true, both_ways}
use Rattle.sdh_ringmap.specs.Places.{eastwards}
use Rattle.sdh_ringmap.specs.Arcs.{Arc, arc_span, opposite_arc, none_of, holds_span, is_clear, is_among}
use Rattle.sdh_ringmap.specs.declared.Span.{Span}
use Rattle.sdh_ringmap.proofs.Around.{arc_end, eastwards-place, holds, held_inside, held_near}

-- p holds at none of the k places from i on
pub none_of-never : (p : ℕ → Bool) (i k : ℕ) → ((j : ℕ) → i ≤ j → j < i + k → p j ≡ false) → none_of p i k ≡ true
none_of-never p i zero none = refl
none_of-never p i (suc k) none =
    let rest = none_of-never p (suc i) k (λ j low high. none j (omega arith) (omega arith)) in
    let here : p i ≡ false = none i (omega arith) (omega arith) in
    ap (λ b. not b && none_of p (suc i) k) here ∙ rest

-- p holds at place j, which is one of the k places from i on
pub none_of-met : (p : ℕ → Bool) (i k j : ℕ) → i ≤ j → j < i + k → p j ≡ true → none_of p i k ≡ false
none_of-met p i zero j low high e = absurd (omega arith)
none_of-met p i (suc k) j low high e = elim (cases_eq j i) [
  | inl same ↦ and_left (not (p i)) (none_of p (suc i) k) (not_from_true (p i) (ap p (sym same) ∙ e))
  | inr other ↦ and_right (not (p i)) (none_of p (suc i) k) (none_of-met p (suc i) k j (omega arith) (omega arith) e)
]

-- where p holds at none of the k places from i on, it doesn't hold at place j, which is one of them
pub none_of-at : (p : ℕ → Bool) (i k : ℕ) → none_of p i k ≡ true → (j : ℕ) → i ≤ j → j < i + k → p j ≡ false
none_of-at p i k none j low high = false_from_ne_true (p j) (λ e. both_ways (none_of p i k) (none_of-met p i k j low high e) none)

-- another test that holds at the same places, counted from elsewhere
none_of-same : (p q : ℕ → Bool) (i j k : ℕ) → ((x : ℕ) → p (i + x) ≡ q (j + x)) → none_of p i k ≡ none_of q j k
none_of-same p q i j zero same = refl
none_of-same p q i j (suc k) same =
    let here : p i ≡ q j = ap p (omega arith) ∙ same 0 ∙ ap q (omega arith) in
    let rest = none_of-same p q (suc i) (suc j) k (λ x. ap p (omega arith) ∙ same (suc x) ∙ ap q (omega arith)) in
    ap (λ b. not b && none_of p (suc i) k) here ∙ ap (λ b. not (q j) && b) rest

-- the places of the opposite arc are those after the arc's
pub is_clear-opposite : (n : ℕ) (applied : ℕ → Bool) (arc : Arc)
    → is_clear n applied (opposite_arc n arc) ≡ none_of (λ i. applied (arc_span n arc i)) arc.spans (n - arc.spans)
unfolding is_clear
is_clear-opposite n applied arc =
    none_of-same (λ i. applied (arc_span n (opposite_arc n arc) i)) (λ i. applied (arc_span n arc i)) 0 arc.spans (n - arc.spans)
    (λ x. ap applied (mod-add-mod (arc.start + arc.spans) n (0 + x) ∙ ap (λ k. k % n) (omega arith)))

-- two tests hold nowhere, taken together and each by itself
both_none : (a b x y : Bool) → (not (a || b) && (x && y)) ≡ ((not a && x) && (not b && y))
both_none true b x y = refl
both_none false true true y = refl
both_none false true false y = refl
both_none false false x y = refl

pub none_of-or : (p q : ℕ → Bool) (i k : ℕ) → none_of (λ j. p j || q j) i k ≡ (none_of p i k && none_of q i k)
none_of-or p q i zero = refl
none_of-or p q i (suc k) =
    ap (λ x. not (p i || q i) && x) (none_of-or p q (suc i) k) ∙ both_none (p i) (q i) (none_of p (suc i) k) (none_of q (suc i) k)

neither : (a b : Bool) → (not a && not b) ≡ not (a || b)
neither true b = refl
neither false b = refl

module _ (n : ℕ) (arc : Arc) (start_in : arc.start < n) (few : arc.spans ≤ n) where
  -- a span that the arc holds is met at its place
  met_there : (x : ℕ) → holds_span n arc x ≡ true → none_of (λ i. x == arc_span n arc i) 0 arc.spans ≡ false
  met_there x e =
      let inside = held_inside n x arc e in
      let along = held_near n x arc e in
      let place : x ≡ (arc.start + eastwards n arc.start x) % n = sym (arc_end n arc.start x start_in inside) in
      none_of-met (λ i. x == arc_span n arc i) 0 arc.spans (eastwards n arc.start x) (omega arith) (omega arith) (eq-eqb x _ place)

  -- a span at a place of the arc is held by it
  held : (x i : ℕ) → i < arc.spans → (x == arc_span n arc i) ≡ true → holds_span n arc x ≡ true
  held x i h e =
      let is = eqb-true x (arc_span n arc i) e in
      let some : 0 < n = omega arith in
      let small = mod-lt (arc.start + i) some in
      let inside : x < n = omega arith in
      let inn : i < n = omega arith in
      let along : eastwards n arc.start x ≡ i = ap (eastwards n arc.start) is ∙ eastwards-place n arc.start i start_in inn in
      holds n x arc inside (omega arith)

  one : (x : ℕ) (b : Bool) → holds_span n arc x ≡ b → none_of (λ i. x == arc_span n arc i) 0 arc.spans ≡ not b
  one x true e = met_there x e
  one x false e = none_of-never (λ i. x == arc_span n arc i) 0 arc.spans (λ j low high.
      false_from_ne_true (x == arc_span n arc j) (λ yes. both_ways (holds_span n arc x) e (held x j (omega arith) yes)))

  -- the arc holds no span of a list exactly where it holds none of them, one by one
  pub is_clear-list : (spans : List Span) → is_clear n (is_among spans) arc ≡ not (list_any (λ s. holds_span n arc s.0) spans)
  unfolding is_clear
  is_clear-list [] = none_of-never (λ i. false) 0 arc.spans (λ j low high. refl)
  is_clear-list (x ∷ spans) =
      none_of-or (λ i. x.0 == arc_span n arc i) (λ i. is_among spans (arc_span n arc i)) 0 arc.spans
      ∙ ap (λ b. b && none_of (λ i. is_among spans (arc_span n arc i)) 0 arc.spans) (one x.0 (holds_span n arc x.0) refl)
      ∙ ap (λ b. not (holds_span n arc x.0) && b) (is_clear-list spans)
      ∙ neither (holds_span n arc x.0) (list_any (λ s. holds_span n arc s.0) spans)
