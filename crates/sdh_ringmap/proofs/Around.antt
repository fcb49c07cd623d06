-- Going round a ring eastwards.
use Rattle.std.proofs.Common.{◌≡◌, ◌≢◌, ℕ, ◌+◌, ◌-◌, ◌%◌, ◌<◌, ◌≤◌, ◌⊎◌, inl, inr, true, lt-ltb, ap, ap₂, ◌∙◌, arith}
use Rattle.std.proofs.Math.Nat.{mod-eq_of_lt, add-mod_left}
use Rattle.std.proofs.lemmas.Bool.{cases_lt}
use Rattle.sdh_ringmap.specs.Places.{eastwards}
use Rattle.sdh_ringmap.specs.Arcs.{Arc, arc_between, opposite_arc, holds_span}

abbrev arc_of : ℕ → ℕ → Arc
arc_of start spans = record { start = start; spans = spans }

-- eastwards without the span from the last position to the first
pub eastwards_on : (n from to : ℕ) → from ≤ to → to < n → eastwards n from to ≡ to - from
eastwards_on n from to le lt =
    let e : to + (n - from) ≡ n + (to - from) = omega arith in
    let small : to - from < n = omega arith in
    ap (λ k. k % n) e ∙ add-mod_left n (to - from) ∙ mod-eq_of_lt small

-- eastwards over the span from the last position to the first
pub eastwards_round : (n from to : ℕ) → to < from → from < n → eastwards n from to ≡ to + (n - from)
eastwards_round n from to lt inside = let small : to + (n - from) < n = omega arith in mod-eq_of_lt small

end_on : (n from to : ℕ) → from ≤ to → to < n → (from + eastwards n from to) % n ≡ to
end_on n from to le lt =
    let e : from + eastwards n from to ≡ to = omega (arith, eastwards_on n from to le lt) in
    ap (λ k. k % n) e ∙ mod-eq_of_lt lt

end_round : (n from to : ℕ) → to < from → from < n → (from + eastwards n from to) % n ≡ to
end_round n from to lt inside =
    let small : to < n = omega arith in
    let e : from + eastwards n from to ≡ n + to = omega (arith, eastwards_round n from to lt inside) in
    ap (λ k. k % n) e ∙ add-mod_left n to ∙ mod-eq_of_lt small

-- an arc ends where it leads
pub arc_end : (n from to : ℕ) → from < n → to < n → (from + eastwards n from to) % n ≡ to
arc_end n from to hf ht = elim (cases_lt to from) [ inl lt ↦ end_round n from to lt hf | inr le ↦ end_on n from to le ht ]

-- the two ways round have all spans
pub both_ways : (n from to : ℕ) → from < n → to < n → from ≢ to → eastwards n from to + eastwards n to from ≡ n
both_ways n from to hf ht ne = elim (cases_lt to from) [
  | inl lt ↦ omega (arith, eastwards_round n from to lt hf, eastwards_on n to from (omega arith) hf)
  | inr le ↦ (let up : from < to = omega arith in omega (arith, eastwards_on n from to le ht, eastwards_round n to from up ht))
]

-- the opposite of the arc from `from` to `to` is the arc from `to` to `from`
pub opposite_between : (n from to : ℕ) → from < n → to < n → from ≢ to → opposite_arc n (arc_between n from to) ≡ arc_between n to from
opposite_between n from to hf ht ne =
    let start : (from + eastwards n from to) % n ≡ to = arc_end n from to hf ht in
    let spans : n - eastwards n from to ≡ eastwards n to from = omega (arith, both_ways n from to hf ht ne) in
    ap₂ arc_of start spans

-- no span leads from a position to itself
pub eastwards_self : (n from : ℕ) → from < n → eastwards n from from ≡ 0
eastwards_self n from h = omega (arith, eastwards_on n from from (omega arith) h)

-- a span leads to another position
pub eastwards_some : (n from to : ℕ) → from < n → to < n → from ≢ to → 0 < eastwards n from to
eastwards_some n from to hf ht ne = elim (cases_lt to from) [
  | inl lt ↦ omega (arith, eastwards_round n from to lt hf)
  | inr le ↦ omega (arith, eastwards_on n from to le ht)
]

-- the two cases: without the span from the last position to the first, and over it
eastwards_cases : (n from to : ℕ) → from < n → to < n → ((from ≤ to) × (eastwards n from to ≡ to - from))
    ⊎ ((to < from) × (eastwards n from to ≡ to + (n - from)))
eastwards_cases n from to hf ht = elim (cases_lt to from) [
  | inl lt ↦ inr (lt, eastwards_round n from to lt hf)
  | inr le ↦ inl (le, eastwards_on n from to le ht)
]

-- the span at place i lies i spans along the arc
pub eastwards-place : (n start i : ℕ) → start < n → i < n → eastwards n start ((start + i) % n) ≡ i
eastwards-place n start i hs hi = elim (cases_lt (start + i) n) [
  | inl within ↦ (
      let place : (start + i) % n ≡ start + i = mod-eq_of_lt within in
      let back : start + i - start ≡ i = omega arith in
      ap (eastwards n start) place ∙ eastwards_on n start (start + i) (omega arith) within ∙ back)
  | inr over ↦ (
      let left : start + i - n < n = omega arith in
      let whole : start + i ≡ n + (start + i - n) = omega arith in
      let place : (start + i) % n ≡ start + i - n = ap (λ m. m % n) whole ∙ add-mod_left n (start + i - n) ∙ mod-eq_of_lt left in
      let below : start + i - n < start = omega arith in
      let back : start + i - n + (n - start) ≡ i = omega arith in
      ap (eastwards n start) place ∙ eastwards_round n start (start + i - n) below hs ∙ back)
]

-- of two positions the one from which fewer spans lead to a third is on the way from the other
pub on_the_way : (n a b s : ℕ) → a < n → b < n → s < n → eastwards n b s ≤ eastwards n a s
    → eastwards n a b + eastwards n b s ≡ eastwards n a s
on_the_way n a b s ha hb hs le =
    elim (eastwards_cases n a b ha hb) [
      | inl p ↦ elim (eastwards_cases n b s hb hs) [
        | inl q ↦ elim (eastwards_cases n a s ha hs) [ inl r ↦ omega arith | inr r ↦ omega arith ]
        | inr q ↦ elim (eastwards_cases n a s ha hs) [ inl r ↦ omega arith | inr r ↦ omega arith ]
      ]
      | inr p ↦ elim (eastwards_cases n b s hb hs) [
        | inl q ↦ elim (eastwards_cases n a s ha hs) [ inl r ↦ omega arith | inr r ↦ omega arith ]
        | inr q ↦ elim (eastwards_cases n a s ha hs) [ inl r ↦ omega arith | inr r ↦ omega arith ]
      ]
    ]

-- what it is to hold a span
pub holds : (n s : ℕ) (arc : Arc) → s < n → eastwards n arc.start s < arc.spans → holds_span n arc s ≡ true
unfolding holds_span
holds n s arc inside near = cc (lt-ltb s n inside, lt-ltb (eastwards n arc.start s) arc.spans near)

pub held_inside : (n s : ℕ) (arc : Arc) → holds_span n arc s ≡ true → s < n
unfolding holds_span
held_inside n s arc h = grind arith

pub held_near : (n s : ℕ) (arc : Arc) → holds_span n arc s ≡ true → eastwards n arc.start s < arc.spans
unfolding holds_span
held_near n s arc h = grind arith

-- an arc between two positions holds the span where it starts
pub holds_start : (n from to : ℕ) → from < n → to < n → from ≢ to → holds_span n (arc_between n from to) from ≡ true
holds_start n from to hf ht ne =
    holds n from (arc_between n from to) hf (omega (arith, eastwards_self n from hf, eastwards_some n from to hf ht ne))

-- where two arcs hold one span, one of them holds the span where the other starts
pub one_holds_start : (n a b c d s : ℕ) → a < n → c < n → holds_span n (arc_between n a b) s ≡ true
    → holds_span n (arc_between n c d) s ≡ true
    → (holds_span n (arc_between n a b) c ≡ true) ⊎ (holds_span n (arc_between n c d) a ≡ true)
one_holds_start n a b c d s ha hc h k =
    let hs = held_inside n s (arc_between n a b) h in
    let near = held_near n s (arc_between n a b) h in
    let close = held_near n s (arc_between n c d) k in
    elim (cases_lt (eastwards n a s) (eastwards n c s)) [
      | inl lt ↦ inr (holds n a (arc_between n c d) ha (omega (arith, on_the_way n c a s hc ha hs (omega arith))))
      | inr le ↦ inl (holds n c (arc_between n a b) hc (omega (arith, on_the_way n a c s ha hc hs le)))
    ]
