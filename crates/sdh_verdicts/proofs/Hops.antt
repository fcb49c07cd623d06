-- Applied spans as a list, and ways by them.
use Rattle.std.proofs.Common.{◌≡◌, ℕ, zero, suc, ◌+◌, ◌-◌, ◌*◌, ◌<◌, ◌≤◌, Bool, false, List, take, refl, sym, ap, ◌∙◌, inl, inr}
use Rattle.std.specs.Prelude.{if◌then◌else◌, not, ◌&&◌, ◌⊎◌}
use Rattle.std.proofs.Math.Nat.{mod-lt}
use Rattle.sdh_ringmap.specs.declared.Span.{Span}
use Rattle.sdh_ringmap.specs.Arcs.{Arc, arc_span, none_of, is_clear, is_among}
use Rattle.sdh_circuits.specs.Provisioned.{Provisioned, arc_of}
use Rattle.sdh_verdicts.specs.declared.judging.Verdict.{Verdict}
use Rattle.sdh_verdicts.specs.declared.judging.Verdict.TheVariants.{Kept, Over}
use Rattle.sdh_verdicts.specs.Verdicts.{verdict_under, hops_where, hops_under}
use Rattle.sdh_restoration.specs.Routes.{applied_at_place, places_before, last_place, first_applied, last_applied, hops}

-- ---- a list

-- a list with the applied ones of the first i spans; their number is `many`
pub record AreListed (p : ℕ → Bool) (spans : List Span) (many i : ℕ) : Type 0 where
  pub inside : (s : ℕ) → s < i → is_among (take many spans) s ≡ p s
  pub beyond : (s : ℕ) → i ≤ s → is_among (take many spans) s ≡ false

-- ---- ways

module _ (p q : ℕ → Bool) (same : (i : ℕ) → p i ≡ q i) where
  none_same : (i k : ℕ) → none_of p i k ≡ none_of q i k
  none_same i zero = refl
  none_same i (suc k) = ap (λ b. not b && none_of p (suc i) k) (same i) ∙ ap (λ b. not (q i) && b) (none_same (suc i) k)

  before_same : (i k : ℕ) → places_before p i k ≡ places_before q i k
  before_same i zero = refl
  before_same i (suc k) =
      ap (λ b. if b then 0 else suc (places_before p (suc i) k)) (same i) ∙ ap (λ x. if q i then 0 else suc x) (before_same (suc i) k)

  last_same : (k : ℕ) → last_place p k ≡ last_place q k
  last_same zero = refl
  last_same (suc k) = ap (λ b. if b then k else last_place p k) (same k) ∙ ap (λ x. if q k then k else x) (last_same k)

-- in a ring equal tests of spans give equal numbers of hops
pub hops_same : (n : ℕ) (p q : ℕ → Bool) (arc : Arc) → 1 ≤ n → ((s : ℕ) → s < n → p s ≡ q s) → hops n p arc ≡ hops n q arc
unfolding hops is_clear
hops_same n p q arc some same =
    let at : (i : ℕ) → p (arc_span n arc i) ≡ q (arc_span n arc i) = λ i. same (arc_span n arc i) (mod-lt (arc.start + i) some) in
    let by : ℕ → ℕ → Bool → ℕ = λ f l clear. (if clear then arc.spans else (2 * f + n + arc.spans) - 2 * (l + 1)) in
    ap (λ f. by f (last_applied n p arc) (none_of (applied_at_place n p arc) 0 arc.spans))
    (before_same (applied_at_place n p arc) (applied_at_place n q arc) at 0 arc.spans)
    ∙ ap (λ l. by (first_applied n q arc) l (none_of (applied_at_place n p arc) 0 arc.spans))
    (last_same (applied_at_place n p arc) (applied_at_place n q arc) at arc.spans)
    ∙ ap (by (first_applied n q arc) (last_applied n q arc))
    (none_same (applied_at_place n p arc) (applied_at_place n q arc) at 0 arc.spans)

-- the number of hops of a circuit that is kept or goes round
pub hops_are : (n : ℕ) (p : ℕ → Bool) (c : Provisioned) (v : Verdict) (k : ℕ) → (v ≡ Kept) ⊎ (v ≡ Over) → v ≡ verdict_under n p c
    → k ≡ hops n p (arc_of n c) → k ≡ hops_under n p c
hops_are n p c v k (inl kept) is way = way ∙ ap (λ w. hops_where w n p c) (sym kept ∙ is)
hops_are n p c v k (inr over) is way = way ∙ ap (λ w. hops_where w n p c) (sym over ∙ is)
