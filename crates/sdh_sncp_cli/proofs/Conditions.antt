-- The fibres' conditions by the changes that a script gives.
use Rattle.std.proofs.Common.{◌≡◌, ℕ, ◌+◌, ◌*◌, ◌-◌, ◌%◌, ◌<◌, Bool, true, false, List, [], ◌∷◌, ◌++◌, length, set, get_or, replicate, refl}
use Rattle.std.proofs.Common.{ap, sym, ◌∙◌, arith, inl, inr}
use Rattle.std.specs.Prelude.{◌==◌, if◌then◌else◌, slice_index_or}
use Rattle.std.proofs.lemmas.Bool.{cases_eq}
use Rattle.std.proofs.lemmas.Bool.Decides.{nat_tests}
use Rattle.std.proofs.lemmas.List.{get_or-set_same, get_or-set_other, get_or-replicate, length-replicate}
use Rattle.std.proofs.Math.Nat.{mod-lt}
use Rattle.sdh_ringmap.specs.declared.Side.{Side}
use Rattle.sdh_ringmap.specs.declared.Side.TheVariants.{West, East}
use Rattle.sdh_ringmap.specs.declared.terms.Condition.{Condition}
use Rattle.sdh_ringmap.specs.declared.terms.Condition.TheVariants.{Clear}
use Rattle.sdh_ringmap.specs.Fibres.{fibre, fibre_to}
use Rattle.sdh_restoration.specs.Changes.{Change, Fibre}
use Rattle.sdh_restoration.specs.Sides.{Holding, new_holding, holding_after, all_holding}

ends_inside : (n p : ℕ) (d : Side) → 0 < n → fibre_to n p d < 2 * n
ends_inside n p West some = let h : (p + (n - 1)) % n < n = mod-lt (p + (n - 1)) some in omega arith
ends_inside n p East some = let h : (p + 1) % n < n = mod-lt (p + 1) some in omega arith

-- ---- one change

by_test : (b : Bool) (c : Condition) (h : Holding) → (if b then record h { condition = c } else h).condition
    ≡ (if b then c else h.condition)
by_test true c h = refl
by_test false c h = refl

set_at : (i j : ℕ) (c : Condition) (cs : List Condition) → j < length cs
    → get_or (set cs i c) j Clear ≡ (if i == j then c else get_or cs j Clear)
set_at i j c cs low = elim (cases_eq i j) [
  | inl s ↦ (let test : (i == j) ≡ true = grind (arith, nat_tests) in
      ap (λ k. get_or (set cs i c) k Clear) (sym s) ∙ get_or-set_same cs i c Clear (omega (arith, s))
      ∙ ap (λ (b : Bool). if b then c else get_or cs j Clear) (sym test))
  | inr n ↦ (let test : (i == j) ≡ false = grind (arith, nat_tests) in
      get_or-set_other cs i j c Clear (λ s. n (sym s)) ∙ ap (λ (b : Bool). if b then c else get_or cs j Clear) (sym test))
]

-- the fibres of a ring of n are in the conditions that these changes give
pub record AreTold (n : ℕ) (changes : List Change) (conditions : List Condition) : Type 0 where
  pub size : length conditions ≡ 2 * n
  pub each : (p : ℕ) (d : Side) → slice_index_or conditions (fibre_to n p d) Clear ≡ (all_holding n p d changes new_holding).condition

-- what holds after one more change
held_more : (n p : ℕ) (d : Side) (xs ys : List Change) (h : Holding)
    → all_holding n p d (xs ++ ys) h ≡ all_holding n p d ys (all_holding n p d xs h)
held_more n p d [] ys h = refl
held_more n p d (x ∷ xs) ys h = held_more n p d xs ys (holding_after n p d x h)

pub told_more : (n q : ℕ) (e : Side) (c : Condition) (changes : List Change) (conditions : List Condition) → 0 < n
    → length (set conditions (fibre q e) c) ≡ length conditions → AreTold n changes conditions
    → AreTold n (changes ++ Fibre q e c ∷ []) (set conditions (fibre q e) c)
told_more n q e c changes conditions some same told = record {
  size = same ∙ told.size;
  each = λ p d. (let h = all_holding n p d changes new_holding in
      set_at (fibre q e) (fibre_to n p d) c conditions (omega (arith, ends_inside n p d some, told.size))
      ∙ ap (λ x. if fibre q e == fibre_to n p d then c else x) (told.each p d)
      ∙ sym (by_test (fibre q e == fibre_to n p d) c h)
      ∙ ap (λ (x : Holding). x.condition) (sym (held_more n p d changes (Fibre q e c ∷ []) new_holding)));
}

-- new fibres are in the conditions that no change gives: all are clear
pub told_new : (n : ℕ) → 0 < n → AreTold n [] (replicate (2 * n) Clear)
told_new n some = record {
  size = length-replicate (2 * n) Clear;
  each = λ p d. get_or-replicate (2 * n) (fibre_to n p d) Clear Clear (ends_inside n p d some);
}
