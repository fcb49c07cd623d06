-- A side after some steps, step by step.
use Rattle.std.proofs.Common.{◌≡◌, ℕ, ◌+◌, ◌<◌, List, [], ◌∷◌, ◌++◌, length, take, get_or, Some, None, inl, inr, refl, sym, ap, ◌∙◌}
use Rattle.std.proofs.Common.{arith, append_assoc}
use Rattle.std.specs.Prelude.{slice_get}
use Rattle.std.proofs.lemmas.Bool.{cases_lt}
use Rattle.std.proofs.lemmas.List.{take_more, take_all}
use Rattle.std.proofs.lemmas.Option.{slice_get_past, slice_get-get_or, same_Some}
use Rattle.sdh_ringmap.specs.declared.Side.{Side}
use Rattle.sdh_plan.specs.declared.step.Step.{Step}
use Rattle.sdh_plan.specs.declared.step.Step.TheVariants as step
use Rattle.sdh_restoration.specs.Changes.{Change}
use Rattle.sdh_promise.specs.Scenes.{changes_of, scenes}
use Rattle.sdh_restoration.specs.Sides.{Holding, holding_after, all_holding}
use Rattle.sdh_verdicts.specs.Resting.{fresh, rest_after_changes}
use Rattle.sdh_verdicts.specs.Resting.{Resting, rest_in}
use Rattle.sdh_verdicts.specs.Sides.{rest_after, rests}
use Rattle.sdh_verdicts.specs.declared.failure.Failure.{Failure}
use Rattle.sdh_verdicts.specs.Failures.{steps_of, case_steps}

module _ (threshold n p : ℕ) (d : Side) where
  pub rests_more : (xs ys : List Step) (r : Resting) → rests threshold n p d (xs ++ ys) r
      ≡ rests threshold n p d ys (rests threshold n p d xs r)
  rests_more [] ys r = refl
  rests_more (x ∷ xs) ys r = rests_more xs ys (rest_after threshold n p d x r)

  -- one step more of a list, by its number
  pub rests_next : (steps : List Step) (i : ℕ) (s : Step) (r : Resting) → i < length steps
      → rests threshold n p d (take (i + 1) steps) r ≡ rest_after threshold n p d (get_or steps i s)
      (rests threshold n p d (take i steps) r)
  rests_next steps i s r low =
      ap (λ l. rests threshold n p d l r) (take_more steps i s low) ∙ rests_more (take i steps) (get_or steps i s ∷ []) r

  -- one step more, where there is one
  pub rests_some : (steps : List Step) (i : ℕ) (s : Step) (r : Resting) → slice_get steps i ≡ Some s
      → rests threshold n p d (take (i + 1) steps) r ≡ rest_after threshold n p d s (rests threshold n p d (take i steps) r)
  rests_some steps i s r e = elim (cases_lt i (length steps)) [
    | inl low ↦ rests_next steps i s r low ∙ ap (λ t. rest_after threshold n p d t (rests threshold n p d (take i steps) r))
        (same_Some (get_or steps i s) s (sym (slice_get-get_or steps i s low) ∙ e))
    | inr past ↦ (let none = slice_get_past steps i past in absurd (grind (arith, none, e)))
  ]

  pub rests_none : (steps : List Step) (i : ℕ) (s : Step) (r : Resting) → slice_get steps i ≡ None
      → rests threshold n p d (take (i + 1) steps) r ≡ rests threshold n p d (take i steps) r
  rests_none steps i s r e = elim (cases_lt i (length steps)) [
    | inl low ↦ (let some = slice_get-get_or steps i s low in absurd (grind (arith, some, e)))
    | inr past ↦ ap (λ l. rests threshold n p d l r) (take_all (i + 1) steps (omega arith) ∙ sym (take_all i steps past))
  ]

  pub case_more : (xs ys : List Failure) → case_steps n threshold (xs ++ ys) ≡ case_steps n threshold xs ++ case_steps n threshold ys
  case_more [] ys = refl
  case_more (x ∷ xs) ys =
      ap (λ l. steps_of n threshold x ++ l) (case_more xs ys)
      ∙ sym (append_assoc (steps_of n threshold x) (case_steps n threshold xs) (case_steps n threshold ys))

  -- one failure more of a case, by its number
  pub case_next : (case : List Failure) (i : ℕ) (f : Failure) (r : Resting) → i < length case
      → rests threshold n p d (case_steps n threshold (take (i + 1) case)) r
      ≡ rests threshold n p d (steps_of n threshold (get_or case i f)) (rests threshold n p d (case_steps n threshold (take i case)) r)
  case_next case i f r low =
      let one = get_or case i f in
      ap (λ l. rests threshold n p d (case_steps n threshold l) r) (take_more case i f low)
      ∙ ap (λ l. rests threshold n p d l r) (case_more (take i case) (one ∷ []))
      ∙ rests_more (case_steps n threshold (take i case)) (case_steps n threshold (one ∷ [])) r
      ∙ rests_more (steps_of n threshold one) [] _

-- ---- by steps, and by the changes before each settle step

module _ (threshold n p : ℕ) (d : Side) where
  all_holding_more : (xs ys : List Change) (h : Holding) → all_holding n p d (xs ++ ys) h ≡ all_holding n p d ys (all_holding n p d xs h)
  all_holding_more [] ys h = refl
  all_holding_more (x ∷ xs) ys h = all_holding_more xs ys (holding_after n p d x h)

  -- the side after these changes, which aren't settled yet
  abbrev held : List Change → Resting → Resting
  held changes r = record r { holding = all_holding n p d changes r.holding }

  held_more : (changes others : List Change) (r : Resting) → held others (held changes r) ≡ held (changes ++ others) r
  held_more changes others r = ap (λ (h : Holding). record r { holding = h }) (sym (all_holding_more changes others r.holding))

  abbrev end : List Step
  end = step.Settle ∷ []

  abbrev Goal : List Change → List Step → Resting → Type 0
  Goal changes steps r = rests threshold n p d (steps ++ end) (held changes r) ≡ rest_in threshold n p d (scenes changes (steps ++ end)) r

  -- one change more
  change : (changes others : List Change) (steps : List Step) (r : Resting) → Goal (changes ++ others) steps r
      → rests threshold n p d (steps ++ end) (held others (held changes r))
      ≡ rest_in threshold n p d (scenes (changes ++ others) (steps ++ end)) r
  change changes others steps r h = ap (rests threshold n p d (steps ++ end)) (held_more changes others r) ∙ h

  by_scenes : (changes : List Change) (steps : List Step) (r : Resting) → Goal changes steps r
  by_scenes changes [] r = refl
  by_scenes changes (step.Settle ∷ later) r = by_scenes [] later (rest_after_changes threshold n p d changes r)
  by_scenes changes (step.Fibre e ∷ later) r =
      change changes (changes_of (step.Fibre e)) later r (by_scenes (changes ++ changes_of (step.Fibre e)) later r)
  by_scenes changes (step.Order q e c ∷ later) r =
      change changes (changes_of (step.Order q e c)) later r (by_scenes (changes ++ changes_of (step.Order q e c)) later r)
  by_scenes changes (step.Moment m ∷ later) r =
      change changes (changes_of (step.Moment m)) later r (by_scenes (changes ++ changes_of (step.Moment m)) later r)
  by_scenes changes (step.Hold q turns ∷ later) r =
      change changes (changes_of (step.Hold q turns)) later r (by_scenes (changes ++ changes_of (step.Hold q turns)) later r)
  by_scenes changes (step.Slip port turn count ∷ later) r =
      change changes (changes_of (step.Slip port turn count)) later r
      (by_scenes (changes ++ changes_of (step.Slip port turn count)) later r)

  pub rests_is : (steps : List Step) → rest_in threshold n p d (scenes [] (steps ++ end)) fresh
      ≡ rests threshold n p d (steps ++ end) fresh
  rests_is steps = sym (by_scenes [] steps fresh)

-- a script that ends with a settle step has one
pub some_scene : (changes : List Change) (steps : List Step) → scenes changes (steps ++ step.Settle ∷ []) ≡ [] → ⊥
some_scene changes [] e = grind (arith, e)
some_scene changes (step.Settle ∷ later) e = grind (arith, e)
some_scene changes (step.Fibre x ∷ later) e = some_scene (changes ++ changes_of (step.Fibre x)) later e
some_scene changes (step.Order q d c ∷ later) e = some_scene (changes ++ changes_of (step.Order q d c)) later e
some_scene changes (step.Moment m ∷ later) e = some_scene (changes ++ changes_of (step.Moment m)) later e
some_scene changes (step.Hold q turns ∷ later) e = some_scene (changes ++ changes_of (step.Hold q turns)) later e
some_scene changes (step.Slip port turn count ∷ later) e = some_scene (changes ++ changes_of (step.Slip port turn count)) later e
