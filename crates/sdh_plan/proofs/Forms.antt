-- Six words are enough to name a step.
use Rattle.std.proofs.Common.{◌≡◌, ℕ, zero, suc, ◌-◌, ◌<◌, ◌≤◌, List, [], ◌∷◌, length, map, take, drop, get_or, Bool, true, false, ◌==◌}
use Rattle.std.proofs.Common.{◌||◌, cond, Option, Some, None, is_none, Result, Err, ap, sym, ◌∙◌, arith, refl}
use Rattle.std.specs.List.{list_any}
use Rattle.std.proofs.lemmas.Bool.Decides.{nat_tests}
use Rattle.std.proofs.lemmas.List.{take_rest}
use Rattle.sdh_circuits.specs.Provisioned.{Provisioned}
use Rattle.sdh_plan.specs.declared.step.Step.{Step}
use Rattle.sdh_plan.specs.declared.reason.Reason.{Reason}
use Rattle.sdh_plan.specs.declared.reason.Reason.TheVariants as reason
use Rattle.sdh_plan.specs.Verbs as verb
use Rattle.sdh_plan.specs.Check.{first_fault, unless}
use Rattle.sdh_plan.specs.Words.{is_empty, numeral_in}
use Rattle.sdh_plan.specs.Verbs.{Verb, verb_of, Part, node, side, number, parts_of}
use Rattle.sdh_plan.specs.Steps.{node_identified, side_at, part_faults, verb_faults, told_step, form_faults, form_step}

any_take : (k : ℕ) (ws : List (List ℕ)) → list_any is_empty ws ≡ false → list_any is_empty (take k ws) ≡ false
any_take zero ws h = refl
any_take (suc k) [] h = refl
any_take (suc k) (w ∷ ws) h = either (is_empty w) (list_any is_empty ws) (list_any is_empty (take k ws)) h (any_take k ws)
  where
    either : (a b c : Bool) → (a || b) ≡ false → (b ≡ false → c ≡ false) → (a || c) ≡ false
    either true b c h more = h
    either false b c h more = more h

few_parts : (n : ℕ) (circuits : List Provisioned) (v : Verb) → length (parts_of n circuits v) ≤ 4
few_parts n circuits verb.Cut = omega arith
few_parts n circuits verb.Mend = omega arith
few_parts n circuits verb.Degrade = omega arith
few_parts n circuits verb.Forced = omega arith
few_parts n circuits verb.Manual = omega arith
few_parts n circuits verb.Clear = omega arith
few_parts n circuits verb.Moment = omega arith
few_parts n circuits verb.Settle = omega arith
few_parts n circuits verb.Hold = omega arith
few_parts n circuits verb.Slip = omega arith

pub mismatch : (nodes : List ℕ) (parts : List Part) (others : List (List ℕ)) → length parts < length others
    → first_fault (part_faults nodes parts others) ≡ Some reason.StepForm
unfolding part_faults
mismatch nodes parts others h = let apart : (length others == length parts) ≡ false = grind (arith, nat_tests) in rw apart refl

-- the reason where too many words follow
abbrev too_many : Option Verb → Reason
too_many None = reason.StepWord
too_many (Some v) = reason.StepForm

long : (n : ℕ) (nodes : List ℕ) (circuits : List Provisioned) (o : Option Verb) (others : List (List ℕ)) → 5 ≤ length others
    → first_fault (verb_faults n nodes circuits o others) ≡ Some (too_many o)
long n nodes circuits None others h = refl
long n nodes circuits (Some v) others h = mismatch nodes (parts_of n circuits v) others (omega (arith, few_parts n circuits v))

-- the step that words give, or the reason of the first check of them that fails
abbrev pub told : ℕ → List ℕ → List Provisioned → List (List ℕ) → Result Step Reason
told n nodes circuits ws = unless (first_fault (form_faults n nodes circuits ws)) (form_step n nodes circuits ws)

told_long : (n : ℕ) (nodes : List ℕ) (circuits : List Provisioned) (first : List ℕ) (others : List (List ℕ))
    → list_any is_empty (first ∷ others) ≡ false → 5 ≤ length others
    → told n nodes circuits (first ∷ others) ≡ Err (too_many (verb_of first))
unfolding form_faults
told_long n nodes circuits first others whole h =
    ap (λ b. unless (cond b (Some reason.StepForm) (first_fault (verb_faults n nodes circuits (verb_of first) others)))
    (form_step n nodes circuits (first ∷ others))) whole
    ∙ ap (λ r. unless r (form_step n nodes circuits (first ∷ others))) (long n nodes circuits (verb_of first) others h)

told_six : (n : ℕ) (nodes : List ℕ) (circuits : List Provisioned) (ws : List (List ℕ)) → list_any is_empty ws ≡ false
    → told n nodes circuits ws ≡ told n nodes circuits (take 6 ws)
told_six n nodes circuits [] h = refl
told_six n nodes circuits (a ∷ []) h = refl
told_six n nodes circuits (a ∷ (b ∷ [])) h = refl
told_six n nodes circuits (a ∷ (b ∷ (c ∷ []))) h = refl
told_six n nodes circuits (a ∷ (b ∷ (c ∷ (d ∷ [])))) h = refl
told_six n nodes circuits (a ∷ (b ∷ (c ∷ (d ∷ (e ∷ []))))) h = refl
told_six n nodes circuits (a ∷ (b ∷ (c ∷ (d ∷ (e ∷ (f ∷ ws)))))) h =
    told_long n nodes circuits a (b ∷ (c ∷ (d ∷ (e ∷ (f ∷ ws))))) h (omega arith)
    ∙ sym (told_long n nodes circuits a (b ∷ (c ∷ (d ∷ (e ∷ (f ∷ []))))) (any_take 6 (a ∷ (b ∷ (c ∷ (d ∷ (e ∷ (f ∷ ws)))))) h)
    (omega arith))

-- where no word is empty, the first six give the step
pub kept_whole : (ws ks : List (List ℕ)) → ks ≡ take 6 ws → list_any is_empty ws ≡ false → list_any is_empty ks ≡ false
kept_whole ws ks e h = ap (λ l. list_any is_empty l) e ∙ any_take 6 ws h

pub told_kept : (n : ℕ) (nodes : List ℕ) (circuits : List Provisioned) (ws ks : List (List ℕ)) → ks ≡ take 6 ws
    → list_any is_empty ws ≡ false → told n nodes circuits ks ≡ told n nodes circuits ws
told_kept n nodes circuits ws ks e h = ap (told n nodes circuits) e ∙ sym (told_six n nodes circuits ws h)

pub told_empty : (n : ℕ) (nodes : List ℕ) (circuits : List Provisioned) (ws : List (List ℕ)) → list_any is_empty ws ≡ true
    → told n nodes circuits ws ≡ Err reason.StepForm
unfolding form_faults
told_empty n nodes circuits [] h = cc
told_empty n nodes circuits (first ∷ others) h =
    ap (λ b. unless (cond b (Some reason.StepForm) (first_fault (verb_faults n nodes circuits (verb_of first) others)))
    (form_step n nodes circuits (first ∷ others))) h

told_first : (n : ℕ) (nodes : List ℕ) (circuits : List Provisioned) (first : List ℕ) (others : List (List ℕ))
    → list_any is_empty (first ∷ others) ≡ false
    → told n nodes circuits (first ∷ others) ≡ unless (first_fault (verb_faults n nodes circuits (verb_of first) others))
    (told_step n nodes circuits (verb_of first) others)
unfolding form_faults form_step
told_first n nodes circuits first others h =
    ap (λ b. unless (cond b (Some reason.StepForm) (first_fault (verb_faults n nodes circuits (verb_of first) others)))
    (told_step n nodes circuits (verb_of first) others)) h

-- where no word is empty, the first word and those after it give the step
pub told_whole : {X : Type 0} (f : X → List ℕ) (n : ℕ) (nodes : List ℕ) (circuits : List Provisioned) (xs : List X) (d : X)
    (r : Result Step Reason) → 1 ≤ length xs
    → r ≡ unless (first_fault (verb_faults n nodes circuits (verb_of (f (get_or xs 0 d))) (map f (take (length xs - 1) (drop 1 xs)))))
    (told_step n nodes circuits (verb_of (f (get_or xs 0 d))) (map f (take (length xs - 1) (drop 1 xs))))
    → list_any is_empty (map f xs) ≡ false → r ≡ told n nodes circuits (map f xs)
told_whole f n nodes circuits [] d r some e whole = absurd (omega arith)
told_whole f n nodes circuits (x ∷ xs) d r some e whole =
    e ∙ ap (λ l. unless (first_fault (verb_faults n nodes circuits (verb_of (f x)) (map f l)))
    (told_step n nodes circuits (verb_of (f x)) (map f l))) (take_rest (x ∷ xs) 1)
    ∙ sym (told_first n nodes circuits (f x) (map f xs) whole)

-- the first check of a node and a side that fails, where they are the first two words
module _ {X : Type 0} (f : X → List ℕ) (nodes : List ℕ) (d : X) (why : Reason) where
  -- a check of the two words fails, and no check before it
  abbrev pub Fails : List X → Type 0
  Fails xs =
      first_fault ((reason.StepNode, is_none (node_identified nodes (f (get_or xs 0 d))))
      ∷ ((reason.StepSide, is_none (side_at (f (get_or xs 1 d)))) ∷ [])) ≡ Some why

  two : (x y : Bool) → cond x (Some reason.StepNode) (cond y (Some reason.StepSide) None) ≡ Some why
      → cond (x || (false || false)) (Some reason.StepNode) (cond (y || false) (Some reason.StepSide) None) ≡ Some why
  two true y e = e
  two false true e = e
  two false false e = cc

  pub two_fail : (xs : List X) (s : Step) → 2 ≤ length xs → length xs < 3 → Fails xs
      → Err why ≡ unless (first_fault (part_faults nodes (node ∷ side ∷ []) (map f xs))) s
  unfolding part_faults
  two_fail [] s h k e = absurd (omega arith)
  two_fail (a ∷ []) s h k e = absurd (omega arith)
  two_fail (a ∷ (b ∷ [])) s h k e = sym (ap (λ r. unless r s) (two (is_none (node_identified nodes (f a))) (is_none (side_at (f b))) e))
  two_fail (a ∷ (b ∷ (c ∷ xs))) s h k e = absurd (omega arith)

  three : (x y z : Bool) → cond x (Some reason.StepNode) (cond y (Some reason.StepSide) None) ≡ Some why
      → cond (x || (false || (false || false))) (Some reason.StepNode)
      (cond (y || (false || false)) (Some reason.StepSide) (cond (z || false) (Some reason.StepNumber) None)) ≡ Some why
  three true y z e = e
  three false true z e = e
  three false false z e = cc

  pub three_fail : (low high : ℕ) (xs : List X) (s : Step) → 3 ≤ length xs → length xs < 4 → Fails xs
      → Err why ≡ unless (first_fault (part_faults nodes (node ∷ side ∷ number low high ∷ []) (map f xs))) s
  unfolding part_faults
  three_fail low high [] s h k e = absurd (omega arith)
  three_fail low high (a ∷ []) s h k e = absurd (omega arith)
  three_fail low high (a ∷ (b ∷ [])) s h k e = absurd (omega arith)
  three_fail low high (a ∷ (b ∷ (c ∷ []))) s h k e =
      sym (ap (λ r. unless r s) (three (is_none (node_identified nodes (f a))) (is_none (side_at (f b)))
      (is_none (numeral_in low high (f c))) e))
  three_fail low high (a ∷ (b ∷ (c ∷ (g ∷ xs)))) s h k e = absurd (omega arith)
