-- The steps of a script, one after the other.
use Rattle.std.proofs.Common.{◌≡◌, ℕ, ◌+◌, ◌<◌, ◌≤◌, List, [], ◌∷◌, ◌++◌, map, length, take, drop, get_or, Some, None, Result, Ok, Err}
use Rattle.std.proofs.Common.{MatchResult, refl, ap, sym, subst, ◌∙◌, true, false, not, cond}
use Rattle.std.proofs.lemmas.List.{drop_more, drop_all, take_more, take_all, map-append, length-map}
use Rattle.toml.specs.declared.value.Value.{Value}
use Rattle.toml.specs.View.{view}
use Rattle.sdh_circuits.specs.Provisioned.{Provisioned}
use Rattle.sdh_plan.specs.declared.check_error.CheckError.{CheckError}
use Rattle.sdh_plan.specs.declared.check_error.CheckError.TheVariants as error
use Rattle.sdh_plan.specs.declared.step.Step.{Step}
use Rattle.sdh_plan.specs.declared.reason.Reason.{Reason}
use Rattle.sdh_plan.specs.declared.reason.Reason.TheVariants as reason
use Rattle.sdh_plan.specs.Document.{string_of}
use Rattle.sdh_plan.specs.Check.{answer, first_fault, unless}
use Rattle.sdh_plan.specs.Steps.{Past, step_of, step_faults, steps_checks, new_past, after, ends_settled}
use Rattle.sdh_plan.specs.Plans.{texts_checks, last_check}
use Rattle.sdh_plan.proofs.Checking.{answer_behind, passes, refuses, place_passes, place_fails}

-- the answer to a step's text, from the answer in which its reason has a place
pub placed_step : (told : Result Step Reason) (s : Step) (Q : Reason → Type 0)
    → MatchResult told (λ t. ◌≡◌ {A = Result Step CheckError} (Ok s) (Ok t)) Q → ((why : Reason) → Q why → ⊥) → told ≡ Ok s
placed_step (Ok t) s Q h never = let e : ◌≡◌ {A = Result Step CheckError} (Ok s) (Ok t) = h in let same : t ≡ s = cc in ap Ok same
placed_step (Err why) s Q h never = absurd (never why h)

pub placed_reason : (told : Result Step Reason) (place : ℕ) (why : CheckError) (Q : Reason → Type 0)
    → MatchResult told (λ t. ◌≡◌ {A = Result Step CheckError} (Err why) (Ok t)) Q
    → ((r : Reason) → Q r → why ≡ error.BadPlan r place) → (r : Reason) × (told ≡ Err r) × (why ≡ error.BadPlan r place)
placed_reason (Ok t) place why Q h is = let e : ◌≡◌ {A = Result Step CheckError} (Err why) (Ok t) = h in cc
placed_reason (Err r) place why Q h is = (r, refl, is r h)

module _ (n : ℕ) (nodes : List ℕ) (circuits : List Provisioned) (values : List Value) where
  abbrev text_in : Value → List ℕ
  text_in v = string_of (view v)

  abbrev step_in : Value → Step
  step_in v = step_of n nodes circuits (text_in v)

  -- the checks before the i-th value pass, and the steps that they give are these
  pub record Read (past : Past) (steps : List Step) (i : ℕ) : Type 0 where
    pub checks : answer (steps_checks n nodes circuits new_past 1 (map view values))
        ≡ answer (steps_checks n nodes circuits past (i + 1) (map view (drop i values)))
    pub made : steps ≡ map step_in (take i values)

  here : (past : Past) (i : ℕ) (v : Value) → i < length values → v ≡ get_or values i v
      → answer (steps_checks n nodes circuits past (i + 1) (map view (drop i values)))
      ≡ answer (steps_checks n nodes circuits past (i + 1) (view v ∷ map view (drop (i + 1) values)))
  here past i v h e =
      ap (λ l. answer (steps_checks n nodes circuits past (i + 1) (map view l))) (drop_more values i v h)
      ∙ ap (λ w. answer (steps_checks n nodes circuits past (i + 1) (view w ∷ map view (drop (i + 1) values)))) (sym e)

  -- what is answered of the text
  abbrev pub Tells : Past → List ℕ → Result Step Reason → Type 0
  Tells past text told = told ≡ unless (first_fault (step_faults n nodes circuits past text)) (step_of n nodes circuits text)

  pub read_next : (past next : Past) (steps more : List Step) (step : Step) (i : ℕ) (v : Value) (text : List ℕ) → Read past steps i
      → i < length values → v ≡ get_or values i v → text ≡ text_in v → more ≡ steps ++ step ∷ []
      → Tells past text (Ok step) → next ≡ after past (step_of n nodes circuits text) → Read next more (i + 1)
  read_next past next steps more step i v text before h e is pushed told goes =
      let parts : (first_fault (step_faults n nodes circuits past (text_in v)) ≡ None) × (step ≡ step_in v) =
      passes _ _ _ (subst (λ (t : List ℕ). Tells past t (Ok step)) is told) in
      let led : next ≡ after past (step_in v) = goes ∙ ap (λ t. after past (step_of n nodes circuits t)) is in
      record {
        checks =
            before.checks ∙ here past i v h e ∙ place_passes (i + 1) (step_faults n nodes circuits past (text_in v))
            (steps_checks n nodes circuits (after past (step_in v)) (i + 1 + 1) (map view (drop (i + 1) values))) parts.0
            ∙ ap (λ p. answer (steps_checks n nodes circuits p (i + 1 + 1) (map view (drop (i + 1) values)))) (sym led);
        made = pushed ∙ ap (λ l. l ++ step ∷ []) before.made ∙ ap (λ s. map step_in (take i values) ++ s ∷ []) (parts.1 ∙ ap step_in e)
            ∙ sym (map-append step_in (take i values) (get_or values i v ∷ [])) ∙ ap (map step_in) (sym (take_more values i v h));
      }

  pub read_fails : (past : Past) (steps : List Step) (i : ℕ) (v : Value) (text : List ℕ) (why : Reason) → Read past steps i
      → i < length values → v ≡ get_or values i v → text ≡ text_in v
      → Tells past text (Err why) → answer (steps_checks n nodes circuits new_past 1 (map view values))
      ≡ Some (record { reason = why; place = i + 1 })
  read_fails past steps i v text why before h e is told =
      before.checks ∙ here past i v h e ∙ place_fails (i + 1) (step_faults n nodes circuits past (text_in v))
      (steps_checks n nodes circuits (after past (step_in v)) (i + 1 + 1) (map view (drop (i + 1) values))) why
      (refuses _ _ _ (subst (λ (t : List ℕ). Tells past t (Err why)) is told))

  pub read_all : (past : Past) (steps : List Step) (i : ℕ) → Read past steps i → length values ≤ i
      → answer (steps_checks n nodes circuits new_past 1 (map view values)) ≡ None
  read_all past steps i before h =
      before.checks ∙ ap (λ l. answer (steps_checks n nodes circuits past (i + 1) (map view l))) (drop_all i values h)

  maps : (vs : List Value) → map step_in vs ≡ map (λ d. step_of n nodes circuits (string_of d)) (map view vs)
  maps [] = refl
  maps (v ∷ vs) = ap (λ l. step_in v ∷ l) (maps vs)

  pub read_steps : (past : Past) (steps : List Step) (i : ℕ) → Read past steps i → length values ≤ i
      → steps ≡ map (λ d. step_of n nodes circuits (string_of d)) (map view values)
  read_steps past steps i before h = before.made ∙ ap (map step_in) (take_all i values h) ∙ maps values

  pub counted : (steps : List Step) → steps ≡ map (λ d. step_of n nodes circuits (string_of d)) (map view values)
      → length steps ≡ length values
  counted steps e = ap length e ∙ length-map (map view values) (λ d. step_of n nodes circuits (string_of d)) ∙ length-map values view

  last_checked : (steps : List Step) → answer (steps_checks n nodes circuits new_past 1 (map view values)) ≡ None
      → steps ≡ map (λ d. step_of n nodes circuits (string_of d)) (map view values)
      → answer (texts_checks n nodes circuits (map view values)) ≡ answer (last_check steps ∷ [])
  last_checked steps passed e =
      answer_behind (steps_checks n nodes circuits new_past 1 (map view values))
      (last_check (map (λ d. step_of n nodes circuits (string_of d)) (map view values)) ∷ []) passed
      ∙ ap (λ l. answer (last_check l ∷ [])) (sym e)

  pub last_fails : (steps : List Step) → answer (steps_checks n nodes circuits new_past 1 (map view values)) ≡ None
      → steps ≡ map (λ d. step_of n nodes circuits (string_of d)) (map view values) → ends_settled steps ≡ false
      → answer (texts_checks n nodes circuits (map view values)) ≡ Some (record { reason = reason.LastStep; place = length values })
  last_fails steps passed e fails =
      last_checked steps passed e
      ∙ ap (λ b. cond (not b) (Some (record { reason = reason.LastStep; place = length steps })) None) fails
      ∙ ap (λ k. Some (record { reason = reason.LastStep; place = k })) (counted steps e)

  pub last_passes : (steps : List Step) → answer (steps_checks n nodes circuits new_past 1 (map view values)) ≡ None
      → steps ≡ map (λ d. step_of n nodes circuits (string_of d)) (map view values) → ends_settled steps ≡ true
      → answer (texts_checks n nodes circuits (map view values)) ≡ None
  last_passes steps passed e settled =
      last_checked steps passed e ∙ ap (λ b. cond (not b) (Some (record { reason = reason.LastStep; place = length steps })) None) settled
