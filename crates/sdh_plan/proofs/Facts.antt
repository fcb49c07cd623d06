-- What is true of steps that pass the checks.
use Rattle.std.proofs.Common.{◌≡◌, ℕ, ◌+◌, ◌*◌, ◌<◌, ◌≤◌, List, [], ◌∷◌, ◌++◌, map, length, Bool, true, false, ◌==◌, ◌&&◌, ◌||◌, not, cond}
use Rattle.std.proofs.Common.{nat_le, nat_lt, Option, Some, None, is_none, unwrap_or, position, codes, refl, ap, sym, subst, ◌∙◌, arith}
use Rattle.std.specs.Option.{option_and_then, option_map, option_map_or}
use Rattle.std.specs.List.{position_or_len}
use Rattle.std.specs.Str.{bytes_eq}
use Rattle.std.proofs.lemmas.Bool.Decides.{nat_tests}
use Rattle.std.proofs.lemmas.List.Quantifiers.{position-Some}
use Rattle.toml.specs.Data.{Data, Members}
use Rattle.sdh_ringmap.specs.declared.Pos.{Pos}
use Rattle.sdh_ringmap.specs.Places.{found_at}
use Rattle.sdh_ringmap.specs.declared.terms.Rate.{Rate}
use Rattle.sdh_ringmap.specs.Rates.{n_of}
use Rattle.sdh_circuits.specs.Provisioned.{Provisioned}
use Rattle.sdh_plan.specs.declared.step.Step.{Step}
use Rattle.sdh_plan.specs.declared.step.Step.TheVariants as step
use Rattle.sdh_plan.specs.declared.reason.Reason.{Reason}
use Rattle.sdh_plan.specs.declared.reason.Reason.TheVariants as reason
use Rattle.sdh_plan.specs.Verbs as verb
use Rattle.sdh_plan.specs.Check.{Check, Refusal, Fault, answer, checks_at_place, first_fault}
use Rattle.sdh_plan.specs.Document.{string_of, elements_in, is_array_of, is_string}
use Rattle.sdh_plan.specs.Plans.{check_of_document, last_check, texts_checks, is_script_length, script_checks}
use Rattle.sdh_plan.specs.Words.{words, numeral_in, is_number, decimal_from}
use Rattle.sdh_plan.specs.Verbs.{Verb, verb_of, Part, node, side, number, parts_of}
use Rattle.sdh_plan.specs.Steps.{Past, node_identified, side_at, part_faults, position_in_words, number_in_word, word_at, verb_faults}
use Rattle.sdh_plan.specs.Steps.{verb_step, form_faults}
use Rattle.sdh_plan.specs.Steps.{form_step, step_of, step_faults, steps_checks, circuit_named, end_at, turn_at, port_in_words, past_faults}
use Rattle.sdh_plan.specs.Steps.{after, new_past, ends_settled}
use Rattle.sdh_plan.specs.Scripts.{IsStepIn, HasRoom, AreSteps}
use Rattle.sdh_plan.proofs.Forms.{mismatch}

later_none : (b : Bool) (why : Reason) (r : Option Reason) → cond b (Some why) r ≡ None → r ≡ None
later_none true why r e = cc
later_none false why r e = e

both_none : (faults more : List Fault) → first_fault (faults ++ more) ≡ None → (first_fault faults ≡ None) × (first_fault more ≡ None)
both_none [] more e = (refl, e)
both_none (fault ∷ later) more e = joined fault.1 (both_none later more) e
  where
    joined : (b : Bool) → (first_fault (later ++ more) ≡ None → (first_fault later ≡ None) × (first_fault more ≡ None))
        → cond b (Some fault.0) (first_fault (later ++ more)) ≡ None
        → (cond b (Some fault.0) (first_fault later) ≡ None) × (first_fault more ≡ None)
    joined true rest h = cc
    joined false rest h = rest h

place_none : (place : ℕ) (faults : List Fault) (more : List Check) → answer (checks_at_place place faults ++ more) ≡ None
    → (first_fault faults ≡ None) × (answer more ≡ None)
place_none place [] more e = (refl, e)
place_none place (fault ∷ later) more e = joined fault.1 (place_none place later more) e
  where
    joined : (b : Bool) → (answer (checks_at_place place later ++ more) ≡ None → (first_fault later ≡ None) × (answer more ≡ None))
        → cond b (Some (record { reason = fault.0; place = place })) (answer (checks_at_place place later ++ more)) ≡ None
        → (cond b (Some fault.0) (first_fault later) ≡ None) × (answer more ≡ None)
    joined true rest h = cc
    joined false rest h = rest h

-- a node that is found is in the ring
found_within : (nodes : List ℕ) (o : Option ℕ) (p : Pos) → option_map (λ q. record { 0 = q }) o ≡ Some p
    → ((i : ℕ) → o ≡ Some i → i < length nodes) → p.0 < length nodes
found_within nodes None p e h = cc
found_within nodes (Some i) p e h = let same : i ≡ p.0 = cc in subst (λ (k : ℕ). k < length nodes) same (h i refl)

pub found_below : (nodes : List ℕ) (id : ℕ) (p : Pos) → found_at nodes id ≡ Some p → p.0 < length nodes
found_below nodes id p e =
    found_within nodes (position (λ x. x == id) nodes) p e (λ i h. (position-Some (λ x. x == id) nodes i 0 h).0)

node_within : (nodes : List ℕ) (o : Option ℕ) (p : Pos) → option_and_then (found_at nodes) o ≡ Some p → p.0 < length nodes
node_within nodes None p e = cc
node_within nodes (Some id) p e = found_below nodes id p e

in_ring : (nodes word : List ℕ) (p : Pos) → node_identified nodes word ≡ Some p → p.0 < length nodes
unfolding node_identified
in_ring nodes word p e = node_within nodes (numeral_in 0 15 word) p e

number_within : (low high : ℕ) (word : List ℕ) (k : ℕ) → numeral_in low high word ≡ Some k → (low ≤ k) × (k ≤ high)
unfolding numeral_in
number_within low high word k e = within (is_number word) (decimal_from 0 word) e
  where
    within : (b : Bool) (d : ℕ) → cond (b && nat_le low d && nat_le d high) (Some d) None ≡ Some k → (low ≤ k) × (k ≤ high)
    within b d h = (grind (arith, nat_tests), grind (arith, nat_tests))

-- a word that is to be a node's, and isn't refused
node_there : (nodes word : List ℕ) (rest : Bool) (r : Option Reason)
    → cond (is_none (node_identified nodes word) || rest) (Some reason.StepNode) r ≡ None
    → (unwrap_or (node_identified nodes word) (record { 0 = 0 })).0 < length nodes
node_there nodes word rest r e = named (node_identified nodes word) (in_ring nodes word) e
  where
    named : (o : Option Pos) → ((p : Pos) → o ≡ Some p → p.0 < length nodes) → cond (is_none o || rest) (Some reason.StepNode) r ≡ None
        → (unwrap_or o (record { 0 = 0 })).0 < length nodes
    named None h e' = cc
    named (Some p) h e' = h p refl

number_there : (low high : ℕ) (word : List ℕ) (rest : Bool) (r : Option Reason)
    → cond (is_none (numeral_in low high word) || rest) (Some reason.StepNumber) r ≡ None
    → (low ≤ unwrap_or (numeral_in low high word) 0) × (unwrap_or (numeral_in low high word) 0 ≤ high)
number_there low high word rest r e = told (numeral_in low high word) (number_within low high word) e
  where
    told : (o : Option ℕ) → ((k : ℕ) → o ≡ Some k → (low ≤ k) × (k ≤ high)) → cond (is_none o || rest) (Some reason.StepNumber) r ≡ None
        → (low ≤ unwrap_or o 0) × (unwrap_or o 0 ≤ high)
    told None h e' = cc
    told (Some k) h e' = h k refl

too_many_none : (nodes : List ℕ) (parts : List Part) (others : List (List ℕ)) → length parts < length others
    → first_fault (part_faults nodes parts others) ≡ None → ⊥
too_many_none nodes parts others h e = let wrong : ◌≡◌ {A = Option Reason} (Some reason.StepForm) None =
    sym (mismatch nodes parts others h) ∙ e in cc

place_within : (nodes : List ℕ) (others : List (List ℕ)) → first_fault (part_faults nodes (node ∷ side ∷ []) others) ≡ None
    → (position_in_words nodes others).0 < length nodes
unfolding part_faults
place_within nodes [] e = cc
place_within nodes (a ∷ []) e = cc
place_within nodes (a ∷ (b ∷ [])) e = node_there nodes a _ _ e
place_within nodes (a ∷ (b ∷ (c ∷ ws))) e = absurd (too_many_none nodes (node ∷ side ∷ []) (a ∷ (b ∷ (c ∷ ws))) (omega arith) e)

degree_within : (high : ℕ) (nodes : List ℕ) (others : List (List ℕ))
    → first_fault (part_faults nodes (node ∷ side ∷ number 1 high ∷ []) others) ≡ None
    → ((position_in_words nodes others).0 < length nodes) × (1 ≤ number_in_word 1 high (word_at others 2))
    × (number_in_word 1 high (word_at others 2) ≤ high)
unfolding part_faults
degree_within high nodes [] e = cc
degree_within high nodes (a ∷ []) e = cc
degree_within high nodes (a ∷ (b ∷ [])) e = cc
degree_within high nodes (a ∷ (b ∷ (c ∷ []))) e =
    let bounds : (1 ≤ unwrap_or (numeral_in 1 high c) 0) × (unwrap_or (numeral_in 1 high c) 0 ≤ high) =
    number_there 1 high c false None (later_none (is_none (side_at b) || (false || false)) reason.StepSide
    (cond (is_none (numeral_in 1 high c) || false) (Some reason.StepNumber) None)
    (later_none (is_none (node_identified nodes a) || (false || (false || false))) reason.StepNode
    (cond (is_none (side_at b) || (false || false)) (Some reason.StepSide)
    (cond (is_none (numeral_in 1 high c) || false) (Some reason.StepNumber) None)) e)) in
    (node_there nodes a _ _ e, bounds.0, bounds.1)
degree_within high nodes (a ∷ (b ∷ (c ∷ (d ∷ ws)))) e =
    absurd (too_many_none nodes (node ∷ side ∷ number 1 high ∷ []) (a ∷ (b ∷ (c ∷ (d ∷ ws)))) (omega arith) e)

moment_within : (high : ℕ) (nodes : List ℕ) (others : List (List ℕ)) → first_fault (part_faults nodes (number 0 high ∷ []) others) ≡ None
    → number_in_word 0 high (word_at others 0) ≤ high
unfolding part_faults
moment_within high nodes [] e = cc
moment_within high nodes (a ∷ []) e = (number_there 0 high a _ _ e).1
moment_within high nodes (a ∷ (b ∷ ws)) e = absurd (too_many_none nodes (number 0 high ∷ []) (a ∷ (b ∷ ws)) (omega arith) e)

hold_within : (nodes : List ℕ) (others : List (List ℕ)) → first_fault (part_faults nodes (node ∷ number 1 100 ∷ []) others) ≡ None
    → ((position_in_words nodes others).0 < length nodes) × (1 ≤ number_in_word 1 100 (word_at others 1))
    × (number_in_word 1 100 (word_at others 1) ≤ 100)
unfolding part_faults
hold_within nodes [] e = cc
hold_within nodes (a ∷ []) e = cc
hold_within nodes (a ∷ (b ∷ [])) e =
    let bounds : (1 ≤ unwrap_or (numeral_in 1 100 b) 0) × (unwrap_or (numeral_in 1 100 b) 0 ≤ 100) =
    number_there 1 100 b false None (later_none (is_none (node_identified nodes a) || (false || false)) reason.StepNode
    (cond (is_none (numeral_in 1 100 b) || false) (Some reason.StepNumber) None) e) in
    (node_there nodes a _ _ e, bounds.0, bounds.1)
hold_within nodes (a ∷ (b ∷ (c ∷ ws))) e = absurd (too_many_none nodes (node ∷ number 1 100 ∷ []) (a ∷ (b ∷ (c ∷ ws))) (omega arith) e)

-- a circuit that is named is one of them
circuit_within : (circuits : List Provisioned) (word : List ℕ) (k : ℕ) → circuit_named circuits word ≡ Some k → k < length circuits
unfolding circuit_named
circuit_within circuits word k e = within (position_or_len (λ c. bytes_eq c.name word) circuits) e
  where
    within : (at : ℕ) → cond (nat_lt at (length circuits)) (Some at) None ≡ Some k → k < length circuits
    within at h = grind (arith, nat_tests)

circuit_there : (circuits : List Provisioned) (word : List ℕ) (rest : Bool) (r : Option Reason)
    → cond (is_none (circuit_named circuits word) || rest) (Some reason.SlipPort) r ≡ None
    → unwrap_or (circuit_named circuits word) 0 < length circuits
circuit_there circuits word rest r e = named (circuit_named circuits word) (circuit_within circuits word) e
  where
    named : (o : Option ℕ) → ((k : ℕ) → o ≡ Some k → k < length circuits) → cond (is_none o || rest) (Some reason.SlipPort) r ≡ None
        → unwrap_or o 0 < length circuits
    named None h e' = cc
    named (Some k) h e' = h k refl

slip_within : (nodes : List ℕ) (circuits : List Provisioned) (others : List (List ℕ))
    → first_fault (part_faults nodes (verb.circuit circuits ∷ verb.end ∷ verb.turn ∷ number 1 16 ∷ []) others) ≡ None
    → ((port_in_words circuits others).circuit < length circuits) × (1 ≤ number_in_word 1 16 (word_at others 3))
    × (number_in_word 1 16 (word_at others 3) ≤ 16)
unfolding part_faults
slip_within nodes circuits [] e = cc
slip_within nodes circuits (a ∷ []) e = cc
slip_within nodes circuits (a ∷ (b ∷ [])) e = cc
slip_within nodes circuits (a ∷ (b ∷ (c ∷ []))) e = cc
slip_within nodes circuits (a ∷ (b ∷ (c ∷ (d ∷ [])))) e =
    let counted : Option Reason = cond (is_none (numeral_in 1 16 d) || false) (Some reason.StepNumber) None in
    let turned : Option Reason = cond (is_none (turn_at c) || (false || false)) (Some reason.StepSide) counted in
    let bounds : (1 ≤ unwrap_or (numeral_in 1 16 d) 0) × (unwrap_or (numeral_in 1 16 d) 0 ≤ 16) =
    number_there 1 16 d false None (later_none (is_none (turn_at c) || (false || false)) reason.StepSide counted
    (later_none (is_none (circuit_named circuits a) || (is_none (end_at b) || (false || (false || false)))) reason.SlipPort turned e)) in
    (circuit_there circuits a _ _ e, bounds.0, bounds.1)
slip_within nodes circuits (a ∷ (b ∷ (c ∷ (d ∷ (f ∷ ws))))) e =
    absurd (too_many_none nodes (verb.circuit circuits ∷ verb.end ∷ verb.turn ∷ number 1 16 ∷ []) (a ∷ (b ∷ (c ∷ (d ∷ (f ∷ ws)))))
    (omega arith) e)

verb_within : (rate : Rate) (nodes : List ℕ) (circuits : List Provisioned) (v : Verb) (others : List (List ℕ))
    → first_fault (part_faults nodes (parts_of (n_of rate) circuits v) others) ≡ None
    → IsStepIn rate (length nodes) (length circuits) (verb_step (n_of rate) nodes circuits v others)
verb_within rate nodes circuits verb.Cut others e = (place_within nodes others e, tt)
verb_within rate nodes circuits verb.Mend others e = (place_within nodes others e, tt)
verb_within rate nodes circuits verb.Degrade others e =
    let bounds : ((position_in_words nodes others).0 < length nodes) × (1 ≤ number_in_word 1 (3 * n_of rate) (word_at others 2))
    × (number_in_word 1 (3 * n_of rate) (word_at others 2) ≤ 3 * n_of rate) = degree_within (3 * n_of rate) nodes others e in
    (bounds.0, (bounds.1, bounds.2))
verb_within rate nodes circuits verb.Forced others e = place_within nodes others e
verb_within rate nodes circuits verb.Manual others e = place_within nodes others e
verb_within rate nodes circuits verb.Clear others e = place_within nodes others e
verb_within rate nodes circuits verb.Moment others e = moment_within 1000000000 nodes others e
verb_within rate nodes circuits verb.Settle others e = tt
verb_within rate nodes circuits verb.Hold others e = hold_within nodes others e
verb_within rate nodes circuits verb.Slip others e = slip_within nodes circuits others e

option_within : (rate : Rate) (nodes : List ℕ) (circuits : List Provisioned) (o : Option Verb) (others : List (List ℕ))
    → first_fault (verb_faults (n_of rate) nodes circuits o others) ≡ None
    → IsStepIn rate (length nodes) (length circuits) (option_map_or (λ v. verb_step (n_of rate) nodes circuits v others) o step.Settle)
option_within rate nodes circuits None others e = cc
option_within rate nodes circuits (Some v) others e = verb_within rate nodes circuits v others e

form_within : (rate : Rate) (nodes : List ℕ) (circuits : List Provisioned) (ws : List (List ℕ))
    → first_fault (form_faults (n_of rate) nodes circuits ws) ≡ None
    → IsStepIn rate (length nodes) (length circuits) (form_step (n_of rate) nodes circuits ws)
unfolding form_faults form_step
form_within rate nodes circuits [] e = cc
form_within rate nodes circuits (first ∷ others) e = option_within rate nodes circuits (verb_of first) others (later_none _ _ _ e)

-- what a step leads to where the checks against the steps before pass
record Leads (past : Past) (s : Step) : Type 0 where
  pub forward : past.moment ≤ (after past s).moment
  pub few_settles : (after past s).settles ≤ 64
  pub few_slips : HasRoom past.slips s

past_within : (past : Past) (s : Step) → past.settles ≤ 64 → first_fault (past_faults past s) ≡ None → Leads past s
unfolding past_faults
past_within past (step.Fibre event) h e = record { forward = omega arith; few_settles = h; few_slips = tt }
past_within past (step.Order at on c) h e = record { forward = omega arith; few_settles = h; few_slips = tt }
past_within past (step.Moment m) h e = record { forward = grind (arith, nat_tests); few_settles = h; few_slips = tt }
past_within past (step.Hold at turns) h e = record { forward = omega arith; few_settles = h; few_slips = tt }
past_within past (step.Slip port turn count) h e = record { forward = omega arith; few_settles = h; few_slips = grind (arith, nat_tests) }
past_within past step.Settle h e = record { forward = omega arith; few_settles = grind (arith, nat_tests); few_slips = tt }

pub steps_within : (rate : Rate) (nodes : List ℕ) (circuits : List Provisioned) (past : Past) (place : ℕ) (ds : List Data)
    → past.settles ≤ 64 → answer (steps_checks (n_of rate) nodes circuits past place ds) ≡ None
    → AreSteps rate (length nodes) (length circuits) past (map (λ d. step_of (n_of rate) nodes circuits (string_of d)) ds)
steps_within rate nodes circuits past place [] h e = tt
steps_within rate nodes circuits past place (d ∷ ds) h e =
    let s : Step = step_of (n_of rate) nodes circuits (string_of d) in
    let parts : (first_fault (step_faults (n_of rate) nodes circuits past (string_of d)) ≡ None)
    × (answer (steps_checks (n_of rate) nodes circuits (after past s) (place + 1) ds) ≡ None) =
    place_none place (step_faults (n_of rate) nodes circuits past (string_of d))
    (steps_checks (n_of rate) nodes circuits (after past s) (place + 1) ds) e in
    let form : (first_fault (form_faults (n_of rate) nodes circuits (words (string_of d))) ≡ None)
    × (first_fault (past_faults past s) ≡ None) =
    both_none (form_faults (n_of rate) nodes circuits (words (string_of d))) (past_faults past s) parts.0 in
    let leads : Leads past s = past_within past s h form.1 in (
      record {
        in_ring = form_within rate nodes circuits (words (string_of d)) form.0;
        forward = leads.forward;
        few_settles = leads.few_settles;
        few_slips =
            leads.few_slips;
      },
      steps_within rate nodes circuits (after past s) (place + 1) ds leads.few_settles parts.1,
    )

-- checks in two parts that all pass
answers_none : (checks more : List Check) → answer (checks ++ more) ≡ None → (answer checks ≡ None) × (answer more ≡ None)
answers_none [] more e = (refl, e)
answers_none (check ∷ later) more e = joined check.fails (answers_none later more) e
  where
    joined : (b : Bool) → (answer (later ++ more) ≡ None → (answer later ≡ None) × (answer more ≡ None))
        → cond b (Some (record { reason = check.reason; place = check.place })) (answer (later ++ more)) ≡ None
        → (cond b (Some (record { reason = check.reason; place = check.place })) (answer later) ≡ None) × (answer more ≡ None)
    joined true rest h = cc
    joined false rest h = rest h

check_none : (b : Bool) (x : Refusal) (r : Option Refusal) → cond b (Some x) r ≡ None → (b ≡ false) × (r ≡ None)
check_none true x r e = cc
check_none false x r e = (refl, e)

turned : (b : Bool) → not b ≡ false → b ≡ true
turned true e = refl
turned false e = cc

pub script_fits : (ms : Members) (rate : Rate) (nodes : List ℕ) (circuits : List Provisioned) (n : ℕ) (steps : List Step) → n ≡ n_of rate
    → answer (script_checks n nodes circuits ms) ≡ None
    → steps ≡ map (λ d. step_of n nodes circuits (string_of d)) (elements_in (codes "script") ms)
    → AreSteps rate (length nodes) (length circuits) new_past steps × (ends_settled steps ≡ true)
unfolding script_checks
script_fits ms rate nodes circuits n steps h e made =
    let ds : List Data = elements_in (codes "script") ms in
    let first : (not (is_array_of is_string (codes "script") ms) ≡ false)
    × (answer (check_of_document reason.ScriptLength (not (is_script_length (length ds))) ∷ texts_checks n nodes circuits ds) ≡ None) =
    check_none _ _ _ e in
    let second : (not (is_script_length (length ds)) ≡ false) × (answer (texts_checks n nodes circuits ds) ≡ None) =
    check_none _ _ _ first.1 in
    let parts : (answer (steps_checks n nodes circuits new_past 1 ds) ≡ None)
    × (answer (last_check (map (λ d. step_of n nodes circuits (string_of d)) ds) ∷ []) ≡ None) =
    answers_none (steps_checks n nodes circuits new_past 1 ds)
    (last_check (map (λ d. step_of n nodes circuits (string_of d)) ds) ∷ []) second.1 in
    let last : not (ends_settled (map (λ d. step_of n nodes circuits (string_of d)) ds)) ≡ false = (check_none _ _ None parts.1).0 in
    let fit : AreSteps rate (length nodes) (length circuits) new_past (map (λ d. step_of (n_of rate) nodes circuits (string_of d)) ds) =
    steps_within rate nodes circuits new_past 1 ds (omega arith)
    (ap (λ k. answer (steps_checks k nodes circuits new_past 1 ds)) (sym h) ∙ parts.0) in
    let same : steps ≡ map (λ d. step_of (n_of rate) nodes circuits (string_of d)) ds =
    made ∙ ap (λ k. map (λ d. step_of k nodes circuits (string_of d)) ds) h in (
      subst (λ (l : List Step). AreSteps rate (length nodes) (length circuits) new_past l) (sym same) fit,
      ap ends_settled made ∙ turned _ last,
    )
