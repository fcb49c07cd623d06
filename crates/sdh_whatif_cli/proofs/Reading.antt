-- The steps of a case are read back.
use Rattle.std.proofs.Common.{◌≡◌, ℕ, ◌*◌, ◌<◌, ◌≤◌, Bool, true, false, ◌||◌, cond, ◌==◌, nat_lt, List, [], ◌∷◌, ◌++◌, length, All}
use Rattle.std.proofs.Common.{codes, decimal, Option, Some, None, is_none, unwrap_or, option_map, option_and_then, slice_index, refl, ap, ◌∙◌}
use Rattle.std.proofs.Common.{arith, eq-eqb, ne_eqb, lt-ltb, append_assoc}
use Rattle.std.proofs.lemmas.List.Elements.{All-nil, All-cons, All-head, All-tail, All-same}
use Rattle.std.proofs.lemmas.List.Sums.{position_or_len_is}
use Rattle.std.specs.List.{flat_map, position_or_len}
use Rattle.sdh_ringmap.specs.declared.Pos.{Pos}
use Rattle.sdh_ringmap.specs.declared.Side.{Side}
use Rattle.sdh_ringmap.specs.declared.Side.TheVariants.{West, East}
use Rattle.sdh_ringmap.specs.Ids.{AreIds}
use Rattle.sdh_ringmap.specs.Places.{found_at, position_of}
use Rattle.sdh_ringmap.proofs.Sides.{neighbour_below}
use Rattle.sdh_ringmap.specs.declared.terms.Rate.{Rate}
use Rattle.sdh_ringmap.specs.declared.terms.Rate.TheVariants.{Four, Sixteen}
use Rattle.sdh_ringmap.specs.Rates.{n_of}
use Rattle.sdh_ringmap.specs.declared.terms.Condition.{Condition}
use Rattle.sdh_ringmap.specs.declared.terms.Condition.TheVariants as condition
use Rattle.sdh_request.specs.declared.Command.{Command}
use Rattle.sdh_request.specs.declared.Command.TheVariants as command
use Rattle.sdh_report.specs.Lines.{side_text}
use Rattle.sdh_plan.specs.declared.reason.Reason.TheVariants as reason
use Rattle.sdh_plan.specs.declared.step.Step.{Step}
use Rattle.sdh_plan.specs.declared.step.Step.TheVariants as step
use Rattle.sdh_plan.specs.Check.{first_fault}
use Rattle.sdh_plan.specs.Words.{words, is_empty, numeral_in}
use Rattle.sdh_plan.specs.Steps.{node_identified, side_at, fibre_step, order_step, part_faults, form_faults, form_step, step_of, number_in_word}
use Rattle.sdh_plan.specs.Planned.{Planned, IsPlanned}
use Rattle.sdh_verdicts.specs.declared.failure.Failure.{Failure}
use Rattle.sdh_verdicts.specs.declared.failure.Failure.TheVariants.{Degraded, Cut, Span, Node, Manual, Forced}
use Rattle.sdh_verdicts.specs.Failures.{IsFailureIn, condition_step, neighbour_position, steps_of, case_steps}
use Rattle.sdh_whatif_cli.specs.declared.ask.Form.{Form}
use Rattle.sdh_whatif_cli.specs.Lines.{step_quote, place_in_plan_text, step_text, step_part, script_text}
use Rattle.sdh_whatif_cli.specs.Reading.{field_read, texts_in, steps_read, PassChecks}
use Rattle.sdh_whatif_cli.proofs.Quoting.{settle, written, AllLack, between_steps, read_back, part_first, front_first}
use Rattle.sdh_whatif_cli.proofs.Splitting.{lacks, lacks_both, split_at, split_none, IsRead, read, numeral_is}

-- ---- words

-- the position of a node's identifier
found : (ids : List ℕ) (at : Pos) → AreIds ids → at.0 < length ids → found_at ids (slice_index ids at.0) ≡ Some at
found ids at are low =
    let id = slice_index ids at.0 in
    let place : position_or_len (λ x. x == id) ids ≡ at.0 =
    position_or_len_is (λ x. x == id) ids at.0 0 (omega (arith, low))
    (λ k h. ne_eqb (slice_index ids k) id (λ e. (let same = are.distinct k at.0 (omega (arith, h, low)) low e in omega (arith, same, h))))
    (λ h. eq-eqb id id refl) in
    ap (λ k. option_map position_of (cond (nat_lt k (length ids)) (Some k) None)) place
    ∙ ap (λ b. option_map position_of (cond b (Some at.0) None)) (lt-ltb at.0 (length ids) low)

side_spaces : (side : Side) → lacks 32 (side_text side) ≡ true
side_spaces West = refl
side_spaces East = refl

side_quotes : (side : Side) → lacks 34 (side_text side) ≡ true
side_quotes West = refl
side_quotes East = refl

side_named : (side : Side) → side_at (side_text side) ≡ Some side
side_named West = refl
side_named East = refl

at_most_16 : (rate : Rate) → n_of rate ≤ 16
at_most_16 Four = omega arith
at_most_16 Sixteen = omega arith

-- ---- checks

two_pass : (e a : Bool) → e ≡ false → a ≡ false
    → cond (e || false) (Some reason.StepForm) (cond (a || false) (Some reason.StepNode) None) ≡ None
two_pass e a x y =
    ap (λ b. cond (b || false) (Some reason.StepForm) (cond (a || false) (Some reason.StepNode) None)) x
    ∙ ap (λ b. cond (b || false) (Some reason.StepNode) None) y

three_pass : (e f a z : Bool) → e ≡ false → f ≡ false → a ≡ false → z ≡ false
    → cond (e || (f || false)) (Some reason.StepForm) (cond (a || false) (Some reason.StepNode)
    (cond (z || false) (Some reason.StepNumber) None)) ≡ None
three_pass e f a z x y u v =
    ap (λ b. cond (b || (f || false)) (Some reason.StepForm) (cond (a || false) (Some reason.StepNode)
    (cond (z || false) (Some reason.StepNumber) None))) x
    ∙ ap (λ b. cond (b || false) (Some reason.StepForm) (cond (a || false) (Some reason.StepNode)
    (cond (z || false) (Some reason.StepNumber) None))) y
    ∙ ap (λ b. cond (b || false) (Some reason.StepNode) (cond (z || false) (Some reason.StepNumber) None)) u
    ∙ ap (λ b. cond (b || false) (Some reason.StepNumber) None) v

module _ (plan : Planned) (fits : IsPlanned plan) where
  abbrev rate_n : ℕ
  rate_n = n_of plan.settings.rate

  abbrev IsIn : Pos → Type 0
  IsIn at = at.0 < length plan.nodes

  -- the identifier of a node
  abbrev word : Pos → List ℕ
  word at = decimal (slice_index plan.nodes at.0)

  id_read : (at : Pos) → IsIn at → IsRead (slice_index plan.nodes at.0)
  id_read at low = read (slice_index plan.nodes at.0) (omega (arith, fits.nodes_fit.small at.0 low))

  known : (at : Pos) → IsIn at → node_identified plan.nodes (word at) ≡ Some at
  unfolding node_identified
  known at low =
      let id = slice_index plan.nodes at.0 in
      ap (option_and_then (found_at plan.nodes))
      (numeral_is 0 15 id (id_read at low) (omega arith) (omega (arith, fits.nodes_fit.small at.0 low)))
      ∙ found plan.nodes at fits.nodes_fit low

  -- ---- a verb, a node and a side

  -- parted by spaces
  abbrev spaced : List ℕ → Pos → Side → List ℕ
  spaced verb at side = verb ++ (word at ++ (codes " " ++ side_text side))

  spaced_is : (verb : List ℕ) (at : Pos) (side : Side) → place_in_plan_text plan.nodes verb at side ≡ spaced verb at side
  spaced_is verb at side =
      append_assoc (verb ++ word at) (codes " ") (side_text side) ∙ append_assoc verb (word at) (codes " " ++ side_text side)

  words_are : (verb : List ℕ) (at : Pos) (side : Side) → IsIn at → lacks 32 verb ≡ true
      → words (verb ++ 32 ∷ (word at ++ 32 ∷ side_text side)) ≡ verb ∷ (word at ∷ (side_text side ∷ []))
  words_are verb at side low free =
      split_at 32 verb (word at ++ 32 ∷ side_text side) free
      ∙ ap (λ ws. verb ∷ ws) (split_at 32 (word at) (side_text side) (id_read at low).spaces)
      ∙ ap (λ ws. verb ∷ (word at ∷ ws)) (split_none 32 (side_text side) (side_spaces side))

  no_quote : (verb : List ℕ) (at : Pos) (side : Side) → IsIn at → lacks 34 verb ≡ true → lacks 34 (spaced verb at side) ≡ true
  no_quote verb at side low free =
      lacks_both 34 verb (word at ++ (codes " " ++ side_text side)) free
      (lacks_both 34 (word at) (codes " " ++ side_text side) (id_read at low).quotes (side_quotes side))

  fibre_is : (at : Pos) (side : Side) (c : Condition) (rest : List (List ℕ)) → IsIn at
      → fibre_step plan.nodes (word at ∷ (side_text side ∷ rest)) c ≡ condition_step c at side
  fibre_is at side c rest low =
      ap (λ (o : Option Pos). step.Fibre (record {
        at = unwrap_or o (position_of 0);
        side = unwrap_or (side_at (side_text side)) West;
        condition = c;
      })) (known at low)
      ∙ ap (λ (o : Option Side). step.Fibre (record { at = at; side = unwrap_or o West; condition = c })) (side_named side)

  order_is : (at : Pos) (side : Side) (c : Command) (rest : List (List ℕ)) → IsIn at
      → order_step plan.nodes (word at ∷ (side_text side ∷ rest)) c ≡ step.Order at side c
  order_is at side c rest low =
      ap (λ (o : Option Pos). step.Order (unwrap_or o (position_of 0)) (unwrap_or (side_at (side_text side)) West) c) (known at low)
      ∙ ap (λ (o : Option Side). step.Order at (unwrap_or o West) c) (side_named side)

  -- ---- a step

  abbrev step_read : List ℕ → Step
  step_read text = step_of rate_n plan.nodes plan.circuits text

  abbrev Passes : List (List ℕ) → Type 0
  Passes ws = first_fault (form_faults rate_n plan.nodes plan.circuits ws) ≡ None

  -- the step has a text that is read back; no check fails for it, and it has no quote
  record Reads (s : Step) : Type 0 where
    pub text : List ℕ
    pub part : step_text plan.nodes s ≡ text
    pub reads : step_read text ≡ s
    pub passes : Passes (words text)
    pub whole : lacks 34 text ≡ true

  -- no check refuses the word of a node
  node_passes : (at : Pos) → IsIn at
      → cond (is_empty (word at) || false) (Some reason.StepForm)
      (cond (is_none (node_identified plan.nodes (word at)) || false) (Some reason.StepNode) None) ≡ None
  node_passes at low =
      two_pass (is_empty (word at)) (is_none (node_identified plan.nodes (word at))) (id_read at low).some (ap is_none (known at low))

  -- the words of a verb, a node and a side
  abbrev placed : List ℕ → Pos → Side → List (List ℕ)
  placed verb at side = verb ∷ (word at ∷ (side_text side ∷ []))

  -- a step of a verb, a node and a side
  reads_placed : (verb : List ℕ) (s : Step) (at : Pos) (side : Side) → IsIn at → lacks 32 verb ≡ true → lacks 34 (verb ++ codes " ") ≡ true
      → step_text plan.nodes s ≡ place_in_plan_text plan.nodes (verb ++ codes " ") at side
      → form_step rate_n plan.nodes plan.circuits (placed verb at side) ≡ s → Passes (placed verb at side) → Reads s
  reads_placed verb s at side low spaces quotes part read passes =
      let ws : words (spaced (verb ++ codes " ") at side) ≡ placed verb at side =
      ap words (append_assoc verb (codes " ") (word at ++ (codes " " ++ side_text side))) ∙ words_are verb at side low spaces in
      record {
        text = spaced (verb ++ codes " ") at side;
        part = part ∙ spaced_is (verb ++ codes " ") at side;
        reads = ap (form_step rate_n plan.nodes plan.circuits) ws ∙ read;
        passes = ap (λ l. first_fault (form_faults rate_n plan.nodes plan.circuits l)) ws ∙ passes;
        whole = no_quote (verb ++ codes " ") at side low quotes;
      }

  cut_passes : (at : Pos) (side : Side) → IsIn at → Passes (placed (codes "cut") at side)
  unfolding form_faults part_faults
  cut_passes at West low = node_passes at low
  cut_passes at East low = node_passes at low

  reads_cut : (at : Pos) (side : Side) → IsIn at → Reads (condition_step condition.Cut at side)
  unfolding form_step
  reads_cut at side low =
      let read = fibre_is at side condition.Cut [] low in
      reads_placed (codes "cut") (condition_step condition.Cut at side) at side low refl refl refl read (cut_passes at side low)

  manual_passes : (at : Pos) (side : Side) → IsIn at → Passes (placed (codes "manual") at side)
  unfolding form_faults part_faults
  manual_passes at West low = node_passes at low
  manual_passes at East low = node_passes at low

  reads_manual : (at : Pos) (side : Side) → IsIn at → Reads (step.Order at side command.Manual)
  unfolding form_step
  reads_manual at side low =
      let read = order_is at side command.Manual [] low in
      reads_placed (codes "manual") (step.Order at side command.Manual) at side low refl refl refl read (manual_passes at side low)

  forced_passes : (at : Pos) (side : Side) → IsIn at → Passes (placed (codes "forced") at side)
  unfolding form_faults part_faults
  forced_passes at West low = node_passes at low
  forced_passes at East low = node_passes at low

  reads_forced : (at : Pos) (side : Side) → IsIn at → Reads (step.Order at side command.Forced)
  unfolding form_step
  reads_forced at side low =
      let read = order_is at side command.Forced [] low in
      reads_placed (codes "forced") (step.Order at side command.Forced) at side low refl refl refl read (forced_passes at side low)

  -- ---- a degradation at the threshold

  abbrev threshold : ℕ
  threshold = plan.settings.threshold

  threshold_read : IsRead threshold
  threshold_read = read threshold (omega (arith, fits.threshold_small, at_most_16 plan.settings.rate))

  threshold_is : numeral_in 1 (3 * rate_n) (decimal threshold) ≡ Some threshold
  threshold_is = numeral_is 1 (3 * rate_n) threshold threshold_read fits.threshold_from_1 fits.threshold_small

  abbrev degraded : Pos → Side → List ℕ
  degraded at side = codes "degrade " ++ (word at ++ (codes " " ++ (side_text side ++ (codes " " ++ decimal threshold))))

  degraded_is : (at : Pos) (side : Side)
      → place_in_plan_text plan.nodes (codes "degrade ") at side ++ codes " " ++ decimal threshold ≡ degraded at side
  degraded_is at side =
      ap (λ l. l ++ codes " " ++ decimal threshold) (spaced_is (codes "degrade ") at side)
      ∙ ap (λ l. codes "degrade " ++ l) (append_assoc (word at ++ (codes " " ++ side_text side)) (codes " ") (decimal threshold)
      ∙ append_assoc (word at) (codes " " ++ side_text side) (codes " " ++ decimal threshold))

  degraded_words : (at : Pos) (side : Side) → IsIn at
      → words (degraded at side) ≡ codes "degrade" ∷ (word at ∷ (side_text side ∷ (decimal threshold ∷ [])))
  degraded_words at side low =
      split_at 32 (codes "degrade") (word at ++ 32 ∷ (side_text side ++ 32 ∷ decimal threshold)) refl
      ∙ ap (λ ws. codes "degrade" ∷ ws) (split_at 32 (word at) (side_text side ++ 32 ∷ decimal threshold) (id_read at low).spaces)
      ∙ ap (λ ws. codes "degrade" ∷ (word at ∷ ws)) (split_at 32 (side_text side) (decimal threshold) (side_spaces side))
      ∙ ap (λ ws. codes "degrade" ∷ (word at ∷ (side_text side ∷ ws))) (split_none 32 (decimal threshold) threshold_read.spaces)

  degraded_passes : (at : Pos) (side : Side) → IsIn at
      → Passes (codes "degrade" ∷ (word at ∷ (side_text side ∷ (decimal threshold ∷ []))))
  unfolding form_faults part_faults
  degraded_passes at West low =
      three_pass (is_empty (word at)) (is_empty (decimal threshold)) (is_none (node_identified plan.nodes (word at)))
      (is_none (numeral_in 1 (3 * rate_n) (decimal threshold))) (id_read at low).some threshold_read.some (ap is_none (known at low))
      (ap is_none threshold_is)
  degraded_passes at East low =
      three_pass (is_empty (word at)) (is_empty (decimal threshold)) (is_none (node_identified plan.nodes (word at)))
      (is_none (numeral_in 1 (3 * rate_n) (decimal threshold))) (id_read at low).some threshold_read.some (ap is_none (known at low))
      (ap is_none threshold_is)

  degraded_step : (at : Pos) (side : Side) → IsIn at
      → form_step rate_n plan.nodes plan.circuits (codes "degrade" ∷ (word at ∷ (side_text side ∷ (decimal threshold ∷ []))))
      ≡ condition_step (condition.Degraded threshold) at side
  unfolding form_step
  degraded_step at side low =
      fibre_is at side (condition.Degraded (number_in_word 1 (3 * rate_n) (decimal threshold))) (decimal threshold ∷ []) low
      ∙ ap (λ (o : Option ℕ). condition_step (condition.Degraded (unwrap_or o 0)) at side) threshold_is

  reads_degraded : (at : Pos) (side : Side) → IsIn at → Reads (condition_step (condition.Degraded threshold) at side)
  reads_degraded at side low =
      let ws = degraded_words at side low in
      record {
        text = degraded at side;
        part = degraded_is at side;
        reads = ap (form_step rate_n plan.nodes plan.circuits) ws ∙ degraded_step at side low;
        passes = ap (λ l. first_fault (form_faults rate_n plan.nodes plan.circuits l)) ws ∙ degraded_passes at side low;
        whole =
            lacks_both 34 (codes "degrade ") (word at ++ (codes " " ++ (side_text side ++ (codes " " ++ decimal threshold)))) refl
            (lacks_both 34 (word at) (codes " " ++ (side_text side ++ (codes " " ++ decimal threshold))) (id_read at low).quotes
            (lacks_both 34 (side_text side) (codes " " ++ decimal threshold) (side_quotes side) threshold_read.quotes));
      }

  -- ---- the steps of a case

  abbrev AllRead : List Step → Type 0
  AllRead [] = Unit {0}
  AllRead (s ∷ ss) = Reads s × AllRead ss

  read_both : (xs ys : List Step) → AllRead xs → AllRead ys → AllRead (xs ++ ys)
  read_both [] ys x y = y
  read_both (s ∷ xs) ys x y = (x.0, read_both xs ys x.1 y)

  one_read : (f : Failure) → IsFailureIn (length plan.nodes) f → AllRead (steps_of (length plan.nodes) threshold f)
  one_read (Degraded at side) low = (reads_degraded at side low, tt)
  one_read (Cut at side) low = (reads_cut at side low, tt)
  one_read (Span at) low =
      let some : 0 < length plan.nodes = omega (arith, low) in
      let n = length plan.nodes in
      (reads_cut at East low, (reads_cut (neighbour_position n at East) West (neighbour_below n at.0 East some), tt))
  one_read (Node at) low =
      let some : 0 < length plan.nodes = omega (arith, low) in
      let n = length plan.nodes in (
        reads_cut at East low,
        (
          reads_cut (neighbour_position n at East) West (neighbour_below n at.0 East some),
          (reads_cut (neighbour_position n at West) East (neighbour_below n at.0 West some), (reads_cut at West low, tt)),
        ),
      )
  one_read (Manual at side) low = (reads_manual at side low, tt)
  one_read (Forced at side) low = (reads_forced at side low, tt)

  case_read : (case : List Failure) → All (IsFailureIn (length plan.nodes)) case → AllRead (case_steps (length plan.nodes) threshold case)
  case_read [] all = tt
  case_read (f ∷ others) all =
      read_both (steps_of (length plan.nodes) threshold f) (case_steps (length plan.nodes) threshold others)
      (one_read f (All-head (IsFailureIn (length plan.nodes)) f others all))
      (case_read others (All-tail (IsFailureIn (length plan.nodes)) f others all))

  -- ---- a line's

  abbrev texts_of : (steps : List Step) → AllRead steps → List (List ℕ)
  texts_of [] r = []
  texts_of (s ∷ ss) r = r.0.text ∷ texts_of ss r.1

  free_of : (steps : List Step) (r : AllRead steps) → AllLack (texts_of steps r)
  free_of [] r = tt
  free_of (s ∷ ss) r = (r.0.whole, free_of ss r.1)

  script_is : (f : Form) (steps : List Step) (r : AllRead steps)
      → flat_map (step_part f plan.nodes) steps ++ step_quote f ++ settle ++ step_quote f
      ≡ written (step_quote f) (between_steps f) (texts_of steps r)
  script_is f [] r = append_assoc (step_quote f) settle (step_quote f)
  script_is f (s ∷ ss) r =
      let q = step_quote f in
      let b = between_steps f in
      let rest = flat_map (step_part f plan.nodes) ss in
      front_first (step_part f plan.nodes s) rest q settle
      ∙ ap (λ l. step_part f plan.nodes s ++ l) (script_is f ss r.1)
      ∙ ap (λ t. q ++ t ++ q ++ b ++ written q b (texts_of ss r.1)) r.0.part
      ∙ part_first q r.0.text b (written q b (texts_of ss r.1))

  settle_read : step_read (codes "settle") ≡ step.Settle
  unfolding form_step
  settle_read = refl

  settle_passes : Passes (words (codes "settle"))
  unfolding form_faults part_faults
  settle_passes = refl

  all_back : (steps : List Step) (r : AllRead steps)
      → steps_read plan (texts_of steps r ++ codes "settle" ∷ []) ≡ steps ++ step.Settle ∷ []
  all_back [] r = ap (λ s. s ∷ []) settle_read
  all_back (s ∷ ss) r =
      ap (λ t. t ∷ steps_read plan (texts_of ss r.1 ++ codes "settle" ∷ [])) r.0.reads ∙ ap (λ l. s ∷ l) (all_back ss r.1)

  all_pass : (steps : List Step) (r : AllRead steps) → PassChecks plan (texts_of steps r ++ codes "settle" ∷ [])
  all_pass [] r = All-cons (λ text. Passes (words text)) (codes "settle") [] settle_passes (All-nil (λ text. Passes (words text)))
  all_pass (s ∷ ss) r =
      All-cons (λ text. Passes (words text)) r.0.text (texts_of ss r.1 ++ codes "settle" ∷ []) r.0.passes (all_pass ss r.1)

  module _ (f : Form) (case : List Failure) (all : All (IsFailureIn (length plan.nodes)) case) where
    abbrev steps : List Step
    steps = case_steps (length plan.nodes) threshold case

    texts_are : texts_in (field_read f (script_text f plan case)) ≡ texts_of steps (case_read case all) ++ settle ∷ []
    texts_are =
        ap (λ t. texts_in (field_read f t)) (script_is f steps (case_read case all))
        ∙ read_back f (texts_of steps (case_read case all)) (free_of steps (case_read case all))

    pub steps_back : steps_read plan (texts_in (field_read f (script_text f plan case))) ≡ steps ++ step.Settle ∷ []
    steps_back = ap (steps_read plan) texts_are ∙ all_back steps (case_read case all)

    pub texts_pass : PassChecks plan (texts_in (field_read f (script_text f plan case)))
    texts_pass =
        All-same (λ text. Passes (words text)) (texts_in (field_read f (script_text f plan case)))
        (texts_of steps (case_read case all) ++ settle ∷ []) texts_are (all_pass steps (case_read case all))
