-- The steps of a script: their forms, their checks and what each does. All this is this project's own.
use Rattle.std.specs.Prelude.{ℕ, ◌+◌, ◌-◌, ◌*◌, Bool, true, false, ◌==◌, ◌&&◌, ◌||◌, not, nat_le, nat_lt, if◌then◌else◌, List, [], ◌∷◌}
use Rattle.std.specs.Prelude.{◌++◌, length, codes, Option, Some, None, is_none, unwrap_or, slice_index_or, slice_get, position}
use Rattle.std.specs.List.{list_any}
use Rattle.std.specs.Str.{bytes_eq}
use Rattle.std.specs.Option.{option_and_then, option_map_or}
use Rattle.sdh_ringmap.specs.declared.Pos.{Pos}
use Rattle.sdh_ringmap.specs.declared.Side.{Side}
use Rattle.sdh_ringmap.specs.declared.Side.TheVariants.{West, East}
use Rattle.sdh_ringmap.specs.Places.{found_at}
use Rattle.sdh_ringmap.specs.declared.terms.Condition.{Condition}
use Rattle.sdh_ringmap.specs.declared.terms.Condition.TheVariants as condition
use Rattle.sdh_request.specs.declared.Command.{Command}
use Rattle.sdh_request.specs.declared.Command.TheVariants as command
use Rattle.sdh_circuits.specs.declared.PortId.{PortId}
use Rattle.sdh_circuits.specs.declared.End.{End}
use Rattle.sdh_circuits.specs.declared.End.TheVariants.{A, B}
use Rattle.sdh_circuits.specs.Provisioned.{Provisioned, same_port}
use Rattle.sdh_payload.specs.declared.clock.Turn.{Turn}
use Rattle.sdh_payload.specs.declared.clock.Turn.TheVariants.{Up, Down}
use Rattle.sdh_plan.specs.declared.step.Step.{Step}
use Rattle.sdh_plan.specs.declared.step.Step.TheVariants as step
use Rattle.sdh_plan.specs.Verbs.{Verb, verb_of, Part, node, side, number, parts_of}
use Rattle.sdh_plan.specs.Verbs as verb
use Rattle.toml.specs.Data.{Data}
use Rattle.sdh_plan.specs.Document.{string_of}
use Rattle.sdh_plan.specs.Check.{Fault, Check, checks_at_place}
use Rattle.sdh_plan.specs.Words.{words, is_empty, numeral_in}
use Rattle.sdh_plan.specs.declared.reason.Reason.TheVariants as reason

-- the position of the node whose identifier the word is
unfoldable pub node_identified : List ℕ → List ℕ → Option Pos
node_identified nodes word = option_and_then (found_at nodes) (numeral_in 0 15 word)

-- the side that the word names
abbrev pub side_at : List ℕ → Option Side
side_at word = if bytes_eq word (codes "west") then Some West else if bytes_eq word (codes "east") then Some East else None

-- the circuit whose name the word is, counted from 0
unfoldable pub circuit_named : List Provisioned → List ℕ → Option ℕ
circuit_named circuits word = position (λ c. bytes_eq c.name word) circuits

-- the end of a circuit that the word names
abbrev pub end_at : List ℕ → Option End
end_at word = if bytes_eq word (codes "a") then Some A else if bytes_eq word (codes "b") then Some B else None

-- the turn of a clock that the word names
abbrev pub turn_at : List ℕ → Option Turn
turn_at word = if bytes_eq word (codes "up") then Some Up else if bytes_eq word (codes "down") then Some Down else None

-- the word is to be a node of the ring and is none
abbrev pub no_node : List ℕ → Part → List ℕ → Bool
no_node nodes node word = is_none (node_identified nodes word)
no_node nodes side word = false
no_node nodes (number low high) word = false
no_node nodes (verb.circuit circuits) word = false
no_node nodes verb.end word = false
no_node nodes verb.turn word = false

-- the word is to name a circuit or an end of one, and names none
abbrev pub no_port : Part → List ℕ → Bool
no_port node word = false
no_port side word = false
no_port (number low high) word = false
no_port (verb.circuit circuits) word = is_none (circuit_named circuits word)
no_port verb.end word = is_none (end_at word)
no_port verb.turn word = false

-- the word is to be a side or a turn and is none
abbrev pub no_side : Part → List ℕ → Bool
no_side node word = false
no_side side word = is_none (side_at word)
no_side (number low high) word = false
no_side (verb.circuit circuits) word = false
no_side verb.end word = false
no_side verb.turn word = is_none (turn_at word)

-- the word is to be a number in a range and is none
abbrev pub no_number : Part → List ℕ → Bool
no_number node word = false
no_number side word = false
no_number (number low high) word = is_none (numeral_in low high word)
no_number (verb.circuit circuits) word = false
no_number verb.end word = false
no_number verb.turn word = false

-- one of the words is not what it should be
abbrev pub any_amiss : (Part → List ℕ → Bool) → List Part → List (List ℕ) → Bool
any_amiss amiss (part ∷ parts) (word ∷ others) = amiss part word || any_amiss amiss parts others
any_amiss amiss _ _ = false

-- the checks of the words after the first
unfoldable pub part_faults : List ℕ → List Part → List (List ℕ) → List Fault
part_faults nodes parts others =
    (reason.StepForm, not (length others == length parts))
    ∷ (reason.StepNode, any_amiss (no_node nodes) parts others)
    ∷ (reason.SlipPort, any_amiss no_port parts others)
    ∷ (reason.StepSide, any_amiss no_side parts others)
    ∷ (reason.StepNumber, any_amiss no_number parts others)
    ∷ []

-- the checks after the first word, which is to be listed
abbrev pub verb_faults : ℕ → List ℕ → List Provisioned → Option Verb → List (List ℕ) → List Fault
verb_faults n nodes circuits None others = (reason.StepWord, true) ∷ []
verb_faults n nodes circuits (Some v) others = (reason.StepWord, false) ∷ part_faults nodes (parts_of n circuits v) others

-- the word at a place after the first, counted from 0; no bytes where there is none
abbrev pub word_at : List (List ℕ) → ℕ → List ℕ
word_at others i = slice_index_or others i []

-- what the words stand for where they pass the checks
abbrev pub position_in_words : List ℕ → List (List ℕ) → Pos
position_in_words nodes others = unwrap_or (node_identified nodes (word_at others 0)) (record { 0 = 0 })

abbrev pub side_in_words : List (List ℕ) → Side
side_in_words others = unwrap_or (side_at (word_at others 1)) West

abbrev pub port_in_words : List Provisioned → List (List ℕ) → PortId
port_in_words circuits others = record {
  circuit = unwrap_or (circuit_named circuits (word_at others 0)) 0;
  end = unwrap_or (end_at (word_at others 1)) A;
}

abbrev pub turn_in_words : List (List ℕ) → Turn
turn_in_words others = unwrap_or (turn_at (word_at others 2)) Up

abbrev pub number_in_word : ℕ → ℕ → List ℕ → ℕ
number_in_word low high word = unwrap_or (numeral_in low high word) 0

-- the fibre that leaves the node on the side comes into the condition
abbrev pub fibre_step : List ℕ → List (List ℕ) → Condition → Step
fibre_step nodes others c = step.Fibre (record { at = position_in_words nodes others; side = side_in_words others; condition = c })

-- the side of the node gets the command
abbrev pub order_step : List ℕ → List (List ℕ) → Command → Step
order_step nodes others c = step.Order (position_in_words nodes others) (side_in_words others) c

-- the step that the words after the first give
abbrev pub verb_step : ℕ → List ℕ → List Provisioned → Verb → List (List ℕ) → Step
verb_step n nodes circuits verb.Cut others = fibre_step nodes others condition.Cut
verb_step n nodes circuits verb.Mend others = fibre_step nodes others condition.Clear
verb_step n nodes circuits verb.Degrade others = fibre_step nodes others (condition.Degraded (number_in_word 1 (3 * n) (word_at others 2)))
verb_step n nodes circuits verb.Forced others = order_step nodes others command.Forced
verb_step n nodes circuits verb.Manual others = order_step nodes others command.Manual
verb_step n nodes circuits verb.Clear others = order_step nodes others command.Clear
verb_step n nodes circuits verb.Moment others = step.Moment (record { 0 = number_in_word 0 1000000000 (word_at others 0) })
verb_step n nodes circuits verb.Settle others = step.Settle
verb_step n nodes circuits verb.Hold others = step.Hold (position_in_words nodes others) (number_in_word 1 100 (word_at others 1))
verb_step n nodes circuits verb.Slip others =
    step.Slip (port_in_words circuits others) (turn_in_words others) (number_in_word 1 16 (word_at others 3))

-- the checks of a step's words
unfoldable pub form_faults : ℕ → List ℕ → List Provisioned → List (List ℕ) → List Fault
form_faults n nodes circuits [] = (reason.StepForm, true) ∷ []
form_faults n nodes circuits (first ∷ others) =
    (reason.StepForm, list_any is_empty (first ∷ others)) ∷ verb_faults n nodes circuits (verb_of first) others

-- the step that a first word gives with those after it; any step where it isn't listed
abbrev pub told_step : ℕ → List ℕ → List Provisioned → Option Verb → List (List ℕ) → Step
told_step n nodes circuits first others = option_map_or (λ v. verb_step n nodes circuits v others) first step.Settle

-- the step that words give where they pass the checks
unfoldable pub form_step : ℕ → List ℕ → List Provisioned → List (List ℕ) → Step
form_step n nodes circuits [] = step.Settle
form_step n nodes circuits (first ∷ others) = told_step n nodes circuits (verb_of first) others

-- the step of a text, in the ring of these nodes and circuits at STM-n
abbrev pub step_of : ℕ → List ℕ → List Provisioned → List ℕ → Step
step_of n nodes circuits text = form_step n nodes circuits (words text)

-- what a script has led to before a step: the present moment, the number of settle steps, and for each port the number
-- of slips that it was given since the last of them
pub record Past : Type 0 where
  pub moment : ℕ
  pub settles : ℕ
  pub slips : PortId → ℕ

-- nothing has happened yet, and the present moment is 0
abbrev pub new_past : Past
new_past = record { moment = 0; settles = 0; slips = λ port. 0 }

-- the counts with more slips of a port
abbrev pub more_slips : PortId → ℕ → (PortId → ℕ) → PortId → ℕ
more_slips port count slips other = if same_port other port then slips other + count else slips other

-- what the script has led to after the step
abbrev pub after : Past → Step → Past
after past (step.Fibre event) = past
after past (step.Order at on c) = past
after past (step.Hold at turns) = past
after past (step.Slip port turn count) = record past { slips = more_slips port count past.slips }
after past (step.Moment m) = record past { moment = m.0 }
after past step.Settle = record past { settles = past.settles + 1; slips = λ port. 0 }

-- the step sets a moment below that one
abbrev pub sets_moment_back : ℕ → Step → Bool
sets_moment_back moment (step.Fibre event) = false
sets_moment_back moment (step.Order at on c) = false
sets_moment_back moment (step.Hold at turns) = false
sets_moment_back moment (step.Slip port turn count) = false
sets_moment_back moment (step.Moment m) = nat_lt m.0 moment
sets_moment_back moment step.Settle = false

-- the step runs rounds
abbrev pub is_settle : Step → Bool
is_settle (step.Fibre event) = false
is_settle (step.Order at on c) = false
is_settle (step.Hold at turns) = false
is_settle (step.Slip port turn count) = false
is_settle (step.Moment m) = false
is_settle step.Settle = true

-- with the step a port's slips since the last settle step are more than 16
abbrev pub is_too_many : (PortId → ℕ) → Step → Bool
is_too_many slips (step.Fibre event) = false
is_too_many slips (step.Order at on c) = false
is_too_many slips (step.Hold at turns) = false
is_too_many slips (step.Slip port turn count) = nat_lt 16 (slips port + count)
is_too_many slips (step.Moment m) = false
is_too_many slips step.Settle = false

-- the last step runs rounds
abbrev pub ends_settled : List Step → Bool
ends_settled steps = option_map_or is_settle (slice_get steps (length steps - 1)) false

-- the checks of a step against what the script has led to
unfoldable pub past_faults : Past → Step → List Fault
past_faults past this =
    (reason.MomentBack, sets_moment_back past.moment this)
    ∷ (reason.Slips, is_too_many past.slips this)
    ∷ (reason.Settles, is_settle this && nat_le 64 past.settles)
    ∷ []

-- all checks of the step that a text gives
abbrev pub step_faults : ℕ → List ℕ → List Provisioned → Past → List ℕ → List Fault
step_faults n nodes circuits past text = form_faults n nodes circuits (words text) ++ past_faults past (step_of n nodes circuits text)

-- the checks of the steps from this place on, one after the other
abbrev pub steps_checks : ℕ → List ℕ → List Provisioned → Past → ℕ → List Data → List Check
steps_checks n nodes circuits past place [] = []
steps_checks n nodes circuits past place (d ∷ ds) =
    checks_at_place place (step_faults n nodes circuits past (string_of d))
    ++ steps_checks n nodes circuits (after past (step_of n nodes circuits (string_of d))) (place + 1) ds
