-- The records of a stream, by their lines: the steps of a plan, without the word that names the node, and rounds. All
-- this is this project's own.
use Rattle.std.specs.Prelude.{◌≡◌, ℕ, ◌≤◌, ◌==◌, if◌then◌else◌, List, [], ◌∷◌, codes, Option, Some, None, option_map}
use Rattle.std.specs.Prelude.{Result, Ok, Err, slice_get}
use Rattle.std.specs.List.{list_any}
use Rattle.std.specs.Str.{bytes_eq}
use Rattle.std.specs.Option.{option_and_then}
use Rattle.sdh_ringmap.specs.declared.Pos.{Pos}
use Rattle.sdh_ringmap.specs.declared.Side.{Side}
use Rattle.sdh_circuits.specs.declared.PortId.{PortId}
use Rattle.sdh_circuits.specs.declared.End.{End}
use Rattle.sdh_circuits.specs.declared.End.TheVariants.{A, B}
use Rattle.sdh_circuits.specs.Ends.{port_id}
use Rattle.sdh_circuits.specs.Provisioned.{Provisioned}
use Rattle.sdh_payload.specs.declared.clock.Turn.{Turn}
use Rattle.sdh_request.specs.declared.Command.{Command}
use Rattle.sdh_request.specs.declared.Command.TheVariants as command
use Rattle.sdh_plan.specs.Words.{words, is_empty, numeral_in}
use Rattle.sdh_plan.specs.Steps.{side_at, turn_at, circuit_named}
use Rattle.sdh_plan.specs.declared.reason.Reason.{Reason}
use Rattle.sdh_plan.specs.declared.reason.Reason.TheVariants as reason
use Rattle.sdh_node_cli.specs.declared.record.Came.{Came}
use Rattle.sdh_node_cli.specs.declared.record.Came.TheVariants as came
use Rattle.sdh_node_cli.specs.declared.record.Record.{Record}
use Rattle.sdh_node_cli.specs.declared.record.Record.TheVariants as what
use Rattle.sdh_node_cli.specs.declared.record.Told.{Told}
use Rattle.sdh_node_cli.specs.declared.record.Told.TheVariants as told

-- ---- words

-- what came on a side, by its word
abbrev pub came_at : List ℕ → Option Came
came_at word =
    if bytes_eq word (codes "none") then Some came.Nothing
    else if bytes_eq word (codes "dark") then Some came.Dark
    else if bytes_eq word (codes "frame") then Some came.Frame
    else None

-- the end of a circuit that is at a position
abbrev pub end_here : Pos → Provisioned → Option End
end_here at c = if c.from.0 == at.0 then Some A else if c.to.0 == at.0 then Some B else None

-- the port that the circuit of this number has at a position
abbrev pub port_here : Pos → ℕ → Provisioned → Option PortId
port_here at number c = option_map (port_id number) (end_here at c)

-- the port that a circuit has at a position; the word is the name of the circuit
unfoldable pub own_port : List Provisioned → Pos → List ℕ → Option PortId
own_port circuits at word =
    option_and_then (λ number. option_and_then (port_here at number) (slice_get circuits number)) (circuit_named circuits word)

-- the value, or this reason where there is none
abbrev pub or_why : {X : Type 0} → Reason → Option X → Result X Reason
or_why why (Some x) = Ok x
or_why why None = Err why

abbrev pub when_ok : {X Y : Type 0} → (X → Y) → Result X Reason → Result Y Reason
when_ok f (Ok x) = Ok (f x)
when_ok f (Err why) = Err why

-- ---- the words after the first

-- a side
abbrev pub side_in : List (List ℕ) → Result Side Reason
side_in [] = Err reason.StepForm
side_in (word ∷ []) = or_why reason.StepSide (side_at word)
side_in (word ∷ more ∷ others) = Err reason.StepForm

-- a number in a range
abbrev pub number_in_words : ℕ → ℕ → List (List ℕ) → Result ℕ Reason
number_in_words low high [] = Err reason.StepForm
number_in_words low high (word ∷ []) = or_why reason.StepNumber (numeral_in low high word)
number_in_words low high (word ∷ more ∷ others) = Err reason.StepForm

abbrev pub command_in : Command → List (List ℕ) → Result Record Reason
command_in c others = when_ok (λ side. what.Told (told.Command side c)) (side_in others)

abbrev pub moment_in : List (List ℕ) → Result Record Reason
moment_in others = when_ok (λ number. what.Told (told.Moment (record { 0 = number }))) (number_in_words 0 1000000000 others)

abbrev pub hold_in : List (List ℕ) → Result Record Reason
hold_in others = when_ok (λ turns. what.Told (told.Hold turns)) (number_in_words 1 100 others)

-- slips of a port, by the port that the circuit's name gives, the direction and the number
abbrev pub slip_by : Option PortId → Option Turn → Option ℕ → Result Record Reason
slip_by None turn count = Err reason.SlipPort
slip_by (Some port) None count = Err reason.StepSide
slip_by (Some port) (Some turn) None = Err reason.StepNumber
slip_by (Some port) (Some turn) (Some count) = Ok (what.Told (told.Slip port turn count))

abbrev pub slip_in : List Provisioned → Pos → List (List ℕ) → Result Record Reason
slip_in circuits at [] = Err reason.StepForm
slip_in circuits at (name ∷ []) = Err reason.StepForm
slip_in circuits at (name ∷ turn ∷ []) = Err reason.StepForm
slip_in circuits at (name ∷ turn ∷ count ∷ []) = slip_by (own_port circuits at name) (turn_at turn) (numeral_in 1 16 count)
slip_in circuits at (name ∷ turn ∷ count ∷ more ∷ others) = Err reason.StepForm

-- a round, by what came from the west and from the east
abbrev pub round_by : Option Came → Option Came → Result Record Reason
round_by (Some west) (Some east) = Ok (what.Round west east)
round_by (Some west) None = Err reason.StepSide
round_by None east = Err reason.StepSide

abbrev pub round_in : List (List ℕ) → Result Record Reason
round_in [] = Err reason.StepForm
round_in (west ∷ []) = Err reason.StepForm
round_in (west ∷ east ∷ []) = round_by (came_at west) (came_at east)
round_in (west ∷ east ∷ more ∷ others) = Err reason.StepForm

-- ---- a record

-- the record of a line, by its first word and the words after it
abbrev pub record_by : List Provisioned → Pos → List ℕ → List (List ℕ) → Result Record Reason
record_by circuits at first others =
    if bytes_eq first (codes "round") then round_in others
    else if bytes_eq first (codes "forced") then command_in command.Forced others
    else if bytes_eq first (codes "manual") then command_in command.Manual others
    else if bytes_eq first (codes "clear") then command_in command.Clear others
    else if bytes_eq first (codes "moment") then moment_in others
    else if bytes_eq first (codes "hold") then hold_in others
    else if bytes_eq first (codes "slip") then slip_in circuits at others
    else Err reason.StepWord

unfoldable pub record_in : List Provisioned → Pos → List (List ℕ) → Result Record Reason
record_in circuits at [] = Err reason.StepForm
record_in circuits at (first ∷ others) = record_by circuits at first others

-- the record that a line is, or why it is none; a line with an empty word is none
unfoldable pub record_of : List Provisioned → Pos → List ℕ → Result Record Reason
record_of circuits at line = if list_any is_empty (words line) then Err reason.StepForm else record_in circuits at (words line)

-- ---- what is true of every record

-- the port is the one that its circuit has at this position
abbrev pub IsOwn : List Provisioned → Pos → PortId → Type 0
IsOwn circuits at port = (c : Provisioned) × (slice_get circuits port.circuit ≡ Some c) × (end_here at c ≡ Some port.end)

abbrev pub IsTold : List Provisioned → Pos → Told → Type 0
IsTold circuits at (told.Command side c) = Unit {0}
IsTold circuits at (told.Moment m) = m.0 ≤ 1000000000
IsTold circuits at (told.Hold turns) = (1 ≤ turns) × (turns ≤ 100)
IsTold circuits at (told.Slip port turn count) = IsOwn circuits at port × (count ≤ 16)

abbrev pub IsRecord : List Provisioned → Pos → Record → Type 0
IsRecord circuits at (what.Told t) = IsTold circuits at t
IsRecord circuits at (what.Round west east) = Unit {0}
