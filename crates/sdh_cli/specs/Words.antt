-- What the words of a command line ask for, and what is listed then. The words are this project's own.
use Rattle.std.specs.Prelude.{ℕ, ◌-◌, ◌^◌, List, [], ◌∷◌, codes, Option, Some, None, option_map, if◌then◌else◌}
use Rattle.std.specs.Str.{bytes_eq}
use Rattle.sdh_circuits.specs.Provisioning.{at_port}
use Rattle.sdh_circuits.specs.declared.End.{End}
use Rattle.sdh_plan.specs.Planned.{Planned, provisioning_of}
use Rattle.sdh_plan.specs.Words.{numeral_in}
use Rattle.sdh_report.specs.declared.listing.Listing.{Listing}
use Rattle.sdh_report.specs.declared.listing.Listing.TheVariants as listing
use Rattle.sdh_shell.specs.Calls.{end_lettered}
use Rattle.sdh_cli.specs.declared.words.Command.{Command}
use Rattle.sdh_cli.specs.declared.words.Command.TheVariants as command

-- What the program is asked for: to run the plan and report every settle step; to write the squelch tables of the plan;
-- to run the plan and write all that the port at that end of the circuit of this name delivers; or to run the large
-- plan of this number and count the ports that show bytes, and those that show AIS.
pub data Ask : Type 0 where
  Run : Ask
  Check : Ask
  Drop : List ℕ → End → Ask
  Big : ℕ → Ask

abbrev pub ask_of : Command → Ask
ask_of command.Run = Run
ask_of command.Check = Check
ask_of (command.Drop name end) = Drop name.now end
ask_of (command.Big number) = Big number

-- one word
abbrev pub asked_alone : List ℕ → Option Ask
asked_alone word = if bytes_eq word (codes "run") then Some Run else if bytes_eq word (codes "check") then Some Check else None

-- a word and a number, which is below 2 ^ 32
abbrev pub asked_with_number : List ℕ → List ℕ → Option Ask
asked_with_number word number = if bytes_eq word (codes "big") then option_map Big (numeral_in 0 (2 ^ 32 - 1) number) else None

-- a word, any name and the letter of an end
abbrev pub asked_with_port : List ℕ → List ℕ → List ℕ → Option Ask
asked_with_port word name letter = if bytes_eq word (codes "drop") then option_map (Drop name) (end_lettered letter) else None

-- what the words ask for, where they have one of the four forms
abbrev pub asked : List (List ℕ) → Option Ask
asked [] = None
asked (word ∷ []) = asked_alone word
asked (word ∷ number ∷ []) = asked_with_number word number
asked (word ∷ name ∷ letter ∷ []) = asked_with_port word name letter
asked (word ∷ name ∷ letter ∷ more ∷ others) = None

-- what is listed of each report; nothing for `check`, and where the plan has no circuit of the name that is asked for
abbrev pub listing_of : Ask → Planned → Option Listing
listing_of Run plan = Some listing.Reports
listing_of Check plan = None
listing_of (Drop name end) plan =
    option_map (λ circuit. listing.Port (record { circuit = circuit; end = end })) (at_port (provisioning_of plan) name)
listing_of (Big number) plan = Some listing.Counts
