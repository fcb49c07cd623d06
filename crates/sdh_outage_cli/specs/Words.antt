-- What the words of a command line ask for, and what is listed of a plan then. The words are this project's own.
use Rattle.std.specs.Prelude.{ℕ, List, [], ◌∷◌, codes, Option, Some, None, option_map, if◌then◌else◌}
use Rattle.std.specs.Str.{bytes_eq}
use Rattle.sdh_circuits.specs.Provisioning.{at_port}
use Rattle.sdh_circuits.specs.declared.End.{End}
use Rattle.sdh_plan.specs.Planned.{Planned, provisioning_of}
use Rattle.sdh_shell.specs.Calls.{end_lettered}
use Rattle.sdh_outage_cli.specs.declared.listing.OutageListing.{OutageListing}
use Rattle.sdh_outage_cli.specs.declared.listing.OutageListing.TheVariants as listing
use Rattle.sdh_outage_cli.specs.declared.words.Command.{Command}
use Rattle.sdh_outage_cli.specs.declared.words.Command.TheVariants as command

-- what the program is asked for: to run the plan and list the outages of all ports; or to run it and list the changes
-- of the port at that end of the circuit of this name
pub data OutageAsk : Type 0 where
  Run : OutageAsk
  Trace : List ℕ → End → OutageAsk

abbrev pub outage_ask_of : Command → OutageAsk
outage_ask_of command.Run = Run
outage_ask_of (command.Trace name end) = Trace name.now end

-- one word
abbrev pub asked_alone : List ℕ → Option OutageAsk
asked_alone word = if bytes_eq word (codes "run") then Some Run else None

-- a word, any name and the letter of an end
abbrev pub outage_asked_with_port : List ℕ → List ℕ → List ℕ → Option OutageAsk
outage_asked_with_port word name letter = if bytes_eq word (codes "trace") then option_map (Trace name) (end_lettered letter) else None

-- what the words ask for, where they have one of the two forms
abbrev pub asked : List (List ℕ) → Option OutageAsk
asked [] = None
asked (word ∷ []) = asked_alone word
asked (word ∷ name ∷ []) = None
asked (word ∷ name ∷ letter ∷ []) = outage_asked_with_port word name letter
asked (word ∷ name ∷ letter ∷ more ∷ others) = None

-- what is listed of a plan; none where a port is asked for by a name that no circuit of the plan has
abbrev pub listing_of : OutageAsk → Planned → Option OutageListing
listing_of Run plan = Some listing.Ports
listing_of (Trace name end) plan =
    option_map (λ circuit. listing.Trace (record { circuit = circuit; end = end })) (at_port (provisioning_of plan) name)
