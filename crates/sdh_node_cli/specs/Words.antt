-- What the words of a command line ask for. The words are this project's own.
use Rattle.std.specs.Prelude.{ℕ, if◌then◌else◌, List, [], ◌∷◌, codes, Option, Some, None, option_map, option_and_then}
use Rattle.std.specs.Str.{bytes_eq}
use Rattle.sdh_plan.specs.Words.{numeral_in}
use Rattle.sdh_node_cli.specs.declared.words.Ask.{Ask}
use Rattle.sdh_node_cli.specs.declared.words.Mode.{Mode}
use Rattle.sdh_node_cli.specs.declared.words.Mode.TheVariants as mode

-- the mode that a word names
abbrev pub mode_named : List ℕ → Option Mode
mode_named word =
    if bytes_eq word (codes "lines") then Some mode.Lines else if bytes_eq word (codes "frames") then Some mode.Frames else None

-- what is asked of the node with an identifier, 0 to 15, in a mode
abbrev pub asked_as : List ℕ → Mode → Option Ask
asked_as id m = option_map (λ number. record { id = number; mode = m }) (numeral_in 0 15 id)

abbrev pub asked_with : List ℕ → List ℕ → Option Ask
asked_with id word = option_and_then (asked_as id) (mode_named word)

-- what the words ask for, where they have one of the two forms
abbrev pub asked : List (List ℕ) → Option Ask
asked [] = None
asked (id ∷ []) = asked_as id mode.Lines
asked (id ∷ word ∷ []) = asked_with id word
asked (id ∷ word ∷ more ∷ others) = None
