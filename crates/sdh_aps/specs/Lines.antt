-- The line that shows how a node signals in a round. Numbers are decimal, the bytes of words hexadecimal, and the line
-- ends with one newline byte. The texts are this project's own.
use Rattle.std.specs.Prelude.{ℕ, List, ◌++◌, codes, decimal, Option, Some, None}
use Rattle.sdh_ringmap.specs.declared.terms.Code.{Code}
use Rattle.sdh_ringmap.specs.declared.terms.Code.TheVariants.{Nr, Rr, Wtr, Ms, Sd, Sf, Fs}
use Rattle.sdh_kbytes.specs.declared.K.{K}
use Rattle.sdh_report.specs.Lines.{state_text, word_text}
use Rattle.sdh_aps.specs.declared.shown.Shown.{Shown}

-- the letters of a request code
abbrev pub code_text : Code → List ℕ
code_text Nr = codes "nr"
code_text Rr = codes "rr"
code_text Wtr = codes "wtr"
code_text Ms = codes "ms"
code_text Sd = codes "sd"
code_text Sf = codes "sf"
code_text Fs = codes "fs"

-- the identifier of the far end, or `-` where there is none
abbrev pub far_text : Option ℕ → List ℕ
far_text None = codes "-"
far_text (Some id) = decimal id

-- the two bytes of the word that is heard, or `- -` where none is
abbrev pub heard_text : Option K → List ℕ
heard_text None = codes "- -"
heard_text (Some w) = word_text w

-- the state, the far end and the words sent
abbrev pub sent_text : Shown → List ℕ
sent_text s =
    state_text s.state ++ codes " far " ++ far_text s.far ++ codes " west " ++ word_text s.sent.west ++ codes " east "
    ++ word_text s.sent.east

-- the words heard and the requests, west before east
abbrev pub heard_and_asked_text : Shown → List ℕ
heard_and_asked_text s =
    codes " heard " ++ heard_text s.heard_west ++ codes " " ++ heard_text s.heard_east ++ codes " asks " ++ code_text s.asks_west
    ++ codes " " ++ code_text s.asks_east

-- the round, and the identifier of the node
abbrev pub node_place_text : ℕ → ℕ → List ℕ
node_place_text round id = codes "round " ++ decimal round ++ codes " node " ++ decimal id ++ codes " "

-- the line of the node with this identifier in a round
abbrev pub signal_line : ℕ → ℕ → Shown → List ℕ
signal_line round id s = node_place_text round id ++ sent_text s ++ heard_and_asked_text s ++ codes "\n"
