-- The lines of the program's texts. Numbers are decimal, and each line ends with one newline byte. The texts are this
-- project's own.
use Rattle.std.specs.Prelude.{ℕ, ◌*◌, List, [], ◌∷◌, ◌++◌, codes, decimal, take, drop}
use Rattle.std.specs.List.{flat_map}
use Rattle.sdh_basics.specs.Cells.{cells}
use Rattle.sdh_basics.specs.Hexadecimal.{hex_of}
use Rattle.sdh_ringmap.specs.declared.Side.{Side}
use Rattle.sdh_ringmap.specs.declared.Side.TheVariants.{West, East}
use Rattle.sdh_kbytes.specs.declared.K.{K}
use Rattle.sdh_kbytes.specs.KBytes.{first_byte, second_byte}
use Rattle.sdh_nodestate.specs.declared.NodeState.{NodeState}
use Rattle.sdh_nodestate.specs.declared.NodeState.TheVariants as state
use Rattle.sdh_circuits.specs.declared.End.{End}
use Rattle.sdh_circuits.specs.declared.End.TheVariants.{A, B}
use Rattle.sdh_circuits.specs.declared.Slot.{Slot}
use Rattle.sdh_payload.specs.declared.delivered.Delivered.{Delivered}
use Rattle.sdh_payload.specs.declared.delivered.Delivered.TheVariants.{Ais, Chunk}
use Rattle.sdh_payload.specs.declared.delivered.Front.{Front}
use Rattle.sdh_payload.specs.declared.delivered.Front.TheVariants as front
use Rattle.sdh_report.specs.declared.node_line.StateWord.{StateWord}
use Rattle.sdh_report.specs.declared.node_line.StateWord.TheVariants as word
use Rattle.sdh_report.specs.declared.node_line.NodeLine.{NodeLine}

-- a line of the caller's own
abbrev pub own_line : List ℕ → List ℕ
own_line line = line ++ codes "\n"

-- how the lines of a settle step begin: its number and its last round
abbrev pub step_ended : ℕ → ℕ → List ℕ
step_ended number round = codes "settle " ++ decimal number ++ codes " round " ++ decimal round

-- the line of a settle step that has ended
abbrev pub settle_line : ℕ → ℕ → List ℕ
settle_line number round = step_ended number round ++ codes "\n"

-- ---- a node

-- the name of a state
abbrev pub state_text : StateWord → List ℕ
state_text word.Idle = codes "idle"
state_text word.Pass = codes "pass"
state_text word.SwitchWest = codes "switch-west"
state_text word.SwitchEast = codes "switch-east"
state_text word.Isolated = codes "isolated"

-- the name of a node's state
abbrev pub state_word : NodeState → StateWord
state_word (state.Idle x) = word.Idle
state_word (state.PassThrough x) = word.Pass
state_word (state.SwitchWest far) = word.SwitchWest
state_word (state.SwitchEast far) = word.SwitchEast
state_word (state.Isolated x) = word.Isolated

-- the bytes K1 and K2 of a K word, two hexadecimal digits each
abbrev pub word_text : K → List ℕ
word_text k = hex_of (first_byte k ∷ []) ++ codes " " ++ hex_of (second_byte k ∷ [])

-- the line of a node: its identifier, the name of its state, and the K words that it sent last
abbrev pub node_line : NodeLine → List ℕ
node_line l =
    codes "node " ++ decimal l.id ++ codes " " ++ state_text l.state ++ codes " west " ++ word_text l.west ++ codes " east "
    ++ word_text l.east ++ codes "\n"

-- ---- a port

-- the letter of a port
abbrev pub end_letter : End → List ℕ
end_letter A = codes "a"
end_letter B = codes "b"

-- how each line of a port begins: the circuit's name and the letter of the port
abbrev pub port_named : List ℕ → End → List ℕ
port_named name end = codes "port " ++ name ++ codes " " ++ end_letter end

-- the line of a port that delivers a chunk: the pointer value that the chunk came with, and its first 16 bytes in
-- hexadecimal
abbrev pub chunk_line : List ℕ → End → ℕ → List ℕ → List ℕ
chunk_line name end value chunk =
    port_named name end ++ codes " norm " ++ decimal value ++ codes " " ++ hex_of (take 16 chunk) ++ codes "\n"

-- the line of a port that delivers AIS
abbrev pub ais_line : List ℕ → End → List ℕ
ais_line name end = port_named name end ++ codes " ais\n"

-- the line of a port, by what it delivers; for AIS the pointer value isn't used
abbrev pub port_line : List ℕ → End → Delivered → ℕ → List ℕ
port_line name end Ais value = ais_line name end
port_line name end (Chunk chunk) value = chunk_line name end value chunk

-- the line of a port, by the front of what it delivers
abbrev pub front_line : List ℕ → End → Front → List ℕ
front_line name end front.Ais = ais_line name end
front_line name end (front.Bytes bytes value) = chunk_line name end value bytes

-- The bytes of a chunk in row i, counted from 0. A chunk of 2349 bytes has nine rows of 261 bytes, as a VC-4 has (ITU-T
-- G.707). Of a longer chunk only the first nine rows are listed; a shorter one has nine rows or fewer.
abbrev pub row : List ℕ → ℕ → List ℕ
row chunk i = take 261 (drop (261 * i) chunk)

-- the line of a row of bytes; none where the row is empty
abbrev pub row_line : List ℕ → List ℕ
row_line [] = []
row_line (b ∷ bytes) = hex_of (b ∷ bytes) ++ codes "\n"

-- the lines of the first n rows of a chunk
abbrev pub chunk_rows : List ℕ → ℕ → List ℕ
chunk_rows chunk n = flat_map row_line (cells (row chunk) n)

-- the lines of all that a port delivers
abbrev pub drop_lines : Delivered → List ℕ
drop_lines Ais = codes "ais\n"
drop_lines (Chunk chunk) = chunk_rows chunk 9

-- ---- a squelch table

abbrev pub side_text : Side → List ℕ
side_text West = codes "west"
side_text East = codes "east"

-- how a line of a squelch table begins: the identifier of the node, the side and the slot
abbrev pub table_place : ℕ → Side → Slot → List ℕ
table_place id side slot = codes "node " ++ decimal id ++ codes " " ++ side_text side ++ codes " slot " ++ decimal slot.0

-- how a line of a squelch table ends: the identifiers of the nodes at the circuit's ends
abbrev pub table_ends : ℕ → ℕ → List ℕ
table_ends from to = codes " " ++ decimal from ++ codes " " ++ decimal to ++ codes "\n"

-- the line of the circuit of this name in a squelch table, at this node, side and slot, between these two nodes
abbrev pub table_line : ℕ → Side → Slot → List ℕ → ℕ → ℕ → List ℕ
table_line id side slot name from to = table_place id side slot ++ codes " " ++ name ++ table_ends from to

-- ---- counts

-- settle step `number` has ended with round `round`, in which `norm` ports delivered a chunk and `ais` ports AIS
abbrev pub count_line : ℕ → ℕ → ℕ → ℕ → List ℕ
count_line number round norm ais = step_ended number round ++ codes " norm " ++ decimal norm ++ codes " ais " ++ decimal ais ++ codes "\n"
