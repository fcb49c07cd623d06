-- Each line is short: `LINE_MAX` bytes are room enough, and `CHUNK_MAX` for the lines of a chunk.
use Rattle.std.proofs.Common.{◌≡◌, ℕ, zero, suc, ◌+◌, ◌*◌, ◌^◌, ◌<◌, ◌≤◌, List, [], ◌∷◌, ◌++◌, length, drop, codes, decimal, arith, ap, ◌∙◌}
use Rattle.std.proofs.lemmas.List.{length-append, length-take}
use Rattle.std.proofs.lemmas.Fmt.{length-decimal-le}
use Rattle.sdh_basics.specs.Hexadecimal.{hex_of}
use Rattle.sdh_basics.proofs.HexadecimalLaws.{length-hex_of}
use Rattle.sdh_ringmap.specs.declared.Side.{Side}
use Rattle.sdh_ringmap.specs.declared.Side.TheVariants.{West, East}
use Rattle.sdh_circuits.specs.declared.Slot.{Slot}
use Rattle.sdh_circuits.specs.declared.End.{End}
use Rattle.sdh_circuits.specs.declared.End.TheVariants.{A, B}
use Rattle.sdh_payload.specs.declared.delivered.Delivered.{Delivered}
use Rattle.sdh_payload.specs.declared.delivered.Delivered.TheVariants.{Ais, Chunk}
use Rattle.sdh_report.specs.declared.node_line.StateWord.{StateWord}
use Rattle.sdh_report.specs.declared.node_line.StateWord.TheVariants as word
use Rattle.sdh_report.specs.declared.node_line.NodeLine.{NodeLine}
use Rattle.sdh_report.specs.declared.text.TheConstants.{LINE_MAX, CHUNK_MAX}
use Rattle.sdh_status.specs.declared.Status.{Status}
use Rattle.sdh_status.specs.declared.Status.TheVariants as status
use Rattle.sdh_report.specs.Lines.{step_ended, settle_line, state_text, word_text, node_line, end_letter, port_named, port_line, row}
use Rattle.sdh_report.specs.Lines.{row_line, chunk_rows, drop_lines, side_text, table_place, table_ends, table_line, count_line}
use Rattle.sdh_report.specs.Statuses.{last_line}
use Rattle.sdh_report.proofs.Parts.{length-chunk_line}
use Rattle.sdh_report.proofs.Rows.{rows_more, rows_none}

-- a byte has at most 3 digits, 16 bits have at most 5, 32 bits 10, and 64 bits 20
pub digits_8 : (n : ℕ) → n < 2 ^ 8 → length (decimal n) ≤ 3
digits_8 n h = length-decimal-le 3 n (omega arith) (omega arith) (omega arith)

digits_16 : (n : ℕ) → n < 2 ^ 16 → length (decimal n) ≤ 5
digits_16 n h = length-decimal-le 5 n (omega arith) (omega arith) (omega arith)

pub digits_32 : (n : ℕ) → n < 2 ^ 32 → length (decimal n) ≤ 10
digits_32 n h = length-decimal-le 10 n (omega arith) (omega arith) (omega arith)

pub digits_64 : (n : ℕ) → n < 2 ^ 64 → length (decimal n) ≤ 20
digits_64 n h = length-decimal-le 20 n (omega arith) (omega arith) h

short-step_ended : (number round : ℕ) → number < 2 ^ 32 → round < 2 ^ 64 → length (step_ended number round) ≤ 44
short-step_ended number round hn hr =
    let a = codes "settle " in
    let b = codes " round " in
    omega (
      arith,
      length-append (a ++ decimal number ++ b) (decimal round),
      length-append (a ++ decimal number) b,
      length-append a (decimal number),
      digits_32 number hn,
      digits_64 round hr,
    )

pub short-settle_line : (number round : ℕ) → number < 2 ^ 32 → round < 2 ^ 64 → length (settle_line number round) ≤ LINE_MAX
short-settle_line number round hn hr =
    omega (arith, length-append (step_ended number round) (codes "\n"), short-step_ended number round hn hr)

pub short-state_text : (s : StateWord) → length (state_text s) ≤ 11
short-state_text word.Idle = omega arith
short-state_text word.Pass = omega arith
short-state_text word.SwitchWest = omega arith
short-state_text word.SwitchEast = omega arith
short-state_text word.Isolated = omega arith

pub short-node_line : (l : NodeLine) → l.id < 2 ^ 8 → length (node_line l) ≤ LINE_MAX
short-node_line l h =
    let a = codes "node " ++ decimal l.id in
    let b = a ++ codes " " in
    let c = b ++ state_text l.state in
    let d = c ++ codes " west " in
    let e = d ++ word_text l.west in
    let f = e ++ codes " east " in
    let g = f ++ word_text l.east in
    omega (
      arith,
      length-append g (codes "\n"),
      length-append f (word_text l.east),
      length-append e (codes " east "),
      length-append d (word_text l.west),
      length-append c (codes " west "),
      length-append b (state_text l.state),
      length-append a (codes " "),
      length-append (codes "node ") (decimal l.id),
      digits_8 l.id h,
      short-state_text l.state,
    )

pub length-end_letter : (end : End) → length (end_letter end) ≡ 1
length-end_letter A = omega arith
length-end_letter B = omega arith

pub length-port_named : (name : List ℕ) (end : End) → length (port_named name end) ≡ 7 + length name
length-port_named name end =
    let a = codes "port " in
    omega (
      arith,
      length-append (a ++ name ++ codes " ") (end_letter end),
      length-append (a ++ name) (codes " "),
      length-append a name,
      length-end_letter end,
    )

pub short-port_line : (name : List ℕ) (end : End) (delivered : Delivered) (value : ℕ) → length name ≤ 16 → value < 2 ^ 16
    → length (port_line name end delivered value) ≤ LINE_MAX
short-port_line name end Ais value hn hv = omega (arith, length-append (port_named name end) (codes " ais\n"), length-port_named name end)
short-port_line name end (Chunk chunk) value hn hv =
    omega (arith, length-chunk_line name end value chunk, length-port_named name end, length-take 16 chunk, digits_16 value hv)

short-row_line : (bytes : List ℕ) → length bytes ≤ 261 → length (row_line bytes) ≤ 523
short-row_line [] h = omega arith
short-row_line (b ∷ bytes) h = omega (arith, length-append (hex_of (b ∷ bytes)) (codes "\n"), length-hex_of (b ∷ bytes))

short-rows : (chunk : List ℕ) (n : ℕ) → length (chunk_rows chunk n) ≤ 523 * n
short-rows chunk zero = omega (arith, ap (λ (l : List ℕ). length l) (rows_none chunk))
short-rows chunk (suc n) =
    let more : length (chunk_rows chunk (n + 1)) ≡ length (chunk_rows chunk n) + length (row_line (row chunk n)) =
    ap (λ (l : List ℕ). length l) (rows_more chunk n) ∙ length-append (chunk_rows chunk n) (row_line (row chunk n)) in
    let e : suc n ≡ n + 1 = omega arith in
    let few : length (row chunk n) ≤ 261 = omega (arith, length-take 261 (drop (261 * n) chunk)) in
    omega (arith, short-rows chunk n, more, short-row_line (row chunk n) few, ap (λ j. length (chunk_rows chunk j)) e)

pub short-drop_lines : (delivered : Delivered) → length (drop_lines delivered) ≤ CHUNK_MAX
short-drop_lines Ais = omega arith
short-drop_lines (Chunk chunk) = omega (arith, short-rows chunk 9)

short-side_text : (d : Side) → length (side_text d) ≤ 4
short-side_text West = omega arith
short-side_text East = omega arith

pub short-table_line : (id : ℕ) (d : Side) (slot : Slot) (name : List ℕ) (from to : ℕ) → id < 2 ^ 8 → slot.0 < 2 ^ 8 → length name ≤ 16
    → from < 2 ^ 8 → to < 2 ^ 8 → length (table_line id d slot name from to) ≤ LINE_MAX
short-table_line id d slot name from to hid hslot hname hfrom hto =
    let a = codes "node " ++ decimal id in
    let b = a ++ codes " " in
    let c = b ++ side_text d in
    let p = c ++ codes " slot " in
    let place = table_place id d slot in
    let x = codes " " ++ decimal from in
    let y = x ++ codes " " in
    let z = y ++ decimal to in
    omega (
      arith,
      length-append (place ++ codes " " ++ name) (table_ends from to),
      length-append (place ++ codes " ") name,
      length-append place (codes " "),
      length-append p (decimal slot.0),
      length-append c (codes " slot "),
      length-append b (side_text d),
      length-append a (codes " "),
      length-append (codes "node ") (decimal id),
      length-append z (codes "\n"),
      length-append y (decimal to),
      length-append x (codes " "),
      length-append (codes " ") (decimal from),
      short-side_text d,
      digits_8 id hid,
      digits_8 slot.0 hslot,
      digits_8 from hfrom,
      digits_8 to hto,
    )

pub short-count_line : (number round norm ais : ℕ) → number < 2 ^ 32 → round < 2 ^ 64 → norm < 2 ^ 32 → ais < 2 ^ 32
    → length (count_line number round norm ais) ≤ LINE_MAX
short-count_line number round norm ais hn hr hc ha =
    let a = step_ended number round in
    let b = a ++ codes " norm " in
    let c = b ++ decimal norm in
    let d = c ++ codes " ais " in
    let e = d ++ decimal ais in
    omega (
      arith,
      length-append e (codes "\n"),
      length-append d (decimal ais),
      length-append c (codes " ais "),
      length-append b (decimal norm),
      length-append a
          (codes " norm "),
      short-step_ended number round hn hr,
      digits_32 norm hc,
      digits_32 ais ha,
    )

-- the numbers of a status, as they are held
abbrev pub HasRoom : Status → Type 0
HasRoom (status.BadPlan reason place) = (reason < 2 ^ 8) × (place < 2 ^ 32)
HasRoom (status.Unsettled k) = k < 2 ^ 32
HasRoom _ = Unit {0}

pub short-last_line : (s : Status) → HasRoom s → length (last_line s) ≤ LINE_MAX
short-last_line status.Ok h = omega arith
short-last_line status.Usage h = omega arith
short-last_line status.ReadFault h = omega arith
short-last_line status.WriteFault h = omega arith
short-last_line status.NotToml h = omega arith
short-last_line (status.BadPlan reason place) h =
    let a = codes "bad plan " ++ decimal reason in
    let b = a ++ codes " at " in
    let c = b ++ decimal place in
    omega (
      arith,
      length-append c (codes "\n"),
      length-append b (decimal place),
      length-append a (codes " at "),
      length-append (codes "bad plan ") (decimal reason),
      digits_8 reason h.0,
      digits_32 place h.1,
    )
short-last_line (status.Unsettled k) h =
    let a = codes "unsettled " ++ decimal k in
    omega (arith, length-append a (codes "\n"), length-append (codes "unsettled ") (decimal k), digits_32 k h)
short-last_line status.PlantFault h = omega arith
short-last_line status.TooLong h = omega arith
short-last_line status.NoSuchPort h = omega arith
short-last_line status.Memory h = omega arith
