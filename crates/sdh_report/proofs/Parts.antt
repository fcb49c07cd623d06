-- Texts with reserved room.
use Rattle.std.proofs.Common.{◌≡◌, ℕ, List, ◌+◌, ◌-◌, ◌*◌, ◌++◌, length, take, codes, decimal, arith, ap, ap₂, ◌∙◌, append_assoc, ◌≤◌}
use Rattle.std.proofs.lemmas.List.{length-append}
use Rattle.sdh_basics.specs.Hexadecimal.{hex_of}
use Rattle.sdh_basics.proofs.HexadecimalLaws.{length-hex_of}
use Rattle.sdh_circuits.specs.declared.End.{End}
use Rattle.sdh_report.specs.Lines.{port_named, chunk_line}
use Rattle.sdh_report.specs.Written.{Written, with_part, room_in}

-- texts with equal bytes and equal room are equal
pub same_text : (w : Written) (bytes : List ℕ) (room : ℕ) → w.bytes ≡ bytes → w.room ≡ room → w ≡ record { bytes = bytes; room = room }
same_text w bytes room e f =
    ap (λ (l : List ℕ). let x : Written = record { bytes = l; room = w.room } in x) e
    ∙ ap (λ (k : ℕ). let x : Written = record { bytes = bytes; room = k } in x) f

-- a part and the next one are one part, of the bytes of both
pub two_parts : (w : Written) (a b : List ℕ) → with_part (with_part w a) b ≡ with_part w (a ++ b)
two_parts w a b =
    let room : w.room - length a - length b ≡ w.room - length (a ++ b) = omega (arith, length-append a b) in
    ap₂ (λ l r. let x : Written = record { bytes = l; room = r } in x) (append_assoc w.bytes a b) room

pub length-chunk_line : (name : List ℕ) (end : End) (value : ℕ) (chunk : List ℕ)
    → length (chunk_line name end value chunk) ≡ length (port_named name end) + 6 + length (decimal value) + 1 + 2 * length
    (take 16 chunk) + 1
length-chunk_line name end value chunk =
    let p = port_named name end in
    let v = decimal value in
    let h = hex_of (take 16 chunk) in
    let norm = codes " norm " in
    let space = codes " " in
    omega (
      arith,
      length-append (p ++ norm ++ v ++ space ++ h) (codes "\n"),
      length-append (p ++ norm ++ v ++ space) h,
      length-append (p ++ norm ++ v) space,
      length-append (p ++ norm) v,
      length-append p norm,
      length-hex_of (take 16 chunk),
    )

-- a part takes its room, and no more
pub kept_part : (w : Written) (part : List ℕ) → length part ≤ w.room → room_in (with_part w part) ≡ room_in w
kept_part w part fits = omega (arith, fits, length-append w.bytes part)
