-- How long lines are at most.
use Rattle.std.proofs.Common.{◌≡◌, ℕ, ◌+◌, ◌*◌, ◌^◌, ◌<◌, ◌≤◌, List, ◌++◌, length, codes, decimal, refl, ap, ◌∙◌, arith}
use Rattle.std.proofs.lemmas.List.{length-append}
use Rattle.sdh_basics.specs.Hexadecimal.{hex_of}
use Rattle.sdh_basics.proofs.HexadecimalLaws.{length-hex_of}
use Rattle.sdh_pointer.specs.declared.reading.Action.{Action}
use Rattle.sdh_pointer.specs.declared.reading.Action.TheVariants.{Normal, New, Up, Down, Ais}
use Rattle.sdh_retime_cli.specs.Lines.{action_word, turn_line, given_line, left_line, drift_line}
use Rattle.sdh_report.proofs.Short.{digits_64}

length-action_word : (a : Action) → length (action_word a) ≤ 5
length-action_word Ais = omega arith
length-action_word New = omega arith
length-action_word Normal = omega arith
length-action_word Up = omega arith
length-action_word Down = omega arith

pub turn_line_short : (number : ℕ) (a : Action) (fill : ℕ) → number < 2 ^ 64 → fill < 2 ^ 64 → length (turn_line number a fill) ≤ 96
turn_line_short number a fill hn hf =
    let n = decimal number in
    let w = action_word a in
    let f = decimal fill in
    let space = codes " " in
    omega (
      arith,
      length-append (n ++ space ++ w ++ space ++ f) (codes "\n"),
      length-append (n ++ space ++ w ++ space) f,
      length-append (n ++ space ++ w) space,
      length-append (n ++ space) w,
      length-append n space,
      digits_64 number hn,
      digits_64 fill hf,
      length-action_word a,
    )

given_short : (bytes : List ℕ) → length bytes ≤ 2352 → length (hex_of bytes ++ codes "\n") ≤ 4705
given_short bytes h = omega (arith, length-append (hex_of bytes) (codes "\n"), length-hex_of bytes)

pub given_line_short : (a : Action) (bytes : List ℕ) → length bytes ≤ 2352 → length (given_line a bytes) ≤ 4705
given_line_short Ais bytes h = omega arith
given_line_short New bytes h = given_short bytes h
given_line_short Normal bytes h = given_short bytes h
given_line_short Up bytes h = given_short bytes h
given_line_short Down bytes h = given_short bytes h

pub left_line_short : (n : ℕ) → n < 2 ^ 64 → length (left_line n) ≤ 96
left_line_short n h =
    omega (arith, length-append (codes "left " ++ decimal n) (codes "\n"), length-append (codes "left ") (decimal n), digits_64 n h)

pub drift_line_short : (n : ℕ) → n < 2 ^ 64 → length (drift_line n) ≤ 96
drift_line_short n h =
    omega (arith, length-append (codes "drift " ++ decimal n) (codes "\n"), length-append (codes "drift ") (decimal n), digits_64 n h)

-- every turn but the first gives bytes
pub given_line_other : (a : Action) (bytes : List ℕ) → (a ≡ Ais → ⊥) → given_line a bytes ≡ hex_of bytes ++ codes "\n"
given_line_other Ais bytes h = absurd (h refl)
given_line_other New bytes h = refl
given_line_other Normal bytes h = refl
given_line_other Up bytes h = refl
given_line_other Down bytes h = refl

pub length-given_line_other : (a : Action) (bytes : List ℕ) → (a ≡ Ais → ⊥) → length (given_line a bytes) ≡ 2 * length bytes + 1
length-given_line_other a bytes h =
    ap length (given_line_other a bytes h) ∙ length-append (hex_of bytes) (codes "\n") ∙ ap (λ (n : ℕ). n + 1) (length-hex_of bytes)
