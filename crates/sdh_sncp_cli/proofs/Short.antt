-- The last lines of this program's own: they have room in 96 bytes, and three parts make one.
use Rattle.std.proofs.Common.{◌≡◌, ℕ, List, ◌-◌, ◌+◌, ◌^◌, ◌<◌, ◌≤◌, ◌++◌, length, codes, decimal, arith, append_assoc, ap, sym, ◌∙◌}
use Rattle.std.proofs.lemmas.List.{length-append}
use Rattle.std.proofs.lemmas.Fmt.{length-decimal-le}
use Rattle.sdh_report.specs.Written.{Written, with_part}
use Rattle.sdh_report.proofs.Parts.{same_text}
use Rattle.sdh_sncp_cli.specs.Endings.{same_slot_line, no_such_step_line}

pub short_step : (step : ℕ) → step < 2 ^ 32 → length (no_such_step_line step) ≤ 96
short_step step h =
    let a = codes "no such step " ++ decimal step in
    omega (
      arith,
      length-append a (codes "\n"),
      length-append (codes "no such step ") (decimal step),
      length-decimal-le 10 step (omega arith) (omega arith) (omega arith),
    )

pub short_slot : (first second : ℕ) → first < 2 ^ 8 → second < 2 ^ 8 → length (same_slot_line first second) ≤ 96
short_slot first second h k =
    let a = codes "same slot " ++ decimal (first + 1) in
    let b = a ++ codes " " in
    let d = b ++ decimal (second + 1) in
    omega (
      arith,
      length-append d (codes "\n"),
      length-append b (decimal (second + 1)),
      length-append a (codes " "),
      length-append (codes "same slot ") (decimal (first + 1)),
      length-decimal-le 3 (first + 1) (omega arith) (omega arith)
          (omega arith),
      length-decimal-le 3 (second + 1) (omega arith) (omega arith) (omega arith),
    )

-- one part after the other
pub three_parts : (w x y z : Written) (a b d : List ℕ) → x ≡ with_part w a → y ≡ with_part x b → z ≡ with_part y d
    → z ≡ with_part w ((a ++ b) ++ d)
three_parts w x y z a b d p q r =
    let bytes : z.bytes ≡ w.bytes ++ ((a ++ b) ++ d) =
    ap (λ (t : Written). t.bytes) r ∙ ap (λ (t : Written). t.bytes ++ d) q ∙ ap (λ (t : Written). (t.bytes ++ b) ++ d) p
    ∙ append_assoc (w.bytes ++ a) b d ∙ append_assoc w.bytes a (b ++ d) ∙ ap (λ l. w.bytes ++ l) (sym (append_assoc a b d)) in
    let room : z.room ≡ w.room - length ((a ++ b) ++ d) =
    omega (
      arith,
      ap (λ (t : Written). t.room) r,
      ap (λ (t : Written). t.room) q,
      ap (λ (t : Written). t.room) p,
      length-append (a ++ b) d,
      length-append a b,
    ) in
    same_text z _ _ bytes room
