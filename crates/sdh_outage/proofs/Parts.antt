-- Parts of lines, put one after the other.
use Rattle.std.proofs.Common.{◌≡◌, ℕ, ◌*◌, ◌/◌, ◌%◌, List, ◌++◌, codes, decimal, ap, ap₂, sym, ◌∙◌, append_assoc, arith}
use Rattle.sdh_report.specs.Written.{Written, with_part}
use Rattle.sdh_report.proofs.Parts.{two_parts}
use Rattle.sdh_outage.specs.Lines.{three_digits, ms_text}

-- a text with one part more
pub next_part : (w v u : Written) (a b : List ℕ) → v ≡ with_part w a → u ≡ with_part v b → u ≡ with_part w (a ++ b)
next_part w v u a b first then = then ∙ ap (λ (x : Written). with_part x b) first ∙ two_parts w a b

-- a text with a word and a number more
pub next_count : (w v u : Written) (a word number : List ℕ) → v ≡ with_part w a → u ≡ with_part v (word ++ number)
    → u ≡ with_part w ((a ++ word) ++ number)
next_count w v u a word number first then =
    next_part w v u a (word ++ number) first then ∙ ap (with_part w) (sym (append_assoc a word number))

-- eight rounds of 125 us are a millisecond
pub ms_is : (rounds : ℕ) → decimal (rounds / 8) ++ codes "." ++ three_digits (rounds % 8 * 125) ≡ ms_text (125 * rounds)
ms_is rounds =
    let whole : rounds / 8 ≡ 125 * rounds / 1000 = omega arith in
    let rest : rounds % 8 * 125 ≡ 125 * rounds % 1000 = omega arith in
    ap₂ (λ m u. decimal m ++ codes "." ++ three_digits u) whole rest
