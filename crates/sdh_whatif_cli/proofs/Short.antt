-- Parts of a line are short.
use Rattle.std.proofs.Common.{◌≡◌, ℕ, ◌+◌, ◌<◌, ◌≤◌, List, ◌++◌, length, decimal, ap, ◌∙◌, arith}
use Rattle.std.proofs.lemmas.List.{length-append}
use Rattle.std.proofs.lemmas.Fmt.{length-decimal-le}

-- an identifier has at most 2 digits, 16 bits have at most 5, 64 bits at most 20
pub digits_id : (n : ℕ) → n < 16 → length (decimal n) ≤ 2
digits_id n h = length-decimal-le 2 n (omega arith) (omega arith) (omega arith)

pub digits_16 : (n : ℕ) → n < 65536 → length (decimal n) ≤ 5
digits_16 n h = length-decimal-le 5 n (omega arith) (omega arith) (omega arith)

pub digits_64 : (n : ℕ) → n < 18446744073709551616 → length (decimal n) ≤ 20
digits_64 n h = length-decimal-le 20 n (omega arith) (omega arith) (omega arith)

-- a line with a short part more
pub grown : (old new part : List ℕ) (k : ℕ) → new ≡ old ++ part → length part ≤ k → length new ≤ length old + k
grown old new part k is short = let l : length new ≡ length old + length part =
    ap (λ (x : List ℕ). length x) is ∙ length-append old part in omega (arith, l, short)
