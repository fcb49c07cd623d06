-- Lines are short.
use Rattle.std.proofs.Common.{ℕ, ◌^◌, ◌<◌, ◌≤◌, ◌++◌, length, codes, decimal, arith}
use Rattle.std.proofs.lemmas.List.{length-append}
use Rattle.std.proofs.lemmas.Fmt.{length-decimal-le}
use Rattle.sdh_node_cli.specs.Endings.{bad_record_text}
use Rattle.sdh_node_cli.specs.Bench.{bytes_line}

pub short_bad : (why number : ℕ) → why < 2 ^ 8 → number < 2 ^ 64 → length (bad_record_text why number) ≤ 96
short_bad why number h k =
    let a = codes "bad record " ++ decimal why in
    let b = a ++ codes " at " in
    let d = b ++ decimal number in
    omega (
      arith,
      length-append d (codes "\n"),
      length-append b (decimal number),
      length-append a (codes " at "),
      length-append (codes "bad record ") (decimal why),
      length-decimal-le 3 why (omega arith) (omega arith) (omega arith),
      length-decimal-le 20 number (omega arith) (omega arith) k,
    )

pub short_count : (count : ℕ) → count < 2 ^ 64 → length (bytes_line count) ≤ 32
short_count count h =
    let a = codes "bytes " ++ decimal count in
    omega (
      arith,
      length-append a (codes "\n"),
      length-append (codes "bytes ") (decimal count),
      length-decimal-le 20 count (omega arith) (omega arith) h,
    )
