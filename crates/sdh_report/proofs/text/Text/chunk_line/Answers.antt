use Rattle.std.proofs.Common.{◌≡◌, ℕ, List, length, take, decimal, arith, ap}
use Rattle.sdh_report.specs.Written.{Written}
use Rattle.sdh_report.proofs.Parts.{length-chunk_line}
use Rattle.sdh_report.proofs.text.Text.chunk_line.Goals as goal

pub put_hex-requires : goal.put_hex-requires
put_hex-requires c =
    let room : Written → ℕ = λ w. w.room in
    let number : length (decimal c.from.result) ≡ length (decimal c.args.value) = ap (λ n. length (decimal n)) c.from.ensures in
    let first : length c.first_bytes.result.now ≡ length (take 16 c.args.chunk.now) = ap (λ (l : List ℕ). length l) c.first_bytes.ensures in
    omega (
      arith,
      c.requires,
      length-chunk_line c.args.name.now c.args.end c.args.value c.args.chunk.now,
      ap room c.put_port.ensures,
      ap room c.put.ensures,
      ap room c.put_number.ensures,
      ap room c.put-2.ensures,
      number,
      first,
    )
