use Rattle.std.proofs.Common.{◌++◌, ◌≤◌, length, arith, ap, ◌∙◌}
use Rattle.std.proofs.lemmas.List.{take_all}
use Rattle.sdh_basics.specs.Hexadecimal.{hex_of}
use Rattle.sdh_basics.proofs.HexadecimalLaws.{length-hex_of}
use Rattle.sdh_report.proofs.Parts.{same_text}
use Rattle.sdh_report.proofs.text.Text.put_hex.Goals as goal

pub returns : goal.returns
returns c =
    let old = c.args.self.now in
    let bytes = c.args.bytes.now in
    let end : length bytes ≤ c.loop-byte.byte-index = omega (arith, c.loop-byte-test.false) in
    same_text c.loop-byte.self _ _
    (c.loop-byte.invariant.bytes ∙ ap (λ l. old.bytes ++ hex_of l) (take_all c.loop-byte.byte-index bytes end))
    (omega (arith, c.loop-byte.invariant.room, length-hex_of bytes, c.loop-byte.auto))
