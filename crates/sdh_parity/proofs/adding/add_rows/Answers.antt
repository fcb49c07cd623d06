use Rattle.std.proofs.Common.{◌≡◌, ◌*◌, get_or, ap, sym, ◌∙◌, arith, bit_xor}
use Rattle.std.specs.Int.Bits.{xor_zero_r}
use Rattle.sdh_basics.specs.Parity.{bip8}
use Rattle.sdh_basics.proofs.ParityLaws.{bip8-nil}
use Rattle.sdh_basics.proofs.CellsLaws.{cells-zero}
use Rattle.sdh_parity.specs.Parity.{every}
use Rattle.sdh_parity.proofs.adding.add_rows.Goals as goal

pub returns-else-rows-gt0 : goal.returns-else-rows-gt0
returns-else-rows-gt0 c = λ j h.
    let none : c.args.rows ≡ 0 = omega arith in
    sym (ap (λ r. bit_xor (get_or c.args.sums.now j 0) (bip8 (every j (3 * c.args.n) r c.args.bytes.now))) none
    ∙ ap (bit_xor (get_or c.args.sums.now j 0)) (ap bip8 (cells-zero _) ∙ bip8-nil) ∙ xor_zero_r (get_or c.args.sums.now j 0))
