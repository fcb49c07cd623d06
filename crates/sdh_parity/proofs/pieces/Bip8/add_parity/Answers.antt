use Rattle.std.proofs.Common.{ap, sym, ◌∙◌, bit_xor}
use Rattle.sdh_basics.specs.Parity.{bip8}
use Rattle.sdh_basics.proofs.ParityLaws.{bip8-append}
use Rattle.sdh_parity.proofs.pieces.Bip8.add_parity.Goals as goal

pub returns : goal.returns
returns c =
    λ before bytes e is. ap (λ z. bit_xor z c.args.parity) (c.self.view_is ∙ e) ∙ ap (bit_xor (bip8 before)) is
    ∙ sym (bip8-append before bytes)
