use Rattle.std.proofs.Common.{ap, sym, ◌∙◌, bit_xor}
use Rattle.sdh_basics.specs.Parity.{bip8}
use Rattle.sdh_basics.proofs.ParityLaws.{bip8-append}
use Rattle.sdh_parity.proofs.pieces.Bip8.add.Goals as goal

pub returns : goal.returns
returns c =
    λ before e. ap (λ z. bit_xor z c.bip8.result) (c.self.view_is ∙ e) ∙ ap (bit_xor (bip8 before)) c.bip8.ensures
    ∙ sym (bip8-append before c.args.bytes.now)
