use Rattle.std.proofs.Common.{ap, sym, ◌∙◌, arith, get_or, take, bit_xor}
use Rattle.std.proofs.lemmas.List.{take_all, take_more}
use Rattle.sdh_basics.specs.Parity.{bip8}
use Rattle.sdh_basics.proofs.ParityLaws.{bip8-nil, bip8-push}
use Rattle.sdh_parity.proofs.parity.bip8.Goals as goal

pub loop-byte-init : goal.loop-byte-init
loop-byte-init c = sym bip8-nil

pub loop-byte-preserved : goal.loop-byte-preserved
loop-byte-preserved c =
    let bytes = c.args.bytes.now in
    let i = c.loop-byte.byte-index in
    ap (λ p. bit_xor p (get_or bytes i 0)) c.loop-byte.invariant
    ∙ sym (bip8-push (take i bytes) (get_or bytes i 0) (omega (arith, c.type_inv.bytes i)))
    ∙ ap bip8 (sym (take_more bytes i 0 (omega arith)))

pub returns : goal.returns
returns c = c.loop-byte.invariant ∙ ap bip8 (take_all _ _ (omega arith))
