use Rattle.std.proofs.Common.{◌∙◌, arith, sym, bit_xor}
use Rattle.sdh_basics.proofs.ParityLaws.{bip8-append}
use Rattle.sdh_parity.proofs.Mixing.{all-small}
use Rattle.sdh_parity.proofs.Frames.{covered-by, scrambled-behind}
use Rattle.sdh_parity.proofs.whole.send_frame.Goals as goal

pub returns-clause-bytes : goal.returns-clause-bytes
returns-clause-bytes c =
    let split = c.split_at_mut-head in
    scrambled-behind c.args.n c.args.bytes.now split.result.0.now c.pass-passed.new.bytes split.result.1.now split.ensures.value
    split.ensures.front_len c.pass-passed.auto.bytes c.pass-passed.ensures.bytes

pub returns-clause-line : goal.returns-clause-line
returns-clause-line c =
    let split = c.split_at_mut-head in
    (λ i. bit_xor (c.bip8.ensures i) (c.pass-passed.ensures.line i)) ∙ sym (bip8-append split.result.0.now c.pass-passed.new.bytes)

pub returns-clause-clear : goal.returns-clause-clear
returns-clause-clear c =
    let split = c.split_at_mut-head in
    covered-by c.args.n c.args.bytes.now split.result.1.now c.pass-passed.result.lanes c.heads_of-clear.result c.add_lanes.new.sums
    c.requires.frame (omega (arith, c.requires.rate)) (omega (arith, c.requires.rate, c.add_lanes.auto.sums, c.heads_of-clear.ensures.long))
    split.ensures.back
    (all-small split.result.1.now c.pass-passed.new.bytes 0 c.pass-passed.ensures.bytes c.pass-passed.ensures.small)
    c.heads_of-clear.ensures.lanes c.pass-passed.ensures.lanes c.add_lanes.ensures
