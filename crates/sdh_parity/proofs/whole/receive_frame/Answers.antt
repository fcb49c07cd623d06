use Rattle.std.proofs.Common.{◌≡◌, ◌++◌, ◌*◌, ◌∙◌, arith, sym, ap, bit_xor, length}
use Rattle.std.proofs.lemmas.List.{drop_at, take_at, length-append}
use Rattle.sdh_basics.specs.Parity.{bip8}
use Rattle.sdh_basics.proofs.ParityLaws.{bip8-append}
use Rattle.sdh_parity.proofs.Frames.{covered-by, scrambled-behind}
use Rattle.sdh_parity.proofs.whole.receive_frame.Goals as goal

pub returns-clause-bytes : goal.returns-clause-bytes
returns-clause-bytes c =
    let split = c.split_at_mut-rest in
    scrambled-behind c.args.n c.args.bytes.now split.result.0.now c.pass-passed.new.bytes split.result.1.now split.ensures.value
    split.ensures.front_len c.pass-passed.auto.bytes c.pass-passed.ensures.bytes

pub returns-clause-line : goal.returns-clause-line
returns-clause-line c =
    let split = c.split_at_mut-rest in
    (λ i. bit_xor (c.bip8.ensures i) (c.pass-passed.ensures.line i))
    ∙ ap (λ l. bit_xor (bip8 l) (bip8 split.result.1.now)) (take_at split.result.0.now c.pass-passed.new.bytes _ split.ensures.front_len)
    ∙ sym (bip8-append split.result.0.now split.result.1.now)
    ∙ ap bip8 (sym split.ensures.value)

pub returns-clause-clear : goal.returns-clause-clear
returns-clause-clear c =
    let split = c.split_at_mut-rest in
    let long : length (split.result.0.now ++ c.pass-passed.new.bytes) ≡ 2430 * c.args.n =
    omega (
      arith,
      length-append split.result.0.now c.pass-passed.new.bytes,
      c.pass-passed.auto.bytes,
      split.ensures.front_len,
      split.ensures.back_len,
      c.requires.frame,
    ) in
    covered-by c.args.n (split.result.0.now ++ c.pass-passed.new.bytes) c.pass-passed.new.bytes c.pass-passed.result.lanes
    c.heads_of-clear.result c.add_lanes.new.sums long
    (omega (arith, c.requires.rate)) (omega (arith, c.requires.rate, c.add_lanes.auto.sums, c.heads_of-clear.ensures.long))
    (sym (drop_at split.result.0.now c.pass-passed.new.bytes _ split.ensures.front_len))
    c.pass-passed.ensures.small
    c.heads_of-clear.ensures.lanes c.pass-passed.ensures.lanes c.add_lanes.ensures
