use Rattle.std.proofs.Common.{ℕ, ◌+◌, ◌%◌, ◌<◌, List, length, get_or, ap, ◌∙◌, arith, bit_xor}
use Rattle.std.proofs.lemmas.List.{get_or-take, get_or-drop}
use Rattle.sdh_parity.specs.Scrambling.{scrambling_byte}
use Rattle.sdh_parity.proofs.Cutting.{two-parts}
use Rattle.sdh_parity.proofs.pieces.add_from.Goals as goal

pub returns : goal.returns
returns c =
    let old : List ℕ = c.args.bytes.now in
    let p = c.args.p in
    let first = c.first_block-first.result in
    let split = c.split_at_mut-head in
    two-parts p first old c.add_within.new.part c.add_sequence.new.bytes c.first_block-first.ensures.which c.first_block-first.ensures.few
    (c.add_within.auto.part ∙ split.ensures.front_len)
    (λ k h. let lt : k < length split.result.0.now = omega (arith, split.ensures.front_len) in c.add_within.ensures k lt
    ∙ ap (λ x. bit_xor x (scrambling_byte (p % 1016 + k))) (ap (λ l. get_or l k 0) split.ensures.front ∙ get_or-take first old k 0 h))
    (λ k h. let lt : k < length split.result.1.now = omega (arith, split.ensures.back_len) in c.add_sequence.ensures k lt
    ∙ ap (λ x. bit_xor x (scrambling_byte k)) (ap (λ l. get_or l k 0) split.ensures.back ∙ get_or-drop first old k 0))
