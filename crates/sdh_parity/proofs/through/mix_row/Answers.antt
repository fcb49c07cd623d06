use Rattle.std.proofs.Common.{◌+◌, get_or, ap, ◌∙◌, sym, arith, bit_xor, refl}
use Rattle.sdh_parity.proofs.Mixing.{row-inside, stays1, stays2, stays3, from2, from3, was2, was3, clear-at}
use Rattle.sdh_parity.proofs.through.mix_row.Goals as goal

pub returns-clause-inside : goal.returns-clause-inside
returns-clause-inside c =
    row-inside c.args.bytes.now c.step-a.new.bytes c.step-b.new.bytes c.step-c.new.bytes c.args.i c.args.k
    c.step-a.ensures.inside c.step-b.ensures.below
    (from2 c.args.bytes.now c.step-a.new.bytes c.step-b.new.bytes c.step-c.new.bytes c.args.i c.args.k c.step-a.ensures.above c.step-b.ensures.above c.step-b.ensures.inside c.step-c.ensures.inside)
    c.step-c.ensures.below (from3 c.args.bytes.now c.step-a.new.bytes c.step-b.new.bytes c.step-c.new.bytes c.args.i c.args.k c.step-a.ensures.above c.step-b.ensures.above c.step-b.ensures.inside c.step-c.ensures.inside)

pub returns-clause-a : goal.returns-clause-a
returns-clause-a c = λ j h.
    c.step-a.ensures.sum j h ∙ ap (bit_xor (get_or c.args.sums.a j 0))
    (clear-at c.args.clear_after c.step-a.new.bytes c.args.bytes.now c.step-c.new.bytes c.args.bytes.now (c.args.i + j) (c.args.i + j) (sym (stays1 c.args.bytes.now c.step-a.new.bytes c.step-b.new.bytes c.step-c.new.bytes c.args.i c.args.k
    c.step-a.ensures.inside c.step-b.ensures.below
    (from2 c.args.bytes.now c.step-a.new.bytes c.step-b.new.bytes c.step-c.new.bytes c.args.i c.args.k c.step-a.ensures.above c.step-b.ensures.above c.step-b.ensures.inside c.step-c.ensures.inside)
    c.step-c.ensures.below (from3 c.args.bytes.now c.step-a.new.bytes c.step-b.new.bytes c.step-c.new.bytes c.args.i c.args.k c.step-a.ensures.above c.step-b.ensures.above c.step-b.ensures.inside c.step-c.ensures.inside) j h)) refl)

pub returns-clause-b : goal.returns-clause-b
returns-clause-b c = λ j h.
    c.step-b.ensures.sum j h ∙ ap (bit_xor (get_or c.args.sums.b j 0))
    (clear-at c.args.clear_after c.step-b.new.bytes c.step-a.new.bytes c.step-c.new.bytes c.args.bytes.now (c.args.i + 16 + j) (c.args.i + (16 + j)) (sym (stays2 c.args.bytes.now c.step-a.new.bytes c.step-b.new.bytes c.step-c.new.bytes c.args.i c.args.k
    c.step-a.ensures.inside c.step-b.ensures.below
    (from2 c.args.bytes.now c.step-a.new.bytes c.step-b.new.bytes c.step-c.new.bytes c.args.i c.args.k c.step-a.ensures.above c.step-b.ensures.above c.step-b.ensures.inside c.step-c.ensures.inside)
    c.step-c.ensures.below (from3 c.args.bytes.now c.step-a.new.bytes c.step-b.new.bytes c.step-c.new.bytes c.args.i c.args.k c.step-a.ensures.above c.step-b.ensures.above c.step-b.ensures.inside c.step-c.ensures.inside) j h))
    (was2 c.args.bytes.now c.step-a.new.bytes c.step-b.new.bytes c.step-c.new.bytes c.args.i c.args.k c.step-a.ensures.above c.step-b.ensures.above c.step-b.ensures.inside c.step-c.ensures.inside j ∙ ap (λ m. get_or c.args.bytes.now m 0) (omega arith)))

pub returns-clause-c : goal.returns-clause-c
returns-clause-c c = λ j h.
    c.step-c.ensures.sum j h ∙ ap (bit_xor (get_or c.args.sums.c j 0))
    (clear-at c.args.clear_after c.step-c.new.bytes c.step-b.new.bytes c.step-c.new.bytes c.args.bytes.now (c.args.i + 32 + j) (c.args.i + (32 + j)) (sym (stays3 c.args.bytes.now c.step-a.new.bytes c.step-b.new.bytes c.step-c.new.bytes c.args.i c.args.k
    c.step-a.ensures.inside c.step-b.ensures.below
    (from2 c.args.bytes.now c.step-a.new.bytes c.step-b.new.bytes c.step-c.new.bytes c.args.i c.args.k c.step-a.ensures.above c.step-b.ensures.above c.step-b.ensures.inside c.step-c.ensures.inside)
    c.step-c.ensures.below (from3 c.args.bytes.now c.step-a.new.bytes c.step-b.new.bytes c.step-c.new.bytes c.args.i c.args.k c.step-a.ensures.above c.step-b.ensures.above c.step-b.ensures.inside c.step-c.ensures.inside) j))
    (was3 c.args.bytes.now c.step-a.new.bytes c.step-b.new.bytes c.step-c.new.bytes c.args.i c.args.k c.step-a.ensures.above c.step-b.ensures.above c.step-b.ensures.inside c.step-c.ensures.inside j ∙ ap (λ m. get_or c.args.bytes.now m 0) (omega arith)))
