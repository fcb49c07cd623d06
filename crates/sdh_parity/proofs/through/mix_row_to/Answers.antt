use Rattle.std.proofs.Common.{◌+◌, get_or, ap, ◌∙◌, arith, refl, sym}
use Rattle.sdh_parity.proofs.Mixing.{row-inside, stays1, stays2, stays3, clear-at}
use Rattle.sdh_parity.proofs.through.mix_row_to.Goals as goal

pub returns-clause-inside : goal.returns-clause-inside
returns-clause-inside c =
    row-inside c.args.from.now c.step_to-a.new.to c.step_to-b.new.to c.step_to-c.new.to c.args.i c.args.k
    c.step_to-a.ensures.inside c.step_to-b.ensures.below c.step_to-b.ensures.inside c.step_to-c.ensures.below
    c.step_to-c.ensures.inside

pub returns-clause-a : goal.returns-clause-a
returns-clause-a c = λ j h.
    c.step_to-a.ensures.clear j h
    ∙ clear-at c.args.clear_after c.step_to-a.new.to c.args.from.now c.step_to-c.new.to c.args.from.now (c.args.i + j) (c.args.i + j)
    (sym (stays1 c.args.from.now c.step_to-a.new.to c.step_to-b.new.to c.step_to-c.new.to c.args.i c.args.k
    c.step_to-a.ensures.inside c.step_to-b.ensures.below c.step_to-b.ensures.inside c.step_to-c.ensures.below
    c.step_to-c.ensures.inside j h)) refl

pub returns-clause-b : goal.returns-clause-b
returns-clause-b c = λ j h.
    c.step_to-b.ensures.clear j h
    ∙ clear-at c.args.clear_after c.step_to-b.new.to c.args.from.now c.step_to-c.new.to c.args.from.now (c.args.i + 16 + j) (c.args.i + (16 + j))
    (sym (stays2 c.args.from.now c.step_to-a.new.to c.step_to-b.new.to c.step_to-c.new.to c.args.i c.args.k
    c.step_to-a.ensures.inside c.step_to-b.ensures.below c.step_to-b.ensures.inside c.step_to-c.ensures.below
    c.step_to-c.ensures.inside j h)) (ap (λ m. get_or c.args.from.now m 0) (omega arith))

pub returns-clause-c : goal.returns-clause-c
returns-clause-c c = λ j h.
    c.step_to-c.ensures.clear j h
    ∙ clear-at c.args.clear_after c.step_to-c.new.to c.args.from.now c.step_to-c.new.to c.args.from.now (c.args.i + 32 + j) (c.args.i + (32 + j))
    (sym (stays3 c.args.from.now c.step_to-a.new.to c.step_to-b.new.to c.step_to-c.new.to c.args.i c.args.k
    c.step_to-a.ensures.inside c.step_to-b.ensures.below c.step_to-b.ensures.inside c.step_to-c.ensures.below
    c.step_to-c.ensures.inside j)) (ap (λ m. get_or c.args.from.now m 0) (omega arith))
