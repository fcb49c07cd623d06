use Rattle.std.proofs.Common.{◌%◌, ◌++◌, codes, ap, ◌∙◌}
use Rattle.sdh_plan.proofs.Laid.{wish_same, added_laid}
use Rattle.sdh_plan.proofs.big.add_stretch.Goals as goal

pub returns-clause-added : goal.returns-clause-added
returns-clause-added c =
    added_laid c.add_free.result c.args.circuits.now c.add_free.new.circuits c.args.ring.now _ c.args.stretch.slot c.args.stretch.number c.args.stretch.at c.args.stretch.spans c.args.draws.now c.requires.ring c.requires.at
    (c.asked-wish.ensures
    ∙ wish_same c.args.stretch.slot c.args.stretch.number c.args.stretch.at c.args.stretch.spans c.args.draws.now c.draw-offset_a.new.self c.deref-3.result.now c.deref-4.result.now c.deref-5.result.now
    (c.draw-offset_a.result % 783) (c.draw-offset_b.result % 783)
    (c.deref-3.ensures ∙ c.in_ok-name.ensures)
    (c.deref-4.ensures ∙ c.in_ok-text_a.ensures ∙ ap (λ n. n ++ codes "a") (c.deref.ensures ∙ c.in_ok-name.ensures))
    (c.deref-5.ensures ∙ c.in_ok-text_b.ensures ∙ ap (λ n. n ++ codes "b") (c.deref-2.ensures ∙ c.in_ok-name.ensures))
    c.draw-offset_a.ensures.next (ap (λ k. k % 783) c.draw-offset_a.ensures.drawn) (ap (λ k. k % 783) c.draw-offset_b.ensures.drawn))
    c.add_free.ensures.added
