use Rattle.std.proofs.Common.{ℕ, ap, sym, ◌∙◌}
use Rattle.std.specs.Prelude.{[], ◌∷◌, ◌++◌}
use Rattle.sdh_basics.proofs.CellsLaws.{cells-zero, cells-more}
use Rattle.sdh_ringmap.specs.Places.{position_of}
use Rattle.sdh_rounds.proofs.ring.new_nodes.Goals as goal

pub loop-i-init : goal.loop-i-init
loop-i-init g c =
    c.in_ok-nodes.ensures.items
    ∙ sym (cells-zero (λ p. g.N.Station.kind.new c.args.settings c.args.map.now c.args.circuits.now.circuits (position_of p)))

pub loop-i-preserved : goal.loop-i-preserved
loop-i-preserved g c =
    let new = λ (p : ℕ). g.N.Station.kind.new c.args.settings c.args.map.now c.args.circuits.now.circuits (position_of p) in
    c.in_ok-push.ensures.items ∙ ap (λ x. c.loop-i.nodes.items ++ x ∷ []) c.in_ok-try_new.ensures
    ∙ ap (λ xs. xs ++ new c.loop-i.i ∷ []) c.loop-i.invariant ∙ sym (cells-more new c.loop-i.i)
