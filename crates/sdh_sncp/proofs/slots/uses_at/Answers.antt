use Rattle.std.proofs.Common.{ℕ, ◌+◌, ◌++◌, ◌∷◌, [], ap, sym, ◌∙◌}
use Rattle.sdh_basics.specs.Cells.{cells}
use Rattle.sdh_basics.proofs.CellsLaws.{cells-zero, cells-more}
use Rattle.sdh_sncp.specs.declared.slots.Use.{Use}
use Rattle.sdh_sncp.specs.Slots.{use_of}
use Rattle.sdh_sncp.proofs.slots.uses_at.Goals as goal

pub loop-k-init : goal.loop-k-init
loop-k-init c = c.in_ok-uses.ensures.items ∙ sym (cells-zero (λ k. use_of c.args.circuits.now.circuits c.args.at.0 (k + 1)))

pub loop-k-preserved : goal.loop-k-preserved
loop-k-preserved c =
    let f : ℕ → Use = λ k. use_of c.args.circuits.now.circuits c.args.at.0 (k + 1) in
    let k = c.loop-k.k in
    c.in_ok-push.ensures.items ∙ ap (λ us. us ++ c.use_of.result ∷ []) c.loop-k.invariant ∙ ap (λ x. cells f k ++ x ∷ []) c.use_of.ensures
    ∙ sym (cells-more f k)
