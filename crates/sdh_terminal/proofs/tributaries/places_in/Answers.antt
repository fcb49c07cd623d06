use Rattle.std.proofs.Common.{◌≡◌, ℕ, Option, ◌++◌, ◌∷◌, [], ap, sym, ◌∙◌}
use Rattle.std.specs.Prelude.{position}
use Rattle.sdh_basics.specs.Cells.{cells}
use Rattle.sdh_basics.proofs.CellsLaws.{cells-zero, cells-more}
use Rattle.sdh_terminal.specs.Tributaries.{is_port}
use Rattle.sdh_terminal.specs.Places.{port_numbered}
use Rattle.sdh_terminal.proofs.tributaries.places_in.Goals as goal

pub loop-k-init : goal.loop-k-init
loop-k-init c = c.in_ok-places.ensures.items ∙ sym (cells-zero (λ k. position (is_port (port_numbered k)) c.args.ports.now))

pub loop-k-preserved : goal.loop-k-preserved
loop-k-preserved c =
    let ports = c.args.ports.now in
    let f : ℕ → Option ℕ = λ k. position (is_port (port_numbered k)) ports in
    let k = c.loop-k.k in
    let item : c.place_of.result ≡ f k = c.place_of.ensures.place ∙ ap (λ id. position (is_port id) ports) c.port_numbered.ensures in
    c.in_ok-push.ensures.items ∙ ap (λ ps. ps ++ c.place_of.result ∷ []) c.loop-k.invariant ∙ ap (λ x. cells f k ++ x ∷ []) item
    ∙ sym (cells-more f k)
