use Rattle.std.proofs.Common.{◌≡◌, ◌++◌, ap, sym, ◌∙◌, arith}
use Rattle.sdh_parity.specs.Pieces.{Running, after_bytes}
use Rattle.sdh_parity.proofs.Running.{kept-is, kept-next, kept-lanes}
use Rattle.sdh_parity.proofs.pieces.BipSection.add.Goals as goal

pub returns-clause-each : goal.returns-clause-each
returns-clause-each c = λ before e.
    let n = c.self.inside.n in
    let same : n ≡ c.args.self.now.n = ap (λ (r : Running). r.n) c.self.view_is in
    let was = c.self.view_is ∙ e ∙ ap (λ k. after_bytes k before) (sym same) in
    let so =
    c.add_piece-self-inside.ensures.each before (kept-next n c.self.inside.next c.self.inside.sums before was)
    (kept-lanes n c.self.inside.next c.self.inside.sums before was) in
    kept-is n c.add_piece-self-inside.result c.add_piece-self-inside.new.sums (before ++ c.args.bytes.now) (omega arith) so.0 so.1
    ∙ ap (λ k. after_bytes k (before ++ c.args.bytes.now)) same
