use Rattle.std.proofs.Common.{◌≡◌, ◌*◌, ◌%◌, ◌++◌, length, ap, sym, ◌∙◌, arith}
use Rattle.sdh_parity.specs.Pieces.{Running, after_bytes}
use Rattle.sdh_parity.proofs.Running.{kept-is, kept-next, kept-lanes, length-behind}
use Rattle.sdh_parity.proofs.pieces.BipSection.add_lanes.Goals as goal

pub returns-clause-each : goal.returns-clause-each
returns-clause-each c = λ before bytes e len has small.
    let n = c.self.inside.n in
    let same : n ≡ c.args.self.now.n = ap (λ (r : Running). r.n) c.self.view_is in
    let was = c.self.view_is ∙ e ∙ ap (λ k. after_bytes k before) (sym same) in
    let none : 0 ≡ length before % (3 * n) =
    sym (ap (λ (r : Running). r.next) c.self.view_is ∙ c.requires.whole)
    ∙ kept-next n c.self.inside.next c.self.inside.sums before was in
    let lane = c.lane_behind-self-inside.ensures.lane ∙ ap (λ k. k % (3 * n)) (sym len) ∙ length-behind (3 * n) before bytes none in
    kept-is n c.lane_behind-self-inside.result c.add_lanes.new.sums (before ++ bytes) (omega arith) lane
    (c.add_lanes.ensures before bytes none (kept-lanes n c.self.inside.next c.self.inside.sums before was) has small)
    ∙ ap (λ k. after_bytes k (before ++ bytes)) same
