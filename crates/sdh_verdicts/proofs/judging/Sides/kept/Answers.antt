use Rattle.std.proofs.Common.{◌≡◌, ℕ, List, ap, length, arith}
use Rattle.sdh_verdicts.proofs.Asked.{kept_at}
use Rattle.sdh_verdicts.proofs.judging.Sides.kept.Goals as goal

pub returns : goal.returns
returns c = λ plan are. (
    let s = c.args.self.now in
    let size : length s.map.now ≡ length plan.nodes = ap (λ (l : List ℕ). length l) are.nodes in
    kept_at plan s c.args.place.at.0 c.from.result c.args.place.side c.index.result.now are (omega (arith, size, c.requires.at))
    (omega (arith, c.from.ensures, c.fibre.ensures)) c.index.ensures)
