use Rattle.std.proofs.Common.{◌≡◌, ◌+◌, ◌*◌, ap, arith}
use Rattle.sdh_interchange.proofs.Stretches.{none_passed, columns_then}
use Rattle.sdh_interchange.proofs.pass.Pass.blocks.Goals as goal

pub loop-b-init : goal.loop-b-init
loop-b-init g c =
    let r = c.args.r in
    let e : 270 * r + 9 ≡ 270 * r + (9 + 16 * 0) = omega arith in
    none_passed g.row.N c.args.self.now (g.row.N * (270 * r + 9)) (g.row.N * (270 * r + (9 + 16 * 0))) c.args.bytes.now
    (ap (λ m. g.row.N * m) e)

pub loop-b-preserved : goal.loop-b-preserved
loop-b-preserved g c =
    let r = c.args.r in
    let b = c.loop-b.b in
    columns_then g.row.N c.args.self.now (270 * r + 9) (270 * r + (9 + 16 * b)) (270 * r + (9 + 16 * b)) (270 * r + (25 + 16 * b))
    (270 * r + (9 + 16 * (b + 1))) c.args.bytes.now c.loop-b.bytes c.block.new.bytes (omega arith) (omega arith) (omega arith)
    (omega arith) c.loop-b.invariant c.block.ensures

pub returns : goal.returns
returns g c =
    let r = c.args.r in
    let b = c.loop-b.b in
    columns_then g.row.N c.args.self.now (270 * r + 9) (270 * r + (9 + 245)) (270 * r + (9 + 16 * b)) (270 * r + (25 + 245))
    (270 * r + 270) c.args.bytes.now c.loop-b.bytes c.block-2.new.bytes (omega arith) (omega arith) (omega arith)
    (omega arith) c.loop-b.invariant c.block-2.ensures
