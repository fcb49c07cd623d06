use Rattle.std.proofs.Common.{◌+◌, ◌*◌, refl}
use Rattle.sdh_interchange.proofs.Stretches.{same-passed}
use Rattle.sdh_interchange.proofs.pass.Pass.copied_blocks.Goals as goal

pub returns : goal.returns
returns g c =
    let r = c.args.r in
    same-passed g.row.N _ c.args.self.now (g.row.N * (270 * r + 9)) (g.row.N * (270 * r + 270)) c.args.bytes.now c.blocks-2.new.bytes refl refl refl
    c.same-own.ensures c.blocks-2.ensures
