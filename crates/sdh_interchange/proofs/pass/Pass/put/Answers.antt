use Rattle.std.proofs.Common.{◌+◌, ◌*◌, ◌<◌, arith}
use Rattle.sdh_interchange.proofs.Stretches.{none_passed, then_passed, whole_on}
use Rattle.sdh_interchange.proofs.pass.Pass.put.Goals as goal

pub loop-k-init : goal.loop-k-init
loop-k-init g c = none_passed g.row.N c.args.self.now c.args.at (c.args.at + 16 * 0) c.args.bytes.now (omega arith)

pub extra-extra-requires : goal.extra-extra-requires
extra-extra-requires g c =
    let k = c.loop-k.k in
    let small : k < g.row.N = omega arith in (
      omega arith,
      (
        c.requires.pass,
        (
          c.requires.reads,
          (
            whole_on g.row.N c.args.at k c.requires.pass.rate c.requires.whole,
            (c.requires.columns.lanes k small, (λ j h low. c.requires.columns.each k j small h low)),
          ),
        ),
      ),
    )

pub store-requires : goal.store-requires
store-requires g c = (
  omega arith,
  (
    c.requires.pass,
    (
      c.requires.reads,
      (
        omega arith,
        (whole_on g.row.N c.args.at c.loop-k.k c.requires.pass.rate c.requires.whole, (omega arith, c.extra-extra.ensures)),
      ),
    ),
  ),
)

pub loop-k-preserved : goal.loop-k-preserved
loop-k-preserved g c =
    let at = c.args.at in
    let k = c.loop-k.k in
    then_passed g.row.N c.args.self.now at (at + 16 * k) (at + 16 * k) (at + 16 * k + 16)
    (at + 16 * (k + 1)) c.args.bytes.now c.loop-k.bytes c.store.new.bytes (omega arith) (omega arith) (omega arith)
    (omega arith) c.loop-k.invariant c.store.ensures
