use Rattle.std.proofs.Common.{ℕ, ◌+◌, ◌*◌, arith}
use Rattle.sdh_interchange.proofs.Halves.{none_taken_yet, then_taken, room_left}
use Rattle.sdh_interchange.proofs.payloads.take_row.Goals as goal

pub loop-b-init : goal.loop-b-init
loop-b-init g c =
    none_taken_yet g.row.N c.args.base c.args.bytes.now (261 * c.args.r) (261 * c.args.r + 16 * 0) c.args.out.now (omega arith)

pub take_block-requires-clause-room : goal.take_block-requires-clause-room
take_block-requires-clause-room g c =
    room_left g.row.N c.args.base c.args.bytes.now (261 * c.args.r)
    (261 * c.args.r + 16 * c.loop-b.b) c.args.out.now c.loop-b.out c.requires.room c.loop-b.invariant

pub take_block-requires-2-clause-room : goal.take_block-requires-2-clause-room
take_block-requires-2-clause-room g c =
    room_left g.row.N c.args.base c.args.bytes.now (261 * c.args.r)
    (261 * c.args.r + 16 * c.loop-b.b) c.args.out.now c.loop-b.out c.requires.room c.loop-b.invariant

pub loop-b-preserved : goal.loop-b-preserved
loop-b-preserved g c =
    let start : ℕ = 261 * c.args.r in
    let b = c.loop-b.b in
    then_taken g.row.N c.args.base c.args.bytes.now start (start + 16 * b) (start + 16 * b) (start + (16 * b + 16))
    (start + 16 * (b + 1)) c.args.out.now c.loop-b.out c.take_block.new.out (omega arith) (omega arith)
    (omega arith) c.loop-b.invariant c.take_block.ensures

pub returns : goal.returns
returns g c =
    let start : ℕ = 261 * c.args.r in
    let b = c.loop-b.b in
    then_taken g.row.N c.args.base c.args.bytes.now start (start + 245) (start + 16 * b) (start + (245 + 16))
    (start + 261) c.args.out.now c.loop-b.out c.take_block-2.new.out (omega arith) (omega arith)
    (omega arith) c.loop-b.invariant c.take_block-2.ensures
