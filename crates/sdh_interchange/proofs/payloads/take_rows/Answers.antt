use Rattle.std.proofs.Common.{◌+◌, ◌*◌, arith}
use Rattle.sdh_interchange.proofs.Halves.{none_taken_yet, then_taken, room_left}
use Rattle.sdh_interchange.proofs.payloads.take_rows.Goals as goal

pub loop-r-init : goal.loop-r-init
loop-r-init g c = none_taken_yet g.row.N c.args.base c.args.bytes.now 0 (261 * 0) c.args.out.now (omega arith)

pub take_row-requires-clause-room : goal.take_row-requires-clause-room
take_row-requires-clause-room g c =
    room_left g.row.N c.args.base c.args.bytes.now 0 (261 * c.loop-r.r) c.args.out.now c.loop-r.out c.requires.room c.loop-r.invariant

pub loop-r-preserved : goal.loop-r-preserved
loop-r-preserved g c =
    let r = c.loop-r.r in
    then_taken g.row.N c.args.base c.args.bytes.now 0 (261 * r) (261 * r) (261 * r + 261)
    (261 * (r + 1)) c.args.out.now c.loop-r.out c.take_row.new.out (omega arith) (omega arith)
    (omega arith) c.loop-r.invariant c.take_row.ensures

pub returns : goal.returns
returns g c =
    then_taken g.row.N c.args.base c.args.bytes.now 0 0 0 (261 * c.loop-r.r) 2349 c.args.out.now c.args.out.now c.loop-r.out (omega arith)
    (omega arith) (omega arith) (none_taken_yet g.row.N c.args.base c.args.bytes.now 0 0 c.args.out.now
    (omega arith)) c.loop-r.invariant
