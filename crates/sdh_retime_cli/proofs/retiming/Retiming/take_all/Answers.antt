use Rattle.std.proofs.Common.{◌+◌, ◌-◌, ◌/◌, ◌≤◌, length, ap, sym, ◌∙◌, subst, arith}
use Rattle.sdh_report.specs.Written.{Written}
use Rattle.sdh_elastic.specs.Store.{StoreCameBy}
use Rattle.sdh_retime_cli.specs.Lines.{lines_of}
use Rattle.sdh_retime_cli.proofs.Short.{left_line_short, drift_line_short}
use Rattle.sdh_retime_cli.proofs.Cut.{no_chunks, no_offset}
use Rattle.sdh_retime_cli.proofs.Ends.{cut_off, offset_then, came_then, lines_then, done, drifted}
use Rattle.sdh_retime_cli.proofs.retiming.Retiming.take_all.Goals as goal

pub loop-at-init : goal.loop-at-init
loop-at-init c =
    let none = sym (no_chunks c.args.digits.now c.args.bytes.now) in
    record {
      at = sym (no_offset c.args.digits.now);
      within = omega arith;
      whole = omega arith;
      came = subst (λ past. StoreCameBy 0 past c.args.self.now.store) none c.requires.came;
      reads = c.requires.reads;
      lines = c.requires.empty ∙ ap lines_of none;
      room = omega (arith, c.requires.room);
    }

pub loop-at-preserved : goal.loop-at-preserved
loop-at-preserved c =
    let digits = c.args.digits.now in
    let bytes = c.args.bytes.now in
    let before = c.loop-at.invariant in
    let turn = c.in_default.ensures in
    let chunk = cut_off digits bytes c.loop-at.taken c.loop-at.at c.size_at-size.result before.at c.size_at-size.ensures.size in
    record {
      at = offset_then digits c.loop-at.taken c.loop-at.at c.size_at-size.result before.at c.size_at-size.ensures.size;
      within = omega (arith, c.if-bytes-at.false, before.within);
      whole = omega (arith, before.whole, c.size_at-size.ensures.chunk.0);
      came = came_then digits bytes _ c.loop-at.taken c.loop-at.self.store c.turn.new.self.store chunk before.came turn.came;
      reads = turn.reads;
      lines =
          lines_then digits bytes _ c.loop-at.taken c.loop-at.self.store c.loop-at.text.bytes c.turn.new.text.bytes chunk before.came before.lines turn.lines;
      room = omega (arith, before.room, turn.room);
    }

pub put_left-requires : goal.put_left-requires
put_left-requires c = omega (arith, left_line_short (length c.args.bytes.now - c.loop-at.at) (omega arith))

pub put_drift-requires : goal.put_drift-requires
put_drift-requires c =
    let same = ap (λ (t : Written). t.room) c.in-Err.ensures.err in
    let some : c.loop-at.taken + 1 ≤ length c.args.bytes.now / 2346 =
    omega (arith, c.loop-at.invariant.whole, c.if-bytes-at.false, c.size_at-size.ensures.chunk.0, c.loop-at.invariant.within) in
    omega (arith, same, some, c.loop-at.invariant.room, drift_line_short (c.loop-at.taken + 1) (omega (arith, some, c.requires.few)))

pub returns-then-bytes-at : goal.returns-then-bytes-at
returns-then-bytes-at c = (
  c.loop-at.taken,
  done c.args.digits.now c.args.bytes.now c.loop-at.taken c.loop-at.at c.size_at-size.result c.loop-at.self.store c.loop-at.text c.put_left.new.text
      c.loop-at.invariant.at c.size_at-size.ensures.size c.loop-at.invariant.within c.loop-at.invariant.came c.loop-at.invariant.lines c.if-bytes-at.true c.put_left.ensures,
)

pub returns-in-Err : goal.returns-in-Err
returns-in-Err c =
    let digits = c.args.digits.now in
    let bytes = c.args.bytes.now in
    let before = c.loop-at.invariant in
    let chunk = cut_off digits bytes c.loop-at.taken c.loop-at.at c.size_at-size.result before.at c.size_at-size.ensures.size in (
      c.loop-at.taken,
      drifted digits bytes _ c.loop-at.taken c.loop-at.at c.size_at-size.result c.loop-at.self.store c.loop-at.text c.turn.new.text c.put_drift.new.text
          before.at c.size_at-size.ensures.size before.within before.came before.lines c.if-bytes-at.false chunk c.in-Err.ensures.drift c.in-Err.ensures.err c.put_drift.ensures,
    )
