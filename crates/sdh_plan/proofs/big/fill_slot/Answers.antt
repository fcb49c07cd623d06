use Rattle.std.proofs.Common.{arith}
use Rattle.sdh_plan.proofs.Filling.{filling_begun, filling_passes, filling_next, filled_circuits, filled_state}
use Rattle.sdh_plan.proofs.big.fill_slot.Goals as goal

pub loop-left-init : goal.loop-left-init
loop-left-init c = record { filling = filling_begun c.args.slot c.args.draws.now c.draw.result c.draw.new.self c.args.circuits.now c.requires.made c.requires.laid c.draw.ensures.drawn c.draw.ensures.next }

pub add_stretch-requires-clause-passes : goal.add_stretch-requires-clause-passes
add_stretch-requires-clause-passes c =
    filling_passes c.args.slot c.args.draws.now c.args.circuits.now.circuits c.loop-left.circuits _ c.args.ring.now c.spans_drawn-spans.result c.spans_drawn-spans.new.draws c.requires.slot_from_1 c.requires.slot_small c.loop-left-test.true
    c.loop-left.invariant.filling c.requires.ring c.spans_drawn-spans.ensures.spans c.spans_drawn-spans.ensures.draws

pub loop-left-preserved : goal.loop-left-preserved
loop-left-preserved c = record {
  filling =
      filling_next c.args.slot c.args.draws.now c.args.circuits.now.circuits c.loop-left.circuits c.add_stretch.new.circuits _ c.args.ring.now c.spans_drawn-spans.result c.spans_drawn-spans.new.draws c.add_stretch.new.draws
      c.requires.slot_from_1 c.loop-left-test.true c.loop-left.invariant.filling c.requires.ring c.spans_drawn-spans.ensures.spans c.spans_drawn-spans.ensures.draws c.add_stretch.ensures.draws c.in_ok-add_stretch.ensures.added;
}

pub returns-clause-circuits : goal.returns-clause-circuits
returns-clause-circuits c =
    filled_circuits c.args.slot c.args.draws.now c.args.circuits.now.circuits c.loop-left.circuits _
    (omega (arith, c.loop-left-test.false)) c.loop-left.invariant.filling

pub returns-clause-draws : goal.returns-clause-draws
returns-clause-draws c =
    filled_state c.args.slot c.args.draws.now c.args.circuits.now.circuits c.loop-left.circuits _
    (omega (arith, c.loop-left-test.false)) c.loop-left.invariant.filling
