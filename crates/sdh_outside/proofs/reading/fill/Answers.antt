use Rattle.std.proofs.Common.{rules}
use Rattle.sdh_outside.proofs.Moved.{Consumes-more}
use Rattle.sdh_outside.proofs.reading.fill.Goals as goal

pub loop-taken-preserved : goal.loop-taken-preserved
loop-taken-preserved g c = record {
  within = search rules;
  took =
      Consumes-more _ _ _ c.loop-taken.buf c.read.new.buf c.loop-taken.taken _ c.in_ok-count.count c.loop-taken.invariant.within c.in_ok-count.ensures.bound.0 c.loop-taken.invariant.took c.in_ok-count.ensures.bytes.0;
  stays = search rules;
  later = search rules;
}
