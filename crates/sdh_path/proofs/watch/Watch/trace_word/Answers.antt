use Rattle.std.proofs.Common.{true, false}
use Rattle.sdh_path.specs.contracts.watch.Watch.{the_view}
use Rattle.sdh_path.proofs.Watching.{short_trace, long_trace}
use Rattle.sdh_path.proofs.watch.Watch.trace_word.Goals as goal

pub returns-then-self-lt64 : goal.returns-then-self-lt64
returns-then-self-lt64 c = record {
  history = λ trace past came. short_trace trace past (the_view c.self.inside)
      (rw (← c.self.view_is) at came) c.if-self-lt64.true;
}

pub returns-then-is_rotation : goal.returns-then-is_rotation
returns-then-is_rotation c = record {
  history = λ trace past came.
      (long_trace trace past (the_view c.self.inside)
      (rw (← c.self.view_is) at came) c.begun_at-last.result true c.if-self-lt64.false c.begun_at-last.ensures c.if-is_rotation.ensures);
}

pub returns-else-is_rotation : goal.returns-else-is_rotation
returns-else-is_rotation c = record {
  history = λ trace past came.
      (long_trace trace past (the_view c.self.inside)
      (rw (← c.self.view_is) at came) c.begun_at-last.result false c.if-self-lt64.false c.begun_at-last.ensures c.if-is_rotation.ensures);
}
