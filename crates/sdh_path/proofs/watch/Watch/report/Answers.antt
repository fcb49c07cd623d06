use Rattle.sdh_path.specs.contracts.watch.Watch.{the_view}
use Rattle.sdh_path.proofs.Watching.{report_is}
use Rattle.sdh_path.proofs.watch.Watch.report.Goals as goal

pub returns : goal.returns
returns c = record {
  history = λ trace past came.
      (report_is trace past (the_view c.self.inside) c.trace_word.result (rw (← c.self.view_is) at came) c.self.invariant.small.inside
      (c.trace_word.ensures.history trace past came));
}
