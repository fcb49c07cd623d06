use Rattle.std.proofs.Common.{◌++◌, ap, refl, ◌∙◌}
use Rattle.sdh_report.specs.Lines.{own_line}
use Rattle.sdh_report.specs.Written.{Written}
use Rattle.sdh_node_cli.specs.Outcome.{usage}
use Rattle.sdh_node_cli.proofs.Told.{wrote_line}
use Rattle.sdh_node_cli.proofs.top.usage.Goals as goal

pub returns-clause-wrote : goal.returns-clause-wrote
returns-clause-wrote g c =
    let old = g.W.Sink.written c.args.sink.now in
    let new = g.W.Sink.written c.write_ended.new.output in
    wrote_line _ _ _ _ _ old new refl (ap (λ (t : Written). t.bytes) c.own_line.ensures
    ∙ ap (λ (t : Written). t.bytes ++ own_line usage) c.in_ok-text.ensures) c.write_ended.ensures.wrote

pub returns-clause-writes : goal.returns-clause-writes
returns-clause-writes g c = record {
  later = c.write_ended.ensures.later;
  rose = c.write_ended.ensures.fault;
  counted = c.write_ended.ensures.writes;
}
