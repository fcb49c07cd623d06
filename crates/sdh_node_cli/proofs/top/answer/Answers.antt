use Rattle.std.proofs.lemmas.Result.{IfOk-weaker}
use Rattle.sdh_node_cli.specs.Outcome.{IsOutcome, MayBeCut}
use Rattle.std.specs.Prelude.{Some}
use Rattle.sdh_node_cli.proofs.Told.{goes_planned, goes_behind, new_rounds}
use Rattle.sdh_node_cli.proofs.top.answer.Goals as goal

pub answer_records-how-requires-clause-fresh : goal.answer_records-how-requires-clause-fresh
answer_records-how-requires-clause-fresh g c =
    let has = c.in-Ok.ensures.node in
    new_rounds c.args.ask has.plan has.node.at c.in-Ok.bench has.node.new

pub returns-in-Ok-clause-goes : goal.returns-in-Ok-clause-goes
returns-in-Ok-clause-goes g c =
    let left = g.R.Source.left c.args.source.now in
    let now = g.R.Source.left c.answer_records-how.new.source in
    let old = g.W.Sink.written c.args.sink.now in
    let new = g.W.Sink.written c.answer_records-how.new.sink in
    let ask = c.args.ask in
    let has = c.in-Ok.ensures.node in
    IfOk-weaker c.answer_records-how.result _ _ (λ end x. goes_behind (IsOutcome (Some ask) left now) (MayBeCut (Some ask) left now old new)
    g.R.Source.exact _ _ _ end old new (λ e. c.bench_in.ensures.reads.counted.none e (λ f. cc)) c.bench_in.ensures.reads.later
    (goes_planned ask has.plan left _ now g.R.Source.exact _ end old new has.head
    (x ask has.plan has.node.at has.node.found has.node.new))) c.answer_records-how.ensures.goes
