use Rattle.std.proofs.Common.{List, ℕ}
use Rattle.sdh_shell.specs.Calls.{words_of, asked_to_run}
use Rattle.sdh_shell.specs.Failing.{Counts}
use Rattle.sdh_shell.specs.Writing.{WritesWith}
use Rattle.sdh_shell.proofs.Told.{told_all}
use Rattle.sdh_programs.specs.Outcome.{MayEnd}
use Rattle.sdh_sncp_cli.specs.Endings.{path_endings}
use Rattle.sdh_sncp_cli.specs.Outcome.{pathing, Answers, told}
use Rattle.sdh_sncp_cli.specs.Headline.{Delivers, EndsAsItRuns, AlwaysSettles}
use Rattle.sdh_sncp_cli.specs.declared.ending.Ending.{Ending}
use Rattle.sdh_sncp_cli.proofs.Promises as promises
use Rattle.sdh_sncp_cli.proofs.top.sdhpath.Goals as goal

pub returns-clause-outcome : goal.returns-clause-outcome
returns-clause-outcome g c =
    let means = g.P.Plant.fibres in
    let words = words_of c.args.words.now in
    let reads : Counts = record { before = g.R.Source.faults c.args.source.now; after = g.R.Source.faults c.call.new.source } in
    let calls : Counts = record { before = g.P.Plant.faults c.args.plant.now; after = g.P.Plant.faults c.call.new.plant } in
    let old = g.W.Sink.written c.args.sink.now in
    let new = g.W.Sink.written c.call.new.sink in
    let f = means c.args.plant.now in
    let left = means c.call.new.plant in
    told_all (told words (g.R.Source.left c.args.source.now))
    (λ (bytes : List ℕ). WritesWith path_endings
    (λ (how : Ending) (text : List ℕ). MayEnd pathing (asked_to_run words) bytes f reads calls how text left) c.call.result old new)
    (λ (bytes : List ℕ). Answers words bytes f left reads calls c.number.result old new)
    (λ bytes x. record { ending = c.call.result; numbered = c.number.ensures; writes = x }) c.call.ensures.outcome

pub returns-clause-owed : goal.returns-clause-owed
returns-clause-owed g c honest =
    let means = g.P.Plant.fibres in
    let words = words_of c.args.words.now in
    let reads : Counts = record { before = g.R.Source.faults c.args.source.now; after = g.R.Source.faults c.call.new.source } in
    let calls : Counts = record { before = g.P.Plant.faults c.args.plant.now; after = g.P.Plant.faults c.call.new.plant } in
    let old = g.W.Sink.written c.args.sink.now in
    let new = g.W.Sink.written c.call.new.sink in
    promises.told_then words (g.R.Source.left c.args.source.now) _ (λ (bytes : List ℕ). Delivers words bytes c.number.result old new)
    (λ bytes x. promises.delivers words bytes (means c.args.plant.now) (means c.call.new.plant) reads calls c.call.result
    c.number.result c.number.ensures old new x honest) c.call.ensures.outcome

pub returns-clause-settles : goal.returns-clause-settles
returns-clause-settles g c honest =
    let means = g.P.Plant.fibres in
    let words = words_of c.args.words.now in
    let reads : Counts = record { before = g.R.Source.faults c.args.source.now; after = g.R.Source.faults c.call.new.source } in
    let calls : Counts = record { before = g.P.Plant.faults c.args.plant.now; after = g.P.Plant.faults c.call.new.plant } in
    promises.told_then words (g.R.Source.left c.args.source.now) _ (λ (bytes : List ℕ). AlwaysSettles words bytes c.number.result)
    (λ bytes x. promises.settles words bytes (means c.args.plant.now) (means c.call.new.plant) reads calls c.call.result
    c.number.result c.number.ensures (g.W.Sink.written c.args.sink.now) (g.W.Sink.written c.call.new.sink) x honest)
    c.call.ensures.outcome

pub returns-clause-unsettled : goal.returns-clause-unsettled
returns-clause-unsettled g c =
    let means = g.P.Plant.fibres in
    let words = words_of c.args.words.now in
    let reads : Counts = record { before = g.R.Source.faults c.args.source.now; after = g.R.Source.faults c.call.new.source } in
    let calls : Counts = record { before = g.P.Plant.faults c.args.plant.now; after = g.P.Plant.faults c.call.new.plant } in
    promises.told_then words (g.R.Source.left c.args.source.now) _
    (λ (bytes : List ℕ). EndsAsItRuns words bytes (means c.args.plant.now) c.number.result)
    (λ bytes x. promises.ends_as_it_runs words bytes (means c.args.plant.now) (means c.call.new.plant) reads calls c.call.result
    c.number.result c.number.ensures (g.W.Sink.written c.args.sink.now) (g.W.Sink.written c.call.new.sink) x)
    c.call.ensures.outcome

pub returns-clause-kept : goal.returns-clause-kept
returns-clause-kept g c = (c.call.result, c.number.ensures, c.call.ensures.kept)
