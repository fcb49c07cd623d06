use Rattle.std.proofs.Common.{subst, refl, rules}
use Rattle.sdh_node_cli.specs.declared.record.Record.{Record}
use Rattle.sdh_node_cli.specs.Streams.{west_of}
use Rattle.sdh_node_cli.specs.Turns.{HasLine, IsAhead}
use Rattle.sdh_node_cli.proofs.Faults.{none_made, well, well_alone, ended, no_write_halt, err_same}
use Rattle.sdh_node_cli.proofs.Turning.{goes_round, goes_told, line_stops, told_stops, round_stops, unless_ok, unless_err}
use Rattle.sdh_node_cli.proofs.turn.turn.Goals as goal

pub run_round-requires : goal.run_round-requires
run_round-requires g c = record {
  ahead = subst (λ (r : Record). IsAhead (west_of r) c.in-Ok.found.first) c.in-Round.is c.in-Ok.ensures.line.ahead;
  few = search rules;
  rate = c.requires.rate;
}

pub returns-in-Ok-run_round-clause-goes : goal.returns-in-Ok-run_round-clause-goes
returns-in-Ok-run_round-clause-goes g c =
    let left = g.R.Source.left in
    let b = c.args.bench.now in
    let line = c.next_record.new.line.bytes in
    goes_round _ _ _ _ _ _ _ _ _ _ _ (subst (λ (r : Record). HasLine b line r c.in-Ok.found.first (left c.args.source.now) (left c.next_record.new.source)) c.in-Round.is
    c.in-Ok.ensures.line) c.in-Ok-run_round.ensures.ran

pub returns-in-Err-run_round-clause-stops : goal.returns-in-Err-run_round-clause-stops
returns-in-Err-run_round-clause-stops g c =
    let left = g.R.Source.left in
    let b = c.args.bench.now in
    let line = c.next_record.new.line.bytes in
    round_stops _ _ _ _ c.in-Err-run_round.stop _ _ _ _ _ _ (subst (λ (r : Record). HasLine b line r c.in-Ok.found.first (left c.args.source.now)
    (left c.next_record.new.source)) c.in-Round.is c.in-Ok.ensures.line) c.in-Err-run_round.ensures.stops

pub returns-in-Ok-tell-clause-goes : goal.returns-in-Ok-tell-clause-goes
returns-in-Ok-tell-clause-goes g c =
    let left = g.R.Source.left in
    let b = c.args.bench.now in
    let line = c.next_record.new.line.bytes in
    goes_told _ _ _ c.in-Told.told _ _ _ _ (subst (λ (r : Record). HasLine b line r c.in-Ok.found.first (left c.args.source.now) (left c.next_record.new.source))
    c.in-Told.is c.in-Ok.ensures.line) (unless_ok _ c.tell.result c.tell.ensures.refused c.in-Ok-tell.is) c.in-Ok-tell.ensures.ok

pub returns-in-Err-tell-clause-stops : goal.returns-in-Err-tell-clause-stops
returns-in-Err-tell-clause-stops g c =
    let left = g.R.Source.left in
    let b = c.args.bench.now in
    let line = c.next_record.new.line.bytes in
    told_stops _ _ c.in-Told.told c.in-Err-tell.reason _ _ _ _ (subst (λ (r : Record). HasLine b line r c.in-Ok.found.first (left c.args.source.now)
    (left c.next_record.new.source)) c.in-Told.is c.in-Ok.ensures.line)
    (unless_err _ c.tell.result _ c.tell.ensures.refused c.in-Err-tell.is)

pub returns-in-Err-clause-stops : goal.returns-in-Err-clause-stops
returns-in-Err-clause-stops g c = line_stops _ c.in-Err.stop _ _ _ c.in-Err.ensures.stop

pub returns-in-Ok-run_round-clause-reads : goal.returns-in-Ok-run_round-clause-reads
returns-in-Ok-run_round-clause-reads g c = well _ _ _ _ _ c.in-Ok.ensures.reads _ _ _ refl c.in-Ok-run_round.ensures.reads

pub returns-in-Ok-run_round-clause-writes : goal.returns-in-Ok-run_round-clause-writes
returns-in-Ok-run_round-clause-writes g c = c.in-Ok-run_round.ensures.writes

pub returns-in-Err-run_round-clause-reads : goal.returns-in-Err-run_round-clause-reads
returns-in-Err-run_round-clause-reads g c = well _ _ _ _ _ c.in-Ok.ensures.reads _ _ _ refl c.in-Err-run_round.ensures.reads

pub returns-in-Err-run_round-clause-writes : goal.returns-in-Err-run_round-clause-writes
returns-in-Err-run_round-clause-writes g c = c.in-Err-run_round.ensures.writes

pub returns-in-Ok-tell-clause-reads : goal.returns-in-Ok-tell-clause-reads
returns-in-Ok-tell-clause-reads g c = well_alone _ _ _ _ _ c.in-Ok.ensures.reads _ _ refl (λ e. cc)

pub returns-in-Ok-tell-clause-writes : goal.returns-in-Ok-tell-clause-writes
returns-in-Ok-tell-clause-writes g c = none_made _ _ _ (λ e. cc)

pub returns-in-Err-tell-clause-reads : goal.returns-in-Err-tell-clause-reads
returns-in-Err-tell-clause-reads g c = well_alone _ _ _ _ _ c.in-Ok.ensures.reads _ _ refl (λ e. cc)

pub returns-in-Err-tell-clause-writes : goal.returns-in-Err-tell-clause-writes
returns-in-Err-tell-clause-writes g c = none_made _ _ _ (λ e. cc)

pub returns-in-Err-clause-reads : goal.returns-in-Err-clause-reads
returns-in-Err-clause-reads g c = ended _ _ _ _ _ c.in-Err.ensures.reads _ refl

pub returns-in-Err-clause-writes : goal.returns-in-Err-clause-writes
returns-in-Err-clause-writes g c = none_made _ _ _ (λ e. no_write_halt _ _ _ _ c.in-Err.ensures.stop (err_same _ _ e))
