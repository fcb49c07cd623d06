use Rattle.std.proofs.Common.{ap, sym, subst, ◌∙◌, arith, refl}
use native.Mathlib.Nat.{le_refl}
use Rattle.sdh_node_cli.specs.declared.stop.Stop.{Stop}
use Rattle.sdh_node_cli.specs.Bench.{Bench}
use Rattle.sdh_node_cli.specs.Turns.{TurnStopsBy}
use Rattle.sdh_node_cli.proofs.Faults.{quiet, behind, stopped}
use Rattle.sdh_node_cli.proofs.Runs.{went_none, went_on, served_by, cut_by, served_all}
use Rattle.sdh_node_cli.proofs.Turning.{after_rounds, rate_after}
use Rattle.sdh_node_cli.proofs.serving.serve.Goals as goal

pub loop-done-init : goal.loop-done-init
loop-done-init g c = record {
  went = went_none _ _ _;
  rounds = omega (arith, c.requires.fresh);
  rate = c.requires.rate;
  reads = λ e. refl;
  writes = λ e. refl;
  later_reads = le_refl _;
  later_writes = le_refl _;
}

pub loop-done-preserved : goal.loop-done-preserved
loop-done-preserved g c =
    let inv = c.loop-done.invariant in
    let goes = c.in-Ok.ensures.goes in
    let b = c.loop-done.bench in
    record {
      went = went_on _ b c.turn.new.bench _ _ _ _ _ _ c.loop-done.done inv.went goes;
      rounds = omega (arith, inv.rounds, ap (λ (x : Bench). x.node.rounds) goes.bench, after_rounds goes.given b);
      rate = c.turn.ensures.rate ∙ inv.rate ∙ sym (rate_after goes.given b c.turn.new.bench goes.bench);
      reads = λ e. c.in-Ok.ensures.reads.counted.none e (λ f. cc) ∙ inv.reads e;
      writes = λ e. c.in-Ok.ensures.writes.counted.none e (λ f. cc) ∙ inv.writes e;
      later_reads = omega (arith, c.in-Ok.ensures.reads.later, inv.later_reads);
      later_writes = omega (arith, c.in-Ok.ensures.writes.later, inv.later_writes);
    }

pub returns-in-Err-clause-served : goal.returns-in-Err-clause-served
returns-in-Err-clause-served g c = λ not.
    served_by _ c.loop-done.bench _ _ _ _ _ _ c.loop-done.done c.in-Err.stop (omega (arith, c.loop-done-test.true)) c.loop-done.invariant.went not c.in-Err.ensures.stops

pub returns-in-Err-clause-cut : goal.returns-in-Err-clause-cut
returns-in-Err-clause-cut g c = λ is.
    let left = g.R.Source.left in
    let text = g.W.Sink.written in
    cut_by _ c.loop-done.bench _ _ _ _ _ _ c.loop-done.done c.loop-done.invariant.went
    (subst (λ (x : Stop). TurnStopsBy c.loop-done.bench x (left c.loop-done.source) (left c.turn.new.source) (text c.loop-done.sink)
    (text c.turn.new.sink)) is c.in-Err.ensures.stops)

pub returns-clause-served : goal.returns-clause-served
returns-clause-served g c = λ not.
    served_all _ _ _ _ _ _ c.loop-done.done _ (omega (arith, c.loop-done-test.false)) (omega (arith, c.loop-done-test.false))
    c.loop-done.invariant.went

pub returns-in-Err-clause-reads : goal.returns-in-Err-clause-reads
returns-in-Err-clause-reads g c =
    let inv = c.loop-done.invariant in
    behind _ _ _ _ _ inv.reads inv.later_reads (stopped _ _ _ _ _ c.in-Err.ensures.reads _ refl)

pub returns-in-Err-clause-writes : goal.returns-in-Err-clause-writes
returns-in-Err-clause-writes g c =
    let inv = c.loop-done.invariant in
    behind _ _ _ _ _ inv.writes inv.later_writes (stopped _ _ _ _ _ c.in-Err.ensures.writes _ refl)

pub returns-clause-reads : goal.returns-clause-reads
returns-clause-reads g c =
    let inv = c.loop-done.invariant in
    quiet _ _ _ _ (λ e. cc) inv.reads inv.later_reads

pub returns-clause-writes : goal.returns-clause-writes
returns-clause-writes g c =
    let inv = c.loop-done.invariant in
    quiet _ _ _ _ (λ e. cc) inv.writes inv.later_writes
