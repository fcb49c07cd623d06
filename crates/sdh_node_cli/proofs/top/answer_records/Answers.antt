use Rattle.std.proofs.Common.{inr, [], ◌++◌, ap, sym, subst, refl, ◌∙◌, arith}
use native.Mathlib.Nat.{le_refl}
use Rattle.sdh_shell.specs.Writing.{IsShown}
use Rattle.sdh_node_cli.specs.Endings.{line_of, bench_endings}
use Rattle.sdh_node_cli.specs.Outcome.{OfBenchPlan, IsCutPlan, ending_of}
use Rattle.sdh_node_cli.specs.declared.ending.Ending.{Ending}
use Rattle.sdh_node_cli.proofs.Faults.{renamed, behind, stop_fault, fault_stop}
use Rattle.sdh_node_cli.proofs.Told.{stop_shown, goes_served, wrote_line, of_served, cut_of}
use Rattle.sdh_node_cli.proofs.top.answer_records.Goals as goal

pub returns-in_err-rooms-clause-later : goal.returns-in_err-rooms-clause-later
returns-in_err-rooms-clause-later g c = (le_refl _, le_refl _)

-- ---- a write failed

pub returns-in-WriteFault-clause-goes : goal.returns-in-WriteFault-clause-goes
returns-in-WriteFault-clause-goes g c = λ ask plan at found is. (
    let failed = c.serve-stopped.ensures.reads in
    inr (record {
      end_is = refl;
      cut = cut_of ask plan at c.args.bench.now _ _ _ _ found is (c.serve-stopped.ensures.cut c.in-WriteFault.is);
      later = failed.later;
      none = λ e. failed.counted.none e (λ read. (let z = sym c.in-WriteFault.is ∙ read in cc));
    }))

pub returns-in-WriteFault-clause-writes : goal.returns-in-WriteFault-clause-writes
returns-in-WriteFault-clause-writes g c = renamed _ _ _ _ _ (λ e. c.in-WriteFault.is) (λ e. refl) c.serve-stopped.ensures.writes

pub returns-in-WriteFault-clause-later : goal.returns-in-WriteFault-clause-later
returns-in-WriteFault-clause-later g c = (c.serve-stopped.ensures.reads.later, c.serve-stopped.ensures.writes.later)

-- ---- no record more was done

pub write_ended-requires : goal.write_ended-requires
write_ended-requires g c =
    let stopped = c.serve-stopped.result in
    record {
      shown =
          subst (IsShown bench_endings) (sym (c.ended.ensures.ending ∙ c.ending_of.ensures))
          (stop_shown stopped.stop stopped.number c.in_default.not-WriteFault);
      room = tt;
    }

pub returns-in_default-clause-goes : goal.returns-in_default-clause-goes
returns-in_default-clause-goes g c = λ ask plan at found is. (
    let left = g.R.Source.left c.args.source.now in
    let now = g.R.Source.left c.serve-stopped.new.source in
    let old = g.W.Sink.written c.args.sink.now in
    let mid = g.W.Sink.written c.serve-stopped.new.sink in
    let new = g.W.Sink.written c.write_ended.new.output in
    let stopped = c.serve-stopped.result in
    let served = c.serve-stopped.ensures.served c.in_default.not-WriteFault in
    let how = ending_of stopped.stop stopped.number in
    goes_served (OfBenchPlan ask plan [] left now) (IsCutPlan ask plan [] left now old new) g.R.Source.exact _ how c.write_ended.result
    served.0 (line_of how) old mid new
    (of_served ask plan at c.args.bench.now left now stopped.number stopped.stop served.0 found is served.1) served.2
    (wrote_line _ _ _ _ _ mid new (c.ended.ensures.ending ∙ c.ending_of.ensures) (c.ended.ensures.text
    ∙ ap (λ (h : Ending). c.args.text.bytes ++ line_of h) c.ending_of.ensures ∙ ap (λ b. b ++ line_of how) c.requires.empty)
    c.write_ended.ensures.wrote)
    (renamed _ _ _ _ _ (stop_fault stopped.stop stopped.number) (fault_stop stopped.stop stopped.number) c.serve-stopped.ensures.reads))

pub returns-in_default-clause-writes : goal.returns-in_default-clause-writes
returns-in_default-clause-writes g c =
    behind _ _ _ _ _ (λ e. c.serve-stopped.ensures.writes.counted.none e c.in_default.not-WriteFault) c.serve-stopped.ensures.writes.later
    (record { later = c.write_ended.ensures.later; rose = c.write_ended.ensures.fault; counted = c.write_ended.ensures.writes })

pub returns-in_default-clause-later : goal.returns-in_default-clause-later
returns-in_default-clause-later g c =
    (c.serve-stopped.ensures.reads.later, omega (arith, c.serve-stopped.ensures.writes.later, c.write_ended.ensures.later))
