use Rattle.std.proofs.Common.{◌/◌, arith}
use Rattle.std.proofs.lemmas.Result.{err_from_is_err_and}
use Rattle.sdh_ringmap.specs.Rates.{n_of}
use Rattle.sdh_plan.proofs.Provisions.{added_next, added_fails, added_len, added_circuits}
use Rattle.sdh_plan.proofs.circuit.circuits_of.Goals as goal

pub returns-in_err-add_circuit-clause-refused : goal.returns-in_err-add_circuit-clause-refused
returns-in_err-add_circuit-clause-refused c =
    let p = err_from_is_err_and c.from_residual.result c.from_residual.ensures.1 in
    rw (p.1, p.2) (added_fails
    (n_of c.args.rate / 2) c.args.ring.now c.args.values.now c.loop-value.circuits c.loop-value.value-index _ c.value-item.result c.in_err-add_circuit.field-0.0 c.loop-value.invariant.added c.loop-value-test.true c.value-item.is
    (omega (
      arith,
      c.len.ensures.len,
      added_len (n_of c.args.rate / 2) c.args.ring.now c.args.values.now c.loop-value.circuits c.loop-value.value-index c.loop-value.invariant.added (omega arith),
    )) c.in_err-add_circuit.ensures.refused)

pub loop-value-preserved : goal.loop-value-preserved
loop-value-preserved c = record {
  added =
      added_next (n_of c.args.rate / 2) c.args.ring.now c.args.values.now c.loop-value.circuits c.add_circuit.new.circuits c.loop-value.value-index c.value-item.result c.loop-value.invariant.added c.loop-value-test.true c.value-item.is
      c.in_ok-add_circuit.ensures.added c.in_ok-add_circuit.ensures.passed;
}

pub returns-clause-circuits : goal.returns-clause-circuits
returns-clause-circuits c =
    added_circuits (n_of c.args.rate / 2) c.args.ring.now c.args.values.now c.loop-value.circuits c.loop-value.value-index c.loop-value.invariant.added c.loop-value-test.false
