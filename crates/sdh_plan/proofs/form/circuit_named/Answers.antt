use Rattle.std.proofs.Common.{sym, ap, ◌∙◌, arith}
use Rattle.std.specs.Str.{bytes_eq}
use Rattle.sdh_plan.proofs.Slipping.{named_here, named_later, named_none}
use Rattle.sdh_plan.proofs.form.circuit_named.Goals as goal

pub returns-then-eq : goal.returns-then-eq
returns-then-eq c =
    sym (named_here c.args.circuits.now.circuits c.args.word.now c.loop-circuit.circuit c.get.result.now c.get.ensures
    (ap (λ name. bytes_eq name c.args.word.now) (sym (c.as_slice.ensures.bytes ∙ c.name.ensures.name))
    ∙ sym c.if-eq.ensures) c.loop-circuit.invariant.others)

pub loop-circuit-preserved : goal.loop-circuit-preserved
loop-circuit-preserved c = record {
  others = named_later c.args.circuits.now.circuits c.args.word.now c.loop-circuit.circuit c.get.result.now c.get.ensures
      (ap (λ name. bytes_eq name c.args.word.now) (sym (c.as_slice.ensures.bytes ∙ c.name.ensures.name))
      ∙ sym c.if-eq.ensures) c.loop-circuit.invariant.others;
}

pub returns : goal.returns
returns c =
    sym (named_none c.args.circuits.now.circuits c.args.word.now
    (λ k d less. c.loop-circuit.invariant.others k d (omega (arith, less, c.len-circuit-end.ensures.len, c.loop-circuit-test.false))))
