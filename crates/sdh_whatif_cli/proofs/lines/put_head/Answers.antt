use Rattle.std.proofs.Common.{◌≡◌, ◌<◌, ◌∙◌, ◌++◌, codes, length, ap, arith}
use Rattle.std.specs.List.{flat_map}
use Rattle.std.proofs.lemmas.List.{take_all}
use Rattle.sdh_circuits.specs.Provisioning.{Provisioning}
use Rattle.sdh_circuits.specs.Provisioned.{Provisioned}
use Rattle.sdh_whatif_cli.proofs.Parts.{there, text_next}
use Rattle.sdh_whatif_cli.proofs.lines.put_head.Goals as goal

pub loop-i-preserved : goal.loop-i-preserved
loop-i-preserved c =
    let plan = c.args.plan.now in
    let i = c.loop-i.i in
    let size : c.len-i-end.result ≡ length plan.circuits =
    c.len-i-end.ensures.len ∙ ap (λ (v : Provisioning). length v.circuits) c.circuits.ensures in
    let low : i < length plan.circuits = omega (arith, size, c.loop-i-test.true) in
    let here = there plan.circuits i low in
    record {
      short = omega (arith, c.put_circuit.ensures.short, c.loop-i.invariant.short);
      text =
          text_next (λ (x : Provisioned). codes "," ++ x.name) plan.circuits i here.0
          (codes "number,failures,steps,applied,kept,impaired,over,lost,hops") c.loop-i.line c.put_circuit.new.line low here.1
          c.loop-i.invariant.text (c.put_circuit.ensures.text here.0 here.1);
    }

pub returns : goal.returns
returns c =
    let plan = c.args.plan.now in
    let names = codes "number,failures,steps,applied,kept,impaired,over,lost,hops" in
    let size : c.len-i-end.result ≡ length plan.circuits =
    c.len-i-end.ensures.len ∙ ap (λ (v : Provisioning). length v.circuits) c.circuits.ensures in
    c.put-2.ensures
    ∙ ap (λ l. l ++ codes "\r\n") (c.loop-i.invariant.text
    ∙ ap (λ cs. names ++ flat_map (λ (x : Provisioned). codes "," ++ x.name) cs)
    (take_all c.loop-i.i plan.circuits (omega (arith, size, c.loop-i-test.false))))
