use Rattle.std.proofs.Common.{◌≡◌, ◌<◌, ◌∙◌, ◌++◌, [], codes, length, map, sym, ap, arith}
use Rattle.std.proofs.lemmas.List.{take_all}
use Rattle.std.proofs.lemmas.Option.{get_or_from_slice_get}
use Rattle.sdh_circuits.specs.Provisioning.{Provisioning}
use Rattle.sdh_whatif_cli.specs.Lines.{joined, either, fate_text}
use Rattle.sdh_whatif_cli.proofs.Parts.{there, join_next}
use Rattle.sdh_whatif_cli.proofs.lines.put_fates.Goals as goal

pub loop-i-preserved : goal.loop-i-preserved
loop-i-preserved c =
    let f = c.args.form in
    let plan = c.args.plan.now in
    let i = c.loop-i.i in
    let size : c.len-i-end.result ≡ length plan.circuits =
    c.len-i-end.ensures.len ∙ ap (λ (v : Provisioning). length v.circuits) c.circuits.ensures in
    let low : i < length plan.circuits = omega (arith, size, c.loop-i-test.true) in
    let here = there plan.circuits i low in
    record {
      short = omega (arith, c.put_between.ensures.short, c.put_fate.ensures.short, c.loop-i.invariant.short);
      text = λ case are. join_next (either f (codes ",") []) (fate_text f plan case) plan.circuits i here.0 c.args.line.now c.loop-i.line
          c.put_between.new.line c.put_fate.new.line low (c.loop-i.invariant.text case are) c.put_between.ensures.text
          (c.put_fate.ensures.text case here.0 are here.1
          ∙ ap (λ x. c.put_between.new.line ++ fate_text f plan case x) (sym (get_or_from_slice_get plan.circuits i here.0 here.0 here.1)));
    }

pub returns-clause-text : goal.returns-clause-text
returns-clause-text c = λ case are. (
    let f = c.args.form in
    let plan = c.args.plan.now in
    let size : c.len-i-end.result ≡ length plan.circuits =
    c.len-i-end.ensures.len ∙ ap (λ (v : Provisioning). length v.circuits) c.circuits.ensures in
    c.loop-i.invariant.text case are
    ∙ ap (λ cs. c.args.line.now ++ joined (either f (codes ",") []) (map (fate_text f plan case) cs))
    (take_all c.loop-i.i plan.circuits (omega (arith, size, c.loop-i-test.false))))
