use Rattle.std.proofs.Common.{◌≡◌, ◌∙◌, ◌++◌, Some, sym, ap, subst}
use Rattle.std.proofs.lemmas.Option.{same_Some}
use Rattle.std.specs.Prelude.{slice_get}
use Rattle.sdh_circuits.specs.Provisioning.{Provisioning}
use Rattle.sdh_circuits.specs.Provisioned.{Provisioned}
use Rattle.sdh_verdicts.specs.Verdicts.{hops_of}
use Rattle.sdh_whatif_cli.specs.Counting.{fate_of}
use Rattle.sdh_whatif_cli.specs.Lines.{before_fate, fate_cell}
use Rattle.sdh_whatif_cli.proofs.Parts.{onto}
use Rattle.sdh_whatif_cli.proofs.lines.put_fate.Goals as goal

pub told_hops-hops-requires-clause-case : goal.told_hops-hops-requires-clause-case
told_hops-hops-requires-clause-case c = (c.requires.case.0, c.requires.case.1.applied)

pub returns-clause-text : goal.returns-clause-text
returns-clause-text c = λ case circuit are is. (
    let f = c.args.form in
    let plan = c.args.plan.now in
    let got : slice_get plan.circuits c.args.number ≡ Some c.get.result.now =
    subst (λ (v : Provisioning). slice_get v.circuits c.args.number ≡ Some c.get.result.now) c.circuits.ensures c.get.ensures in
    let one : c.get.result.now ≡ circuit = same_Some c.get.result.now circuit (sym got ∙ is) in
    let fate = c.fate_of-fate.ensures case circuit are is in
    let hops = c.told_hops-hops.ensures case circuit are.applied is in
    onto c.args.line.now (before_fate f circuit.name) (fate_cell f (fate_of plan case circuit) (hops_of plan case circuit))
    c.put_before.new.line c.put_cell.new.line
    (c.put_before.ensures.text ∙ ap (λ n. c.args.line.now ++ before_fate f n) (c.as_slice.ensures.bytes ∙ c.name.ensures.name)
    ∙ ap (λ (x : Provisioned). c.args.line.now ++ before_fate f x.name) one)
    (c.put_cell.ensures.text ∙ ap (λ x. c.put_before.new.line ++ fate_cell f x c.told_hops-hops.result) fate
    ∙ ap (λ x. c.put_before.new.line ++ fate_cell f (fate_of plan case circuit) x) hops))
