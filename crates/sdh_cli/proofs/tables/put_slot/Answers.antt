use Rattle.std.proofs.Common.{◌≡◌, ◌<◌, ◌++◌, ◌∙◌, List, ℕ, length, Some, ap, sym, subst, append-nil, arith}
use Rattle.std.specs.Prelude.{slice_get, slice_index}
use Rattle.sdh_report.specs.Lines.{table_line}
use Rattle.sdh_circuits.specs.Provisioning.{Provisioning, IsProvisioning}
use Rattle.sdh_cli.proofs.TableLines.{no_line, number_inside, ends_inside, its_line}
use Rattle.sdh_cli.proofs.tables.put_slot.Goals as goal

pub returns-in_default-clause-bytes : goal.returns-in_default-clause-bytes
returns-in_default-clause-bytes c =
    let none =
    no_line c.args.plan.now c.args.at c.args.table.now c.requires.table c.args.side c.args.slot.0
    (sym c.in_default.is ∙ c.circuit.ensures) in
    sym (ap (λ l. c.args.text.now.bytes ++ l) none ∙ append-nil c.args.text.now.bytes)

pub get-requires : goal.get-requires
get-requires c =
    let few =
    number_inside c.args.plan.now c.args.at c.args.table.now c.requires.table c.args.side c.args.slot.0 c.in-Some.number c.in-Some-ends.ends
    (sym c.in-Some.is ∙ c.circuit.ensures) (sym c.in-Some-ends.is ∙ c.ends.ensures) in
    subst (λ (p : Provisioning). c.in-Some.number < length p.circuits) (sym c.circuits-circuits.ensures) few

pub put_circuit-requires-clause-from : goal.put_circuit-requires-clause-from
put_circuit-requires-clause-from c =
    let both =
    ends_inside c.args.plan.now c.args.at c.args.table.now c.requires.table c.args.side c.args.slot.0 c.in-Some.number c.in-Some-ends.ends
    (sym c.in-Some.is ∙ c.circuit.ensures) (sym c.in-Some-ends.is ∙ c.ends.ensures)
    (subst IsProvisioning c.circuits-circuits.ensures c.len.ensures.form) in
    omega (arith, both.0, ap (λ (l : List ℕ). length l) c.map.ensures)

pub put_circuit-requires-clause-to : goal.put_circuit-requires-clause-to
put_circuit-requires-clause-to c =
    let both =
    ends_inside c.args.plan.now c.args.at c.args.table.now c.requires.table c.args.side c.args.slot.0 c.in-Some.number c.in-Some-ends.ends
    (sym c.in-Some.is ∙ c.circuit.ensures) (sym c.in-Some-ends.is ∙ c.ends.ensures)
    (subst IsProvisioning c.circuits-circuits.ensures c.len.ensures.form) in
    omega (arith, both.1, ap (λ (l : List ℕ). length l) c.map.ensures)

pub returns-clause-bytes : goal.returns-clause-bytes
returns-clause-bytes c =
    let read =
    subst (λ (p : Provisioning). slice_get p.circuits c.in-Some.number
    ≡ Some c.get.result.now) c.circuits-circuits.ensures c.get.ensures in
    let line =
    its_line c.args.plan.now c.args.at c.args.table.now c.requires.table c.args.side c.args.slot.0 c.in-Some.number c.in-Some-ends.ends
    (sym c.in-Some.is ∙ c.circuit.ensures) (sym c.in-Some-ends.is ∙ c.ends.ensures) c.get.result.now read in
    let written : List ℕ → List ℕ → List ℕ = λ ids name.
    table_line (slice_index ids c.args.at.0) c.args.side c.args.slot name (slice_index ids c.in-Some-ends.ends.0.0)
    (slice_index ids c.in-Some-ends.ends.1.0) in
    c.put_circuit.ensures.bytes
    ∙ ap (λ l. c.args.text.now.bytes ++ l) (ap (λ ids. written ids c.name-name.result.now) c.map.ensures
    ∙ ap (written c.args.plan.now.nodes) c.name-name.ensures.name ∙ sym line)
