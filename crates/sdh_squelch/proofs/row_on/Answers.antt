use Rattle.std.proofs.Common.{sym}
use Rattle.sdh_squelch.proofs.LookUps.{row-read, row-none, row-ends}
use Rattle.sdh_squelch.proofs.row_on.Goals as goal

pub returns-in-Some-clause-row : goal.returns-in-Some-clause-row
returns-in-Some-clause-row c = λ ids kept.
    row-read c.args.circuits.now ids kept c.args.span.0 c.args.slot.0 c.in-Some.circuit c.get-found.result.now c.from.result c.to.result
    c.in-Some.ensures c.get-found.ensures c.from.ensures c.to.ensures

pub returns-in-Some-clause-ends : goal.returns-in-Some-clause-ends
returns-in-Some-clause-ends c = λ ids kept.
    row-ends c.args.circuits.now ids kept c.requires c.in-Some.circuit c.get-found.result.now c.from.result c.to.result
    c.get-found.ensures c.from.ensures c.to.ensures

pub returns-in-None-clause-row : goal.returns-in-None-clause-row
returns-in-None-clause-row c = λ ids kept. sym (row-none c.args.circuits.now ids kept c.args.span.0 c.args.slot.0 (sym c.in-None.ensures))
