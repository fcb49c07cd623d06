use Rattle.std.proofs.Common.{Some, ap, sym, ◌∙◌}
use Rattle.sdh_outage.specs.declared.change.Change.{Change}
use Rattle.sdh_outage.specs.Changes.{is_change, Traced}
use Rattle.sdh_outage.proofs.Tracing.{with_kind, traces}
use Rattle.sdh_outage.proofs.trace.Trace.add.Goals as goal
use Rattle.sdh_outage.proofs.trace.Trace.add.Goals.{then-is_change, else-is_change}

pub returns-clause-history : goal.returns-clause-history
returns-clause-history c = λ first past number is. (
    let old = c.args.self.now in
    let now = c.args.kind in
    let change : Change = record { round = c.args.round; kind = now } in
    let kept = λ (t : Traced). (let x : Traced = record { changes = t.changes; count = t.count; last = Some now } in x) in
    let after = ap kept c.self-2.view_is in
    let last = ap (λ (t : Traced). is_change t.last now) c.self.view_is in
    let found = traces old c.args.round now first past number is in
    elim c.if-is_change.branch [
      | then-is_change w ↦ after ∙ ap kept (w.self-is ∙ w.put.ensures)
          ∙ ap (λ b. with_kind old b change) (sym w.if-is_change.true ∙ c.is_change.ensures ∙ last) ∙ found
      | else-is_change w ↦ after ∙ ap kept w.self-is ∙ ap (λ b. with_kind old b change)
          (sym w.if-is_change.false ∙ c.is_change.ensures ∙ last) ∙ found
    ])
