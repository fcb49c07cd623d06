use Rattle.std.proofs.Common.{◌≡◌, ◌+◌, List, [], ◌∷◌, ◌++◌, length, ap, sym, ◌∙◌, arith}
use Rattle.sdh_outage.specs.declared.change.Change.{Change}
use Rattle.sdh_outage.specs.Changes.{Traced}
use Rattle.sdh_outage.proofs.Windows.{when_ok}
use Rattle.sdh_outage.proofs.Tracing.{kept_whole, kept_full}
use Rattle.sdh_outage.proofs.trace.Trace.put.Goals as goal
use Rattle.sdh_outage.proofs.trace.Trace.put.Goals.{then-len, else-len}

pub returns : goal.returns
returns c =
    let old = c.args.self.now in
    let change = c.args.change in
    let was = c.self.view_is in
    let items : c.self.inside.changes.items ≡ old.changes = ap (λ (t : Traced). t.changes) was in
    let count : c.self.inside.count ≡ old.count = ap (λ (t : Traced). t.count) was in
    let last = ap (λ (t : Traced). t.last) was in
    let many = ap (λ (l : List Change). length l) items in
    elim c.if-len.branch [
      | then-len w ↦ (
          let kept =
          w.push.ensures.items ∙ when_ok w.push.result w.unwrap.result
          (c.self.inside.changes.items ++ change ∷ []) c.self.inside.changes.items w.unwrap.ensures in
          let whole = sym (kept_whole 64 old.changes change (omega (arith, many, w.if-len.true, c.len.ensures))) in
          let is = w.self-inside-is in
          let changes = (λ i. (is i).changes.items) ∙ kept ∙ ap (λ l. l ++ change ∷ []) items ∙ whole in
          let counted = (λ i. (is i).count + 1) ∙ ap (λ n. n + 1) count in
          let after = (λ i. (is i).last) ∙ last in
          λ i. record { changes = changes i; count = counted i; last = after i })
      | else-len w ↦ (
          let full =
          sym (kept_full 64 old.changes (change ∷ []) (omega (arith, many, c.self.invariant.0, c.len.ensures))
          (omega (arith, many, w.if-len.false, c.len.ensures))) in
          let is = w.self-inside-is in
          let changes = (λ i. (is i).changes.items) ∙ items ∙ full in
          let counted = (λ i. (is i).count + 1) ∙ ap (λ n. n + 1) count in
          let after = (λ i. (is i).last) ∙ last in
          λ i. record { changes = changes i; count = counted i; last = after i })
    ]
