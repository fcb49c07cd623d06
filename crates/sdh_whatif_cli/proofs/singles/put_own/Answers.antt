use Rattle.std.proofs.Common.{◌∙◌, ◌++◌, [], sym, ap, length}
use Rattle.std.specs.Prelude.{if◌then◌else◌}
use Rattle.sdh_whatif_cli.specs.declared.ask.Kind.TheVariants as kind
use Rattle.sdh_whatif_cli.specs.declared.singles.Tally.{Tally}
use Rattle.sdh_whatif_cli.specs.Singles.{own_tally, tally_record}
use Rattle.sdh_whatif_cli.proofs.singles.put_own.Goals as goal

pub returns-then-has-clause-text : goal.returns-then-has-clause-text
returns-then-has-clause-text c =
    let plan = c.args.scene.now.plan.now in
    let own = c.args.scene.now.own.now in
    let old = c.args.line.now in
    c.put_tally.ensures.text
    ∙ ap (λ (t : Tally). old ++ tally_record kind.Own t) c.own_tally.ensures
    ∙ ap (λ b. old ++ (if b then tally_record kind.Own (own_tally plan own (length own)) else []))
    (sym c.if-has.true ∙ c.has.ensures)
