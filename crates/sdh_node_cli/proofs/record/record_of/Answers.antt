use Rattle.std.proofs.Common.{map, cond, ap, sym, ◌∙◌}
use Rattle.std.specs.Prelude.{Err}
use Rattle.sdh_plan.specs.Words.{words}
use Rattle.sdh_plan.specs.declared.reason.Reason.TheVariants as reason
use Rattle.sdh_node_cli.specs.Records.{record_in, record_of}
use Rattle.sdh_node_cli.proofs.Named.{kept_words}
use Rattle.sdh_node_cli.proofs.record.record_of.Goals as goal

pub returns-in-Some-clause-is : goal.returns-in-Some-clause-is
unfolding record_of
returns-in-Some-clause-is c =
    let circuits = c.args.circuits.now.circuits in
    let said = words c.args.line.now in
    c.record_in.ensures.is ∙ ap (λ ws. record_in circuits c.args.at (map (λ word. word.now) ws)) c.deref.ensures.0
    ∙ ap (record_in circuits c.args.at) c.in-Some.ensures.words ∙ kept_words circuits c.args.at said
    ∙ ap (λ b. cond b (Err reason.StepForm) (record_in circuits c.args.at said)) (sym c.in-Some.ensures.whole)
