use Rattle.std.proofs.Common.{◌∙◌, ap}
use Rattle.sdh_verdicts.specs.Verdicts.{verdict_of}
use Rattle.sdh_whatif_cli.specs.Counting.{fate_by}
use Rattle.sdh_whatif_cli.proofs.counting.fate_of.Goals as goal

pub told-verdict-requires-clause-case : goal.told-verdict-requires-clause-case
told-verdict-requires-clause-case c = (c.requires.case.0, c.requires.case.1.applied)

pub told_impaired-impaired-requires-clause-case : goal.told_impaired-impaired-requires-clause-case
told_impaired-impaired-requires-clause-case c = (c.requires.case.0, c.requires.case.1.troubled)

pub returns : goal.returns
returns c = λ case circuit are is. (
    let plan = c.args.plan.now in
    c.fate_by.ensures ∙ ap (λ v. fate_by v c.told_impaired-impaired.result) (c.told-verdict.ensures case circuit are.applied is)
    ∙ ap (fate_by (verdict_of plan case circuit)) (c.told_impaired-impaired.ensures case circuit are.troubled is))
