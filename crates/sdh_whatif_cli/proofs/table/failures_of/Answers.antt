use Rattle.std.proofs.Common.{◌∙◌, List, All, sym, ap, subst}
use Rattle.sdh_verdicts.specs.declared.failure.Failure.{Failure}
use Rattle.sdh_verdicts.specs.Failures.{IsFailureIn}
use Rattle.sdh_whatif_cli.specs.Cases.{worst_last}
use Rattle.sdh_whatif_cli.proofs.Severe.{all_kept}
use Rattle.sdh_whatif_cli.proofs.table.failures_of.Goals as goal

pub returns-clause-within : goal.returns-clause-within
returns-clause-within c =
    let Is = IsFailureIn c.args.nodes in
    subst (All Is) (sym (c.worst_last.ensures ∙ ap (λ (fs : List Failure). worst_last fs) c.as_slice.ensures))
    (all_kept Is c.push_digit-3.new.case c.push_digit-3.ensures.within)
