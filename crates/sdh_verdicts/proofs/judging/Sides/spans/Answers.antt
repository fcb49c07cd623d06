use Rattle.std.proofs.Common.{◌∙◌, List, ℕ, ap, length, arith}
use Rattle.sdh_restoration.specs.Applied.{is_applied}
use Rattle.sdh_verdicts.specs.Verdicts.{is_troubled}
use Rattle.sdh_verdicts.proofs.Sets.{spans_of_requests}
use Rattle.sdh_verdicts.proofs.judging.Sides.spans.Goals as goal

pub returns-clause-applied : goal.returns-clause-applied
returns-clause-applied c = λ plan are.
    spans_of_requests is_applied c.len-n.result (length plan.nodes) c.requests-requests.result _ c.applied_in.result
    (c.len-n.ensures.len ∙ ap (λ (l : List ℕ). length l) are.nodes) (omega (arith, c.len-n.ensures.few, c.requests-requests.ensures.long))
    (c.requests-requests.ensures.are plan are) c.applied_in.ensures

pub returns-clause-troubled : goal.returns-clause-troubled
returns-clause-troubled c = λ plan are.
    spans_of_requests is_troubled c.len-n.result (length plan.nodes) c.requests-requests.result _ c.troubled_in.result
    (c.len-n.ensures.len ∙ ap (λ (l : List ℕ). length l) are.nodes) (omega (arith, c.len-n.ensures.few, c.requests-requests.ensures.long))
    (c.requests-requests.ensures.are plan are) c.troubled_in.ensures
