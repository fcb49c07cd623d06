use Rattle.std.proofs.Common.{◌≡◌, ◌∙◌, ℕ, List, sym, ap, length}
use Rattle.sdh_verdicts.specs.Resting as model
use Rattle.sdh_verdicts.specs.Sides as walk
use Rattle.sdh_verdicts.specs.Sides.{resting_of}
use Rattle.sdh_verdicts.specs.Failures.{case_steps}
use Rattle.sdh_verdicts.proofs.Asked.{asks_is}
use Rattle.sdh_verdicts.proofs.judging.Sides.request.Goals as goal

pub returns : goal.returns
returns c = λ plan are. (
    let s = c.args.self.now in
    let p = c.args.at.0 in
    let d = c.args.side in
    let case = c.args.case.now in
    let size : length s.map.now ≡ length plan.nodes = ap (λ (l : List ℕ). length l) are.nodes in
    let kept = c.kept.ensures plan are in
    c.asks.ensures
    ∙ ap (λ w. model.asks w (resting_of c.at_rest.result)) are.wait
    ∙ ap (model.asks plan.settings.wait) (c.at_rest.ensures
    ∙ ap (λ t. walk.at_rest_now t (resting_of c.with_case-failed.result)) are.threshold
    ∙ ap (walk.at_rest_now plan.settings.threshold) (c.with_case-failed.ensures
    ∙ ap (λ t. walk.rests t (length s.map.now) p d (case_steps (length s.map.now) t case) (resting_of c.kept.result)) are.threshold
    ∙ ap (λ n. walk.rests plan.settings.threshold n p d (case_steps n plan.settings.threshold case) (resting_of c.kept.result)) size
    ∙ ap (walk.rests plan.settings.threshold (length plan.nodes) p d (case_steps (length plan.nodes) plan.settings.threshold case)) kept))
    ∙ sym (asks_is plan case p d))
