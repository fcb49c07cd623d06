use Rattle.std.proofs.Common.{◌≡◌, ◌∙◌, ◌/◌, ◌++◌, ◌∷◌, [], ℕ, List, sym, ap, length, map}
use Rattle.std.proofs.lemmas.List.{map-append}
use Rattle.sdh_basics.specs.Cells.{cells}
use Rattle.sdh_basics.proofs.CellsLaws.{cells-zero, cells-more}
use Rattle.sdh_verdicts.specs.Resting as model
use Rattle.sdh_verdicts.specs.Sides as walk
use Rattle.sdh_verdicts.specs.Sides.{resting_of}
use Rattle.sdh_verdicts.specs.Verdicts.{numbered}
use Rattle.sdh_verdicts.specs.Failures.{side_of}
use Rattle.sdh_verdicts.proofs.judging.Sides.try_new.Goals as goal

pub loop-number-init : goal.loop-number-init
loop-number-init c = ap (map resting_of) c.in_ok-kept.ensures.items ∙ sym (cells-zero (numbered c.args.plan.now))

pub loop-number-preserved : goal.loop-number-preserved
loop-number-preserved c =
    let plan = c.args.plan.now in
    let k = c.loop-number.number in
    let f = numbered plan in
    let steps = c.steps.result.now in
    let at = c.place_at.result in
    let value : resting_of c.rests.result ≡ f k =
    c.rests.ensures
    ∙ ap (λ t. walk.rests t (length c.map-map.result.now) at.at.0 at.side steps model.fresh)
    (ap (λ s. s.threshold) c.settings-settings.ensures.settings)
    ∙ ap (λ (l : List ℕ). walk.rests plan.settings.threshold (length l) at.at.0 at.side steps model.fresh) c.map-map.ensures
    ∙ ap (λ p. walk.rests plan.settings.threshold (length plan.nodes) p at.side steps model.fresh) c.place_at.ensures.at
    ∙ ap (λ d. walk.rests plan.settings.threshold (length plan.nodes) (k / 2) d steps model.fresh) c.place_at.ensures.side
    ∙ ap (λ l. walk.rests plan.settings.threshold (length plan.nodes) (k / 2) (side_of k) l model.fresh) c.steps.ensures.steps in
    ap (map resting_of) c.in_ok-push.ensures.items
    ∙ map-append resting_of c.loop-number.kept.items (c.rests.result ∷ [])
    ∙ ap (λ l. l ++ resting_of c.rests.result ∷ []) c.loop-number.invariant
    ∙ ap (λ r. cells f k ++ r ∷ []) value
    ∙ sym (cells-more f k)
