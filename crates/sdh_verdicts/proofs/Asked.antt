-- What a side asks for in a case.
use Rattle.std.proofs.Common.{◌≡◌, ℕ, ◌+◌, ◌*◌, ◌/◌, ◌%◌, ◌<◌, List, [], ◌∷◌, ◌++◌, length, get_or, sym, ap, ◌∙◌, arith, eq-eqb}
use Rattle.std.proofs.Common.{append_assoc}
use Rattle.std.specs.Prelude.{if◌then◌else◌, ◌==◌}
use Rattle.std.proofs.lemmas.List.{get_or-map, length-map}
use Rattle.sdh_basics.proofs.CellsLaws.{get_or-cells, length-cells}
use Rattle.sdh_ringmap.specs.declared.Side.{Side}
use Rattle.sdh_ringmap.specs.declared.Side.TheVariants.{West, East}
use Rattle.sdh_ringmap.specs.Fibres.{fibre}
use Rattle.sdh_plan.specs.Planned.{Planned}
use Rattle.sdh_plan.specs.declared.step.Step.TheVariants.{Settle}
use Rattle.sdh_promise.specs.Scenes.{scenes}
use Rattle.sdh_verdicts.specs.Resting as model
use Rattle.sdh_verdicts.specs.Sides as walk
use Rattle.sdh_verdicts.specs.declared.resting.Resting.{Resting}
use Rattle.sdh_verdicts.specs.declared.failure.Failure.{Failure}
use Rattle.sdh_verdicts.specs.declared.judging.Sides.{Sides}
use Rattle.sdh_verdicts.specs.Sides.{resting_of}
use Rattle.sdh_verdicts.specs.Failures.{case_steps, side_of}
use Rattle.sdh_verdicts.specs.Verdicts.{longer_steps, numbered, AreSidesOf, asks_with}
use Rattle.sdh_verdicts.proofs.Rests.{rests_more, rests_is}

side_is : (p : ℕ) (d : Side) → side_of (fibre p d) ≡ d
side_is p West = let even : (2 * p) % 2 ≡ 0 = omega arith in ap (λ b. if b then West else East) (eq-eqb ((2 * p) % 2) 0 even)
side_is p East = let odd : (2 * p + 1) % 2 ≡ 1 = omega arith in ap (λ k. if k == 0 then West else East) odd

place_is : (p : ℕ) (d : Side) → fibre p d / 2 ≡ p
place_is p West = omega arith
place_is p East = omega arith

fibre_low : (n p : ℕ) (d : Side) → p < n → fibre p d < 2 * n
fibre_low n p West h = omega arith
fibre_low n p East h = omega arith

-- the state of a side after the plan's script, as the program keeps it
pub kept_at : (plan : Planned) (s : Sides) (p i : ℕ) (d : Side) (r : Resting) → AreSidesOf plan s → p < length plan.nodes → i ≡ fibre p d
    → r ≡ get_or s.rests.items i r
    → resting_of r ≡ walk.rests plan.settings.threshold (length plan.nodes) p d plan.steps model.fresh
kept_at plan s p i d r are low at is =
    let n = length plan.nodes in
    let inside : i < 2 * n = omega (arith, at, fibre_low n p d low) in
    let long : length s.rests.items ≡ 2 * n =
    sym (length-map s.rests.items resting_of) ∙ ap (λ (l : List model.Resting). length l) are.rests
    ∙ length-cells (numbered plan) (2 * n) in
    ap resting_of is
    ∙ sym (get_or-map resting_of s.rests.items i r (resting_of r) (omega (arith, long, inside)))
    ∙ ap (λ l. get_or l i (resting_of r)) are.rests
    ∙ get_or-cells (numbered plan) (2 * n) i (resting_of r) inside
    ∙ ap (numbered plan) at
    ∙ ap (λ x. walk.rests plan.settings.threshold n x (side_of (fibre p d)) plan.steps model.fresh) (place_is p d)
    ∙ ap (λ x. walk.rests plan.settings.threshold n p x plan.steps model.fresh) (side_is p d)

-- the request of a side in a case
pub asks_is : (plan : Planned) (case : List Failure) (p : ℕ) (d : Side)
    → asks_with plan case p d ≡ model.asks plan.settings.wait
    (walk.at_rest_now plan.settings.threshold (walk.rests plan.settings.threshold (length plan.nodes) p d
    (case_steps (length plan.nodes) plan.settings.threshold case)
    (walk.rests plan.settings.threshold (length plan.nodes) p d plan.steps model.fresh)))
asks_is plan case p d =
    let t = plan.settings.threshold in
    let n = length plan.nodes in
    let steps = case_steps n t case in
    let parts : longer_steps plan case ≡ (plan.steps ++ steps) ++ Settle ∷ [] = sym (append_assoc plan.steps steps (Settle ∷ [])) in
    ap (model.asks plan.settings.wait)
    (ap (λ l. model.rest_in t n p d (scenes [] l) model.fresh) parts
    ∙ rests_is t n p d (plan.steps ++ steps)
    ∙ rests_more t n p d (plan.steps ++ steps) (Settle ∷ []) model.fresh
    ∙ ap (walk.at_rest_now t) (rests_more t n p d plan.steps steps model.fresh))
