-- When the plan with a case after its script is a plan.
use Rattle.std.proofs.Common.{◌≡◌, ℕ, ◌+◌, ◌-◌, ◌*◌, ◌<◌, ◌≤◌, true, false, cond, Some, List, [], ◌∷◌, ◌++◌, length, count_by, All}
use Rattle.std.proofs.Common.{refl, sym, ap, ◌∙◌, subst, arith, append_assoc, length-append}
use Rattle.std.specs.Prelude.{slice_get}
use Rattle.std.specs.Option.{option_map_or}
use Rattle.std.proofs.lemmas.List.Elements.{All-head, All-tail}
use Rattle.std.proofs.lemmas.List.Sums.{sum_by-append}
use Rattle.sdh_ringmap.specs.declared.Pos.{Pos}
use Rattle.sdh_ringmap.specs.declared.Side.{Side}
use Rattle.sdh_ringmap.specs.declared.Side.TheVariants.{West, East}
use Rattle.sdh_ringmap.proofs.Sides.{neighbour_below}
use Rattle.sdh_ringmap.specs.declared.terms.Rate.{Rate}
use Rattle.sdh_ringmap.specs.declared.terms.Condition.{Condition}
use Rattle.sdh_ringmap.specs.declared.terms.Condition.TheVariants as condition
use Rattle.sdh_ringmap.specs.Rates.{n_of}
use Rattle.sdh_ringmap.specs.Fibres.{IsConditionAt}
use Rattle.sdh_request.specs.declared.Command.{Command}
use Rattle.sdh_request.specs.declared.Command.TheVariants as command
use Rattle.sdh_plan.specs.declared.step.Step.{Step}
use Rattle.sdh_plan.specs.declared.step.Step.TheVariants as step
use Rattle.sdh_plan.specs.Steps.{Past, after, new_past, is_settle, ends_settled}
use Rattle.sdh_plan.specs.Scripts.{Fits, AreSteps, after_all}
use Rattle.sdh_plan.specs.Planned.{Planned, IsPlanned}
use Rattle.sdh_plan.proofs.Following.{settles_counted, few_settles}
use Rattle.sdh_verdicts.specs.declared.failure.Failure.{Failure}
use Rattle.sdh_verdicts.specs.declared.failure.Failure.TheVariants.{Degraded, Cut, Span, Node, Manual, Forced}
use Rattle.sdh_verdicts.specs.Failures.{IsFailureIn, condition_step, neighbour_position, steps_of, case_steps}
use Rattle.sdh_verdicts.specs.Verdicts.{longer_steps}
use Rattle.sdh_verdicts.specs.Laws.{longer_plan, HasRoom, LongerPlansArePlans}

-- ---- steps after others

module _ (rate : Rate) (size circuits : ℕ) where
  steps_more : (past : Past) (xs ys : List Step) → AreSteps rate size circuits past xs
      → AreSteps rate size circuits (after_all past xs) ys → AreSteps rate size circuits past (xs ++ ys)
  steps_more past [] ys fit more = more
  steps_more past (s ∷ xs) ys fit more = (fit.0, steps_more (after past s) xs ys fit.1 more)

  fibre_fits : (past : Past) (at : Pos) (side : Side) (c : Condition) → past.settles ≤ 63 → at.0 < size → IsConditionAt rate c
      → Fits rate size circuits past (condition_step c at side)
  fibre_fits past at side c few inside is =
      let same : past.moment ≤ past.moment = omega arith in
      let fewer : past.settles ≤ 64 = omega (arith, few) in
      record { in_ring = (inside, is); forward = same; few_settles = fewer; few_slips = tt }

  order_fits : (past : Past) (at : Pos) (side : Side) (c : Command) → past.settles ≤ 63 → at.0 < size
      → Fits rate size circuits past (step.Order at side c)
  order_fits past at side c few inside =
      let same : past.moment ≤ past.moment = omega arith in
      let fewer : past.settles ≤ 64 = omega (arith, few) in
      record { in_ring = inside; forward = same; few_settles = fewer; few_slips = tt }

  settle_fits : (past : Past) → past.settles ≤ 63 → AreSteps rate size circuits past (step.Settle ∷ [])
  settle_fits past few =
      let same : past.moment ≤ past.moment = omega arith in
      let fewer : past.settles + 1 ≤ 64 = omega (arith, few) in
      (record { in_ring = tt; forward = same; few_settles = fewer; few_slips = tt }, tt)

  -- ---- the steps of a case

  module _ (threshold : ℕ) (from_1 : 1 ≤ threshold) (small : threshold ≤ 3 * n_of rate) (some : 0 < size) where
    one_fits : (past : Past) (f : Failure) (rest : List Step) → past.settles ≤ 63 → IsFailureIn size f
        → AreSteps rate size circuits past rest → AreSteps rate size circuits past (steps_of size threshold f ++ rest)
    one_fits past (Degraded at side) rest few inside more =
        (fibre_fits past at side (condition.Degraded threshold) few inside (from_1, small), more)
    one_fits past (Cut at side) rest few inside more = (fibre_fits past at side condition.Cut few inside tt, more)
    one_fits past (Span at) rest few inside more = (
      fibre_fits past at East condition.Cut few inside tt,
      (fibre_fits past (neighbour_position size at East) West condition.Cut few (neighbour_below size at.0 East some) tt, more),
    )
    one_fits past (Node at) rest few inside more = (
      fibre_fits past at East condition.Cut few inside tt,
      (
        fibre_fits past (neighbour_position size at East) West condition.Cut few (neighbour_below size at.0 East some) tt,
        (
          fibre_fits past (neighbour_position size at West) East condition.Cut few (neighbour_below size at.0 West some) tt,
          (fibre_fits past at West condition.Cut few inside tt, more),
        ),
      ),
    )
    one_fits past (Manual at side) rest few inside more = (order_fits past at side command.Manual few inside, more)
    one_fits past (Forced at side) rest few inside more = (order_fits past at side command.Forced few inside, more)

    case_fits : (past : Past) (case : List Failure) → past.settles ≤ 63 → All (IsFailureIn size) case
        → AreSteps rate size circuits past (case_steps size threshold case ++ step.Settle ∷ [])
    case_fits past [] few all = settle_fits past few
    case_fits past (f ∷ others) few all =
        subst (AreSteps rate size circuits past)
        (sym (append_assoc (steps_of size threshold f) (case_steps size threshold others) (step.Settle ∷ [])))
        (one_fits past f (case_steps size threshold others ++ step.Settle ∷ []) few (All-head (IsFailureIn size) f others all)
        (case_fits past others few (All-tail (IsFailureIn size) f others all)))

-- ---- the last step

last_is : (xs : List Step) (s : Step) → slice_get (xs ++ s ∷ []) (length xs) ≡ Some s
last_is [] s = refl
last_is (x ∷ xs) s = last_is xs s

ends_with : (xs : List Step) → ends_settled (xs ++ step.Settle ∷ []) ≡ true
ends_with xs =
    let place : length (xs ++ step.Settle ∷ []) - 1 ≡ length xs = omega (arith, length-append xs (step.Settle ∷ [])) in
    ap (λ k. option_map_or is_settle (slice_get (xs ++ step.Settle ∷ []) k) false) place
    ∙ ap (λ o. option_map_or is_settle o false) (last_is xs step.Settle)

-- ---- the longer plan

settles_in : (xs ys : List Step) → count_by is_settle (xs ++ ys) ≡ count_by is_settle xs + count_by is_settle ys
settles_in xs ys = sum_by-append (λ s. cond (is_settle s) 1 0) xs ys

module _ (plan : Planned) (case : List Failure) (limit : ℕ) (fits : IsPlanned plan) where
  abbrev steps : List Step
  steps = case_steps (length plan.nodes) plan.settings.threshold case

  long : length (longer_steps plan case) ≡ length plan.steps + (length steps + 1)
  long = length-append plan.steps (steps ++ step.Settle ∷ [])
      ∙ ap (λ k. length plan.steps + k) (length-append steps (step.Settle ∷ []))

  settling : count_by is_settle (longer_steps plan case) ≡ count_by is_settle plan.steps + (count_by is_settle steps + 1)
  settling = settles_in plan.steps (steps ++ step.Settle ∷ [])
      ∙ ap (λ k. count_by is_settle plan.steps + k) (settles_in steps (step.Settle ∷ []))

  planned_by : All (IsFailureIn (length plan.nodes)) case → HasRoom plan case limit → IsPlanned (longer_plan plan case limit)
  planned_by all room =
      let rate = plan.settings.rate in
      let n = length plan.nodes in
      let k = length plan.circuits in
      let past = after_all new_past plan.steps in
      let few : past.settles ≤ 63 = omega (arith, settles_counted new_past plan.steps, room.settles) in
      let some : 0 < n = omega (arith, fits.nodes_fit.enough) in
      let from_1 : 1 ≤ length (longer_steps plan case) = omega (arith, long) in
      let at_most : length (longer_steps plan case) ≤ 1000 = omega (arith, long, room.steps) in
      record {
        threshold_from_1 = fits.threshold_from_1;
        threshold_small = fits.threshold_small;
        wait_small = fits.wait_small;
        limit_from_1 = room.limit_from_1;
        limit_small = room.limit_small;
        nodes_fit = fits.nodes_fit;
        circuits_fit = fits.circuits_fit;
        steps_from_1 = from_1;
        steps_few = at_most;
        steps_fit = steps_more rate n k new_past plan.steps (steps ++ step.Settle ∷ []) fits.steps_fit
            (case_fits rate n k plan.settings.threshold fits.threshold_from_1 fits.threshold_small some past case few all);
        last_settles = ap ends_settled (sym (append_assoc plan.steps steps (step.Settle ∷ []))) ∙ ends_with (plan.steps ++ steps);
      }

  room_by : IsPlanned (longer_plan plan case limit) → HasRoom plan case limit
  room_by longer =
      let few : length (longer_steps plan case) ≤ 1000 = longer.steps_few in
      let all : count_by is_settle (longer_steps plan case) ≤ 64 = few_settles (longer_plan plan case limit) longer in
      record {
        steps = omega (arith, long, few);
        settles = omega (arith, settling, all);
        limit_from_1 = longer.limit_from_1;
        limit_small = longer.limit_small;
      }

pub longer_plans_are_plans : LongerPlansArePlans
longer_plans_are_plans plan case limit fits all = (room_by plan case limit fits, planned_by plan case limit fits all)
