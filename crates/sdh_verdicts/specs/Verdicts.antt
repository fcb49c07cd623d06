-- What becomes of each circuit in a case: a list of failures that come one after the other, after a plan's script.
use Rattle.std.specs.Prelude.{ℕ, ◌≡◌, ◌+◌, ◌*◌, ◌/◌, ◌%◌, ◌<◌, ◌≤◌, zero, suc, Bool, true, false, if◌then◌else◌, List, [], ◌∷◌, ◌++◌}
use Rattle.std.specs.Prelude.{not, nat_le, length, slice_index, map, take}
use Rattle.sdh_basics.specs.Cells.{cells}
use Rattle.sdh_ringmap.specs.declared.Side.{Side}
use Rattle.sdh_ringmap.specs.declared.Side.TheVariants.{West, East}
use Rattle.sdh_ringmap.specs.Places.{neighbour, opposite}
use Rattle.sdh_ringmap.specs.Arcs.{is_clear, is_joined, is_among}
use Rattle.sdh_ringmap.specs.declared.Span.{Span as RingSpan}
use Rattle.sdh_ringmap.specs.declared.terms.Code.{Code}
use Rattle.sdh_ringmap.specs.declared.terms.Code.TheVariants.{Ms}
use Rattle.sdh_ringmap.specs.Requests.{code_number}
use Rattle.sdh_ringmap.specs.Fibres.{is_cut}
use Rattle.sdh_request.specs.declared.Command.{Command}
use Rattle.sdh_request.specs.declared.Command.TheVariants as command
use Rattle.sdh_circuits.specs.Provisioned.{Provisioned, arc_of}
use Rattle.sdh_restoration.specs.declared.applied.LocalRequests.{LocalRequests}
use Rattle.sdh_restoration.specs.Applied.{is_applied}
use Rattle.sdh_restoration.specs.Routes.{hops}
use Rattle.sdh_plan.specs.Planned.{Planned}
use Rattle.sdh_plan.specs.declared.step.Step.{Step}
use Rattle.sdh_plan.specs.declared.step.Step.TheVariants as step
use Rattle.sdh_restoration.specs.Changes.{Change}
use Rattle.sdh_promise.specs.Scenes.{scenes}
use Rattle.sdh_promise.specs.Plans.{ring_of}
use Rattle.sdh_verdicts.specs.Resting as rest
use Rattle.sdh_verdicts.specs.declared.failure.Failure.{Failure}
use Rattle.sdh_verdicts.specs.declared.failure.Failure.TheVariants.{Degraded, Cut, Span, Node, Manual, Forced}
use Rattle.sdh_verdicts.specs.declared.judging.Sides.{Sides}
use Rattle.sdh_verdicts.specs.declared.judging.SpanSet.{SpanSet}
use Rattle.sdh_verdicts.specs.declared.judging.Verdict.{Verdict}
use Rattle.sdh_verdicts.specs.declared.judging.Verdict.TheVariants.{Kept, Over, Lost}
use Rattle.sdh_verdicts.specs.Failures.{case_steps, side_of}
use Rattle.sdh_verdicts.specs.Sides.{resting_of, rests}

-- the longer script: the plan's script, then the steps of a case, and a settle step
abbrev pub longer_steps : Planned → List Failure → List Step
longer_steps plan case = plan.steps ++ (case_steps (length plan.nodes) plan.settings.threshold case ++ step.Settle ∷ [])

-- the changes before each settle step of the longer script
abbrev pub scenes_with : Planned → List Failure → List (List Change)
scenes_with plan case = scenes [] (longer_steps plan case)

-- the requests of all spans after the longer script
abbrev pub requests_with : Planned → List Failure → List ℕ
requests_with plan case = rest.requests_after (ring_of plan) (scenes_with plan case)

-- what becomes of a circuit of a ring of n where these spans are applied: its ends are joined by its own arc, or only
-- round applied spans, or not at all
abbrev pub verdict_under : ℕ → (ℕ → Bool) → Provisioned → Verdict
verdict_under n applied c = if is_clear n applied (arc_of n c) then Kept else if is_joined n applied (arc_of n c) then Over else Lost

-- what becomes of a circuit of the plan in a case
abbrev pub verdict_of : Planned → List Failure → Provisioned → Verdict
verdict_of plan case c = verdict_under (length plan.nodes) (is_applied (requests_with plan case)) c

-- a span is in trouble: its request is at least that of a manual switch
abbrev pub is_troubled : List ℕ → ℕ → Bool
is_troubled requests s = nat_le (code_number Ms) (slice_index requests s)

-- A span of the circuit's own arc is in trouble. Where the circuit is kept, that span isn't applied, since another
-- request is as high or higher.
abbrev pub is_impaired : Planned → List Failure → Provisioned → Bool
is_impaired plan case c = not (is_clear (length plan.nodes) (is_troubled (requests_with plan case)) (arc_of (length plan.nodes) c))

-- the number of spans over which the bytes of a circuit with this verdict go from port to port; 0 where its ends aren't
-- joined
abbrev pub hops_where : Verdict → ℕ → (ℕ → Bool) → Provisioned → ℕ
hops_where Lost n applied c = 0
hops_where v n applied c = hops n applied (arc_of n c)

-- the number of spans over which the bytes of a circuit go where these spans are applied; 0 where its ends aren't
-- joined
abbrev pub hops_under : ℕ → (ℕ → Bool) → Provisioned → ℕ
hops_under n applied c = hops_where (verdict_under n applied c) n applied c

-- the number of spans over which the bytes of a circuit of the plan go in a case
abbrev pub hops_of : Planned → List Failure → Provisioned → ℕ
hops_of plan case c = hops_under (length plan.nodes) (is_applied (requests_with plan case)) c

-- ---- failures that would mend something

-- the state of side d of position p after the plan's script
abbrev pub left_by : Planned → ℕ → Side → rest.Resting
left_by plan p d = rests plan.settings.threshold (length plan.nodes) p d plan.steps rest.fresh

abbrev pub is_forced : Command → Bool
is_forced command.Forced = true
is_forced command.Manual = false
is_forced command.Clear = false

-- The failure's step would take the place of something worse that the script has set. It is a degradation of a fibre
-- that is cut, or a manual switch of a side that has a forced one.
abbrev pub mends : Planned → Failure → Bool
mends plan (Degraded at side) = is_cut (left_by plan (neighbour (length plan.nodes) at.0 side) (opposite side)).holding.condition
mends plan (Manual at side) = is_forced (left_by plan at.0 side).holding.command
mends plan (Cut at side) = false
mends plan (Span at) = false
mends plan (Node at) = false
mends plan (Forced at side) = false

-- ---- what the program keeps

-- the local request of a side after the longer script
abbrev pub asks_with : Planned → List Failure → ℕ → Side → Code
asks_with plan case p d =
    rest.asks plan.settings.wait (rest.rest_in plan.settings.threshold (length plan.nodes) p d (scenes_with plan case) rest.fresh)

-- the local requests of both sides of a node after the longer script
abbrev pub asked_at : Planned → List Failure → ℕ → LocalRequests
asked_at plan case p = record { west = asks_with plan case p West; east = asks_with plan case p East }

-- the state, after the plan's script, of the side that has this number
abbrev pub numbered : Planned → ℕ → rest.Resting
numbered plan number = left_by plan (number / 2) (side_of number)

-- the program's sides are those of the plan's ring, as its script leaves them
pub record AreSidesOf (plan : Planned) (s : Sides) : Type 0 where
  pub nodes : s.map.now ≡ plan.nodes
  pub threshold : s.threshold ≡ plan.settings.threshold
  pub wait : s.wait ≡ plan.settings.wait
  pub rests : map resting_of s.rests.items ≡ cells (numbered plan) (2 * length plan.nodes)

-- the number of places below k at which a test holds
abbrev pub count_below : (ℕ → Bool) → ℕ → ℕ
count_below p zero = 0
count_below p (suc k) = count_below p k + (if p k then 1 else 0)

-- the places below k at which a test holds, in their order
abbrev pub places_below : (ℕ → Bool) → ℕ → List ℕ
places_below p zero = []
places_below p (suc k) = places_below p k ++ (if p k then k ∷ [] else [])

abbrev pub numbers_of : List RingSpan → List ℕ
numbers_of spans = map (λ s. s.0) spans

-- a is the set of the spans of a ring of n at which p holds: it has their number before each place, round the ring
-- twice, and the spans themselves in their order
pub record AreSpans (n : ℕ) (p : ℕ → Bool) (a : SpanSet) : Type 0 where
  pub before : (i : ℕ) → i ≤ 2 * n → slice_index a.before i ≡ count_below (λ j. p (j % n)) i
  pub among : (s : ℕ) → s < n → is_among (take a.many a.spans) s ≡ p s
  pub listed : numbers_of (take a.many a.spans) ≡ places_below p n
  pub fit : a.many ≤ 16
  pub some : 1 ≤ n
  pub few : n ≤ 16
