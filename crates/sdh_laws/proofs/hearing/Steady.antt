-- A ring to which nothing happens but rounds: no node is held from round 100 on, and no slip waits; after three rounds
-- more what its nodes need stays, whatever its sections kept, and then its signalling settles.
use Rattle.sdh_ringmap.specs.declared.Side.{Side}
use Rattle.sdh_ringmap.specs.declared.Side.TheVariants.{West, East}
use Rattle.sdh_ringmap.specs.Places.{neighbour, opposite}
use Rattle.sdh_request.specs.declared.Defect.{Defect}
use Rattle.sdh_request.specs.declared.Defect.TheVariants as defect
use Rattle.sdh_request.specs.History.{ends}
use Rattle.sdh_request.specs.Kept as local
use Rattle.sdh_request.specs.Kept.{kept_request}
use Rattle.sdh_nodestate.specs.declared.Needs.{Needs}
use Rattle.sdh_signal.specs.Settled.{settled_states}
use Rattle.sdh_signal.specs.Signals as signal
use Rattle.sdh_signal.specs.Signals.{Signals, requests_in}
use Rattle.sdh_signal.specs.Laws.{RingsSettle, Settles}
use Rattle.sdh_signal.specs.Runs.{at_round}
use Rattle.sdh_signal.proofs.RunRounds.{run_of, states_are}
use Rattle.sdh_nodestate.specs.Rules.{state_after}
use Rattle.sdh_nodestate.specs.declared.NodeState.TheVariants as node
use Rattle.std.proofs.lemmas.List.{get_or-map}
use Rattle.sdh_ringmap.specs.declared.terms.Condition.{Condition}
use Rattle.sdh_ringmap.specs.Fibres.{fibre_to, is_cut}
use Rattle.sdh_plant.specs.Arrivals.{carried_on}
use Rattle.std.proofs.Common.{◌≡◌, ℕ, zero, suc, ◌+◌, ◌-◌, ◌<◌, ◌≤◌, Bool, false, List, length, get_or, Some, refl, ap, sym, subst, ◌∙◌, arith, inl}
use Rattle.std.proofs.Common.{inr}
use Rattle.std.specs.Prelude.{nat_le, if◌then◌else◌}
use Rattle.std.proofs.lemmas.Bool.{cases_Bool}
use Rattle.std.proofs.lemmas.Bool.Decides.{nat_tests}
use Rattle.sdh_node.specs.Receiving.{local_after}
use Rattle.sdh_node.specs.Crossing.{is_failed}
use Rattle.sdh_node.specs.Node.{Node, receiving_on, is_held, needed}
use Rattle.sdh_node.specs.Rings.Rounds.{World, round, arrivals_of}
use Rattle.sdh_node.specs.Rings.Runs.{run}
use Rattle.sdh_laws.specs.Hearing.Signalling.{signals_of, needs_in}
use Rattle.sdh_spans.specs.Frames.{violations_shown}
use Rattle.sdh_laws.specs.Hearing.Laws.{IsWhole, NoneWait, StillFrom, FreeRunsGetStill, RunsGetStill}
use Rattle.sdh_laws.proofs.hearing.Violations.{ShowsSo, defect_shown, shows_later}
use Rattle.sdh_laws.proofs.hearing.Staying.{left_run}
use Rattle.sdh_laws.proofs.hearing.Nodes.{informed, count, nodes_after, length-after, feeds_round}
use Rattle.sdh_payload.specs.Clock.{waiting}
use Rattle.sdh_payload.proofs.Clocking.{plain_tick}
use Rattle.sdh_laws.proofs.hearing.Rounds.{neighbour_inside, made, defect_cut, took_is, whole_round}
use Rattle.sdh_laws.proofs.hearing.Clocks.{AllTicked, ticked_first, ticked_round, ticked_out}
use Rattle.sdh_laws.proofs.hearing.Changes.{whole_run}
use Rattle.sdh_laws.proofs.hearing.Follows.{Keeps, keeps_one, condition_after}
use Rattle.sdh_laws.proofs.hearing.Signalling.{mapped_same, goes_free, may_go, one_run}
use Rattle.sdh_laws.specs.Restoring.Laws.{NoControllerHeld}
use Rattle.sdh_node.proofs.Decided.{turns_left}
use Rattle.sdh_node.specs.Rings.Held.{node_at, nowhere, AtEach}
use Rattle.sdh_node.specs.Rings.Sides.{condition_to}
use Rattle.sdh_rounds.specs.Rounds as any_round
use Rattle.sdh_rounds.specs.Runs as any_run

-- ---- what a round leaves

settings_kept : (w : World) → (round w).ring.settings ≡ w.ring.settings
unfolding any_round.round any_round.round_with
settings_kept w = refl

moment_kept : (w : World) → (round w).ring.moment ≡ w.ring.moment
unfolding any_round.round any_round.round_with
moment_kept w = refl

condition_kept : (w : World) (p : ℕ) (d : Side) → condition_to (round w) p d ≡ condition_to w p d
unfolding any_round.round
condition_kept w p d = condition_after (arrivals_of w) w p d

-- ---- held turns run out

-- at most `turns` held turns are left
abbrev pub AllHeldFor : ℕ → World → Type 0
AllHeldFor turns w = AtEach (λ p n. n.held ≤ turns) w.ring.nodes

-- a round takes each node one of the turns that it misses
pub one_less : (w : World) → IsWhole w → (turns : ℕ) → AllHeldFor turns w → AllHeldFor (turns - 1) (round w)
one_less w whole turns all p h =
    let low : p < length w.ring.nodes = omega (arith, length-after w) in
    let was = all p low in
    let now : (node_at (round w).ring.nodes p).held ≡ (node_at w.ring.nodes p).held - 1 =
    ap (λ (n : Node). n.held) (nodes_after w whole.placed p low) ∙ turns_left w.ring.moment (informed w p) in
    omega arith

pub held_after : (w : World) → IsWhole w → (turns : ℕ) → AllHeldFor turns w → (k : ℕ) → AllHeldFor (turns - k) (run k w)
unfolding any_run.run
held_after w whole turns all zero = subst (λ j. AllHeldFor j w) (let e : turns ≡ turns - zero = omega arith in e) all
held_after w whole turns all (suc k) =
    subst (λ j. AllHeldFor j (run (suc k) w)) (let e : turns - k - 1 ≡ turns - suc k = omega arith in e)
    (one_less (run k w) (whole_run w k whole) (turns - k) (held_after w whole turns all k))

is_free : (n : Node) → n.held ≤ 0 → is_held n ≡ false
is_free n none = ap (nat_le 1) (let e : n.held ≡ 0 = omega arith in e)

pub held_none : (h : ℕ) → nat_le 1 h ≡ false → h ≡ 0
held_none h e = grind (arith, nat_tests)

pub free_at : (w : World) → IsWhole w → (k : ℕ) → 100 ≤ k → NoControllerHeld (run k w)
free_at w whole k late p h = let left =
    held_after w whole 100 whole.paired.held k p h in is_free (node_at (run k w).ring.nodes p) (omega arith)

-- no node that isn't held now is held later
pub held_for_none : (turns : ℕ) (w : World) → NoControllerHeld w → AllHeldFor turns w
held_for_none turns w free p h = (let none = held_none (node_at w.ring.nodes p).held (free p h) in omega (arith, none))

pub free_stays : (w : World) → IsWhole w → NoControllerHeld w → (k : ℕ) → NoControllerHeld (run k w)
free_stays w whole free k p h = let left =
    held_after w whole 0 (held_for_none 0 w free) k p h in is_free (node_at (run k w).ring.nodes p) (omega arith)

-- where no node is held now, none is held in the next round
pub free_next : (w : World) → IsWhole w → NoControllerHeld w → NoControllerHeld (round w)
free_next w whole free p h = is_free (node_at (round w).ring.nodes p) (one_less w whole 0 (held_for_none 0 w free) p h)

-- ---- slips run out

all_ticked : (w : World) → IsWhole w → (k : ℕ) → AllTicked k (run k w)
unfolding any_run.run
all_ticked w whole zero = ticked_first w whole.placed whole.paired.slips
all_ticked w whole (suc k) = ticked_round k (run k w) (whole_run w k whole).placed (all_ticked w whole k)

-- no slip waits at any port
pub none_wait : (w : World) → IsWhole w → (k : ℕ) → 68 ≤ k → AtEach (λ p n. NoneWait n.ports) (run k w).ring.nodes
none_wait w whole k late p h = ticked_out k (node_at (run k w).ring.nodes p).ports late (all_ticked w whole k p h)

-- no slip waits later where none waits now
pub none_waits_later : (w : World) → IsWhole w → AtEach (λ p n. NoneWait n.ports) w.ring.nodes → (k : ℕ)
    → AtEach (λ p n. NoneWait n.ports) (run k w).ring.nodes
unfolding any_run.run
none_waits_later w whole none zero = none
none_waits_later w whole none (suc k) =
    feeds_round (λ f. waiting f.clock ≡ 0) (λ f. waiting f.clock ≡ 0) (λ f rests. (plain_tick f.clock rests).0) (run k w)
    (whole_run w k whole).placed (none_waits_later w whole none k)

-- ---- rings whose frames show what their fibres do

pub record IsSteady (w : World) : Type 0 where
  pub whole : IsWhole w
  pub some : 0 < w.ring.rounds
  pub keeps : Keeps w
  pub shows : (d : Side) → AtEach (λ p n. ShowsSo w.ring.settings.rate (violations_shown (condition_to w p d)) w.ring.rounds
      (carried_on w.fibres (fibre_to (length w.ring.ids) p d)) (receiving_on d n).section.last) w.ring.nodes

-- after a round that isn't the first, a ring whose sections keep their parities is steady
steady_second : (w : World) → IsWhole w → 0 < w.ring.rounds → Keeps w → IsSteady (round w)
unfolding any_round.round any_round.round_with
steady_second w whole some keeps = record {
  whole = whole_round w whole;
  some = omega arith;
  keeps = keeps_one w whole;
  shows = λ d p h. (let low : p < length w.ring.nodes = (let len = length-after w in omega arith) in
      subst (λ c. ShowsSo w.ring.settings.rate (violations_shown c) (w.ring.rounds + 1)
      (carried_on (round w).fibres (fibre_to (length w.ring.ids) p d)) (receiving_on d (node_at (round w).ring.nodes p)).section.last)
      (sym (condition_kept w p d))
      (shows_later w whole p d low some (keeps (opposite d) (neighbour (length w.ring.ids) p d) (neighbour_inside w whole p d))));
}

some_after : (w : World) → 0 < (round w).ring.rounds
unfolding any_round.round any_round.round_with
some_after w = omega arith

pub steady_two : (w : World) → IsWhole w → IsSteady (round (round w))
steady_two w whole = steady_second (round w) (whole_round w whole) (some_after w) (keeps_one w whole)

pub steady_more : (w : World) → IsSteady w → IsSteady (round w)
steady_more w is = steady_second w is.whole is.some is.keeps

-- ---- one side

-- the defect on a fibre in a condition
abbrev defect_on : ℕ → Condition → Defect
defect_on threshold c = if is_cut c then defect.Sf else if nat_le threshold (violations_shown c) then defect.Sd else defect.None

no_end : (d : Defect) → ends d d ≡ false
no_end defect.None = refl
no_end defect.Sd = refl
no_end defect.Sf = refl

-- what is kept stays where the defect and the moment do
asked_same : (now : ℕ) (d : Defect) (k : local.LocalKept) → k.defect ≡ d → k.moment ≡ now → local_after now d k ≡ k
asked_same now d k same present =
    let ended : (if ends k.defect d then Some now else k.ended) ≡ k.ended =
    ap (λ (y : Defect). if ends y d then Some now else k.ended) same ∙ ap (λ (b : Bool). if b then Some now else k.ended) (no_end d) in
    λ i. record { wait = k.wait; command = k.command; defect = sym same i; moment = sym present i; ended = ended i }

module _ (w : World) (is : IsSteady w) (p : ℕ) (d : Side) (h : p < length w.ring.nodes) where
  abbrev c : Condition
  c = condition_to w p d

  abbrev th : ℕ
  th = w.ring.settings.threshold

  defect_made : (made w is.whole p d).defect ≡ defect_on th c
  defect_made = elim (cases_Bool (is_cut c)) [
    | inl cut ↦ defect_cut w is.whole p d is.some h cut ∙ sym
        (ap (λ (b : Bool). if b then defect.Sf else if nat_le th (violations_shown c) then defect.Sd else defect.None) cut)
    | inr clear ↦ defect_shown w is.whole p d h is.some clear (violations_shown c) (is.shows d p h)
        ∙ sym (ap (λ (b : Bool). if b then defect.Sf else if nat_le th (violations_shown c) then defect.Sd else defect.None) clear)
  ]

  local_made : (receiving_on d (node_at (round w).ring.nodes p)).local
      ≡ local_after w.ring.moment (defect_on th c) (receiving_on d (node_at w.ring.nodes p)).local
  local_made =
      (took_is w is.whole p d h).local ∙ ap (λ y. local_after w.ring.moment y (receiving_on d (node_at w.ring.nodes p)).local) defect_made

  request_made : (receiving_on d (node_at (round w).ring.nodes p)).request
      ≡ kept_request (receiving_on d (node_at (round w).ring.nodes p)).local
  request_made = let took = took_is w is.whole p d h in took.request ∙ ap kept_request (sym took.local)

-- what a side keeps and asks for stays after one round more
module _ (w : World) (is : IsSteady w) (p : ℕ) (d : Side) (h : p < length w.ring.nodes) where
  abbrev next : World
  next = round w

  abbrev steady_next : IsSteady next
  steady_next = steady_more w is

  inside : p < length next.ring.nodes
  inside = omega (arith, length-after w)

  abbrev kept : local.LocalKept
  kept = (receiving_on d (node_at next.ring.nodes p)).local

  local_stays : (receiving_on d (node_at (round next).ring.nodes p)).local ≡ kept
  local_stays =
      let made_now = local_made w is p d h in
      local_made next steady_next p d inside
      ∙ ap (λ m. local_after m (defect_on next.ring.settings.threshold (condition_to next p d)) kept) (moment_kept w)
      ∙ ap (λ y. local_after w.ring.moment y kept) (ap (λ s. defect_on s.threshold (condition_to next p d)) (settings_kept w)
      ∙ ap (defect_on w.ring.settings.threshold) (condition_kept w p d))
      ∙ asked_same w.ring.moment (defect_on w.ring.settings.threshold (condition_to w p d)) kept
      (ap (λ (k : local.LocalKept). k.defect) made_now) (ap (λ (k : local.LocalKept). k.moment) made_now)

  request_stays : (receiving_on d (node_at (round next).ring.nodes p)).request ≡ (receiving_on d (node_at next.ring.nodes p)).request
  request_stays = request_made next steady_next p d inside ∙ ap kept_request local_stays ∙ sym (request_made w is p d h)

-- ---- the needs

same_needs : (a b : Needs) → a.west ≡ b.west → a.east ≡ b.east → a.west_fails ≡ b.west_fails → a.east_fails ≡ b.east_fails → a ≡ b
same_needs a b e f g h = λ i. record { west = e i; east = f i; west_fails = g i; east_fails = h i }

pub needs_stay : (w : World) → IsSteady w → needs_in (round (round w)) ≡ needs_in (round w)
unfolding needs_in
needs_stay w is = mapped_same needed (round (round w)).ring.nodes (round w).ring.nodes (length-after (round w)) (λ p h.
    (let low : p < length w.ring.nodes = omega (arith, length-after w, length-after (round w)) in
    same_needs _ _ (request_stays w is p West low) (request_stays w is p East low)
    (ap (λ (k : local.LocalKept). is_failed k.defect) (local_stays w is p West low))
    (ap (λ (k : local.LocalKept). is_failed k.defect) (local_stays w is p East low))))

-- ---- runs

-- a run in which no controller misses a turn from round f on
module _ (w : World) (whole : IsWhole w) (f : ℕ) (free : (k : ℕ) → f ≤ k → NoControllerHeld (run k w)) where
  abbrev pub after : ℕ → World
  after k = run k w

  step_at : (k j : ℕ) → k ≡ suc j → after k ≡ round (after j)
  step_at k j e = ap (λ i. after i) e ∙ one_run w j

  steady_at : (k : ℕ) → IsSteady (after (f + 2 + k))
  steady_at zero = subst IsSteady (sym two) (steady_two (after f) (whole_run w f whole))
    where
      two : after (f + 2 + zero) ≡ round (round (after f))
      two = step_at (f + 2 + zero) (suc f) (omega arith) ∙ ap round (step_at (suc f) f refl)
  steady_at (suc k) =
      subst IsSteady (sym (step_at (f + 2 + suc k) (f + 2 + k) (omega arith))) (steady_more (after (f + 2 + k)) (steady_at k))

  needs_from : (k : ℕ) → f + 3 ≤ k → needs_in (after (suc k)) ≡ needs_in (after k)
  needs_from k late =
      let j : ℕ = k - (f + 3) in
      let was : after k ≡ round (after (f + 2 + j)) = step_at k (f + 2 + j) (omega arith) in
      ap needs_in (one_run w k ∙ ap round was) ∙ needs_stay (after (f + 2 + j)) (steady_at j) ∙ sym (ap needs_in was)

  abbrev pub needs : List Needs
  needs = needs_in (after (f + 3))

  needs_at : (j : ℕ) → needs_in (after (f + 3 + j)) ≡ needs
  needs_at zero = ap (λ k. needs_in (after k)) (let e : f + 3 + zero ≡ f + 3 = omega arith in e)
  needs_at (suc j) =
      ap (λ k. needs_in (after k)) (let e : f + 3 + suc j ≡ suc (f + 3 + j) = omega arith in e) ∙ needs_from (f + 3 + j) (omega arith)
      ∙ needs_at j

  abbrev pub begin : Signals
  begin = signals_of (after (f + 2))

  signals_at : (j : ℕ) → signals_of (after (f + 2 + j)) ≡ signal.unheld_rounds needs j begin
  signals_at zero = ap (λ k. signals_of (after k)) (let e : f + 2 + zero ≡ f + 2 = omega arith in e)
  signals_at (suc j) =
      let e : f + 2 + suc j ≡ suc (f + 2 + j) = omega arith in
      let g : suc (f + 2 + j) ≡ f + 3 + j = omega arith in
      ap (λ k. signals_of (after k)) e ∙ ap signals_of (one_run w (f + 2 + j))
      ∙ goes_free (after (f + 2 + j)) (whole_run w (f + 2 + j) whole) (free (f + 2 + j) (omega arith))
      ∙ ap (λ v. signal.free_round (needs_in v) (signals_of (after (f + 2 + j)))) (sym (one_run w (f + 2 + j)))
      ∙ ap (λ n. signal.free_round n (signals_of (after (f + 2 + j)))) (ap (λ k. needs_in (after k)) g ∙ needs_at j)
      ∙ ap (signal.free_round needs) (signals_at j)

  pub begin_ids : begin.ids ≡ w.ring.ids
  unfolding signals_of
  begin_ids = (left_run (f + 2) w).ids

  -- the ring as a run of signals, from these needs on
  pub may_signal : signal.MaySignal needs begin
  may_signal =
      subst (λ v. signal.MaySignal (needs_in v) begin) (sym (step_at (f + 3) (f + 2) (omega arith)))
      (may_go (after (f + 2)) (whole_run w (f + 2) whole))

  -- the state of a node in a round of that run
  pub state_then : (j p : ℕ) → p < length w.ring.nodes → (node_at (after (suc (f + 2 + j))).ring.nodes p).state
      ≡ state_after (at_round (run_of needs begin may_signal) j p)
  unfolding signals_of any_run.run
  state_then j p h =
      let here : p < length (after (suc (f + 2 + j))).ring.nodes = omega (arith, h, length_then (suc (f + 2 + j))) in
      let low : p < length begin.ids = omega (arith, h, count_then, ap length begin_ids) in
      sym (get_or-map (λ (n : Node). n.state) (after (suc (f + 2 + j))).ring.nodes p nowhere (node.Idle tt) here)
      ∙ ap (λ (s : Signals). get_or s.states p (node.Idle tt))
      (ap (λ k. signals_of (after k)) {x = suc (f + 2 + j)} {y = f + 2 + suc j} (omega arith) ∙ signals_at (suc j))
      ∙ states_are needs begin may_signal j p low
    where
      length_then : (k : ℕ) → length (after k).ring.nodes ≡ length w.ring.nodes
      length_then zero = refl
      length_then (suc k) = ap (λ (v : World). length v.ring.nodes) (one_run w k) ∙ length-after (after k) ∙ length_then k

      count_then : length w.ring.nodes ≡ length w.ring.ids
      count_then = count w whole.placed

  settles : RingsSettle → Settles needs begin
  settles law = law needs begin may_signal

  pub still_from : RingsSettle → StillFrom w f
  still_from law = record {
    needs = needs_from;
    states = λ k late. (
        let size : length begin.ids ≡ length w.ring.ids = ap length begin_ids in
        let j : ℕ = k - (f + 2) in
        let i : ℕ = k - (f + 3) in
        let e : k ≡ f + 2 + j = omega arith in
        let g : f + 3 + i ≡ k = omega arith in
        ap (λ m. (signals_of (after m)).states) e ∙ ap (λ (s : Signals). s.states) (signals_at j)
        ∙ (settles law).settled j (omega arith)
        ∙ ap (λ n. settled_states (requests_in n)) (sym (needs_at i) ∙ ap (λ m. needs_in (after m)) g));
    words = λ k late. (
        let size : length begin.ids ≡ length w.ring.ids = ap length begin_ids in
        let j : ℕ = k - (f + 2) in
        let e : k ≡ f + 2 + j = omega arith in
        let g : suc k ≡ f + 2 + suc j = omega arith in
        ap (λ m. (signals_of (after m)).words) g ∙ ap (λ (s : Signals). s.words) (signals_at (suc j))
        ∙ (settles law).words j (omega arith)
        ∙ sym (ap (λ (s : Signals). s.words) (signals_at j)) ∙ ap (λ m. (signals_of (after m)).words) (sym e));
  }

pub free_runs_get_still : RingsSettle → FreeRunsGetStill
free_runs_get_still law w whole f free = still_from w whole f free law

-- every controller is free from round 100 on
pub runs_get_still : RingsSettle → RunsGetStill
runs_get_still law w whole =
    let still = still_from w whole 100 (free_at w whole) law in
    record {
      free = free_at w whole;
      slips = λ k late. none_wait w whole k (omega arith);
      needs = λ k late. still.needs k (omega arith);
      states = λ k late. still.states k (omega arith);
      words = λ k late. still.words k (omega arith);
    }
