-- What a quiet window leaves is at rest, and rounds leave it so.
use Rattle.std.proofs.Common.{◌≡◌, ℕ, zero, suc, ◌+◌, ◌-◌, ◌*◌, ◌<◌, ◌≤◌, false, length, refl, ap, sym, ◌∙◌, subst, arith, inl}
use Rattle.std.specs.Prelude.{true, nat_le}
use Rattle.sdh_payload.specs.Clock.{Clock}
use Rattle.sdh_circuits.specs.declared.PortId.{PortId}
use Rattle.sdh_signal.specs.Settled.{settled_states}
use Rattle.sdh_signal.specs.Laws.{StillRingsAreSettled}
use Rattle.sdh_node.specs.Node.{Node, is_held}
use Rattle.sdh_node.specs.Stations.{adm}
use Rattle.sdh_node.specs.Rings.Held.{node_at, AtEach}
use Rattle.sdh_node.specs.Rings.Rounds.{World, round, round_with}
use Rattle.sdh_node.specs.Rings.Runs.{run, course, IsRound}
use Rattle.sdh_node.specs.Rings.Quiet.{is_calm, IsCalm, EndsWindow}
use Rattle.sdh_node.specs.Rings.Clocks.{clocks_from}
use Rattle.sdh_rounds.proofs.Runs.{known_settles}
use Rattle.sdh_laws.specs.Hearing.Signalling.{signals_of}
use Rattle.sdh_laws.specs.Hearing.Laws.{IsWhole, RoundIsStill}
use Rattle.sdh_laws.proofs.hearing.Changes.{whole_run}
use Rattle.sdh_laws.proofs.hearing.Rounds.{whole_round}
use Rattle.sdh_laws.proofs.hearing.Signalling.{calm_rounds_are_still, three_calm_rounds_are_settled, requests_stay}
use Rattle.sdh_laws.specs.Carrying.Windows.{layout_of, positions_of, HasCircuits, span_requests_of, FailOnApplied, IsQuiet}
use Rattle.sdh_laws.specs.Carrying.Laws.{DeliversWhatIsDue}
use Rattle.sdh_laws.proofs.carrying.Applied.{length-requests_of}
use Rattle.sdh_laws.proofs.carrying.Owed.{quiet_delivers}
use Rattle.sdh_laws.proofs.carrying.Settles.{each_settled, failing_after}
use Rattle.sdh_laws.proofs.carrying.Ways.{layout_run}
use Rattle.sdh_laws.proofs.converging.Runs.{run_more, nodes_run}
use Rattle.sdh_laws.specs.Resting.Rest.{IsAtRest, StaysAtRest}
use Rattle.sdh_laws.specs.Resting.Laws.{CalmGoesOn, StepsLeaveAtRest, RestGoesOn}
use Rattle.sdh_laws.proofs.hearing.Steady.{held_none, free_next}
use Rattle.sdh_laws.proofs.resting.Calm.{calm_later}
use Rattle.sdh_rounds.specs.Runs as any_run
use Rattle.sdh_rounds.specs.Rounds as any_round
use Rattle.sdh_rounds.proofs.Terms.{terms}

pub calm_goes_on : StillRingsAreSettled → CalmGoesOn
calm_goes_on law w whole form six j late = calm_later law w whole form 0 (λ i low high. six i (omega arith) (omega arith)) j (omega arith)

-- ---- where all rounds from one on are calm

module _ (law : StillRingsAreSettled) (w : World) (whole : IsWhole w) (form : HasCircuits (layout_of w)) (a : ℕ)
    (calm : (j : ℕ) → a < j → IsCalm (course w) j) where
  open terms w use {n}

  calm_round_at : (j : ℕ) → a ≤ j → is_calm (round (run j w)).ring.nodes ≡ true
  unfolding any_run.run
  calm_round_at j late = calm (suc j) (omega arith)

  still_at : (j : ℕ) → a ≤ j → RoundIsStill (run j w)
  still_at j late = calm_rounds_are_still (run j w) (whole_run w j whole) (calm_round_at j late)

  -- the states are the settled ones, under the requests of the round and of all others
  states_third : (i : ℕ) → (signals_of (run (3 + (i + a)) w)).states ≡ settled_states (span_requests_of (run (3 + (i + a)) w))
  states_third i =
      subst (λ v. (signals_of v).states ≡ settled_states (span_requests_of v)) (run_more w (i + a) 3)
      (three_calm_rounds_are_settled law (run (i + a) w) (whole_run w (i + a) whole) (there 1 (omega arith)) (there 2 (omega arith))
      (there 3 (omega arith)))
    where
      there : (j : ℕ) → 1 ≤ j → IsCalm (course (run (i + a) w)) j
      there j some = ap (λ (v : World). is_calm v.ring.nodes) (run_more w (i + a) j) ∙ calm (j + (i + a)) (omega arith)

  states_back : (k : ℕ) → (signals_of (run (k + a) w)).states ≡ (signals_of (run a w)).states
  unfolding any_run.run
  states_back zero = ap (λ j. (signals_of (run j w)).states) (let e : zero + a ≡ a = omega arith in e)
  states_back (suc k) =
      ap (λ j. (signals_of (run j w)).states) (let e : suc k + a ≡ suc (k + a) = omega arith in e) ∙ (still_at (k + a) (omega arith)).states
      ∙ states_back k

  requests_one : (j k : ℕ) → a ≤ j → span_requests_of (run (j + k) w) ≡ span_requests_of (run j w)
  requests_one j k late = requests_stay w j k whole (λ i low high. calm i (omega arith))

  requests_at : (j k : ℕ) → a ≤ j → a ≤ k → span_requests_of (run j w) ≡ span_requests_of (run k w)
  requests_at j k hj hk =
      let x : a + (j - a) ≡ j = omega arith in
      let y : a + (k - a) ≡ k = omega arith in
      ap (λ i. span_requests_of (run i w)) (sym x) ∙ requests_one a (j - a) (omega arith) ∙ sym (requests_one a (k - a) (omega arith))
      ∙ ap (λ i. span_requests_of (run i w)) y

  states_at : (j k : ℕ) → a ≤ j → a ≤ k → (signals_of (run j w)).states ≡ settled_states (span_requests_of (run k w))
  states_at j k hj hk =
      let x : j - a + a ≡ j = omega arith in
      let y : 3 + (0 + a) ≡ 3 + a = omega arith in
      ap (λ i. (signals_of (run i w)).states) (sym x) ∙ states_back (j - a) ∙ sym (states_back 3)
      ∙ ap (λ i. (signals_of (run i w)).states) (sym y) ∙ states_third 0
      ∙ ap settled_states (requests_at (3 + (0 + a)) k (omega arith) hk)

  failing_at : (j k : ℕ) → 1 ≤ j → a ≤ j → a ≤ k → FailOnApplied n (span_requests_of (run k w)) (run j w)
  failing_at j k some hj hk =
      let one : suc (j - 1) ≡ j = omega arith in
      subst (λ qs. FailOnApplied n qs (run j w)) (requests_at j k hj hk)
      (subst (λ i. FailOnApplied n (span_requests_of (run i w)) (run i w)) one (failing_after w whole (j - 1)))

  -- rounds from the first to the last are quiet
  pub quiet : (first last : ℕ) → 1 ≤ first → a < first → first ≤ last → IsQuiet n (span_requests_of (run last w)) w first last
  quiet first last some early long = record {
    spans = length-requests_of (run last w) n (nodes_run w whole last);
    calm = λ j low high. calm j (omega arith);
    settled_are =
        λ j low high. each_settled (run j w) n (span_requests_of (run last w)) (nodes_run w whole j) (length-requests_of (run last w) n (nodes_run w whole last))
        (states_at j last (omega arith) (omega arith));
    failing = λ j low high. failing_at j last (omega arith) (omega arith) (omega arith);
  }

  -- each port delivers what it is owed 2n rounds later
  delivers : (last : ℕ) → a + 1 + 2 * n ≤ last → DeliversWhatIsDue (clocks_from w) (run last w) (span_requests_of (run last w))
  delivers last long =
      quiet_delivers w whole form (span_requests_of (run last w)) (a + 1) last (quiet (a + 1) last (omega arith) (omega arith) (omega arith))
      (omega arith) long

  free_there : (j : ℕ) → a ≤ j → AtEach (λ p m. m.held ≡ 0) (run j w).ring.nodes
  free_there j late p h = held_none (node_at (run j w).ring.nodes p).held ((still_at j late).free p h)

  pub rests_from : (k : ℕ) → a + 2 * n ≤ k → IsAtRest (clocks_from w) (run k w)
  rests_from k long = record {
    whole = whole_run w k whole;
    free = free_there k (omega arith);
    calm = λ i some. ap (λ (v : World). is_calm v.ring.nodes) (run_more w k i) ∙ calm (i + k) (omega arith);
    due =
        λ i some. subst (λ v. DeliversWhatIsDue (clocks_from w) v (span_requests_of v)) (sym (run_more w k i)) (delivers (i + k) (omega arith));
  }

-- ---- a quiet window

pub window_rests : StillRingsAreSettled → (w : World) → IsWhole w → HasCircuits (layout_of w) → (k : ℕ) → EndsWindow (course w) k
    → IsAtRest (clocks_from w) (run k w)
window_rests law w whole form k ends =
    let size = ap positions_of (layout_run w k) in
    let enough = whole.placed.ids.enough in
    let long = ends.long in
    let a = k - 3 * length w.ring.ids in
    rests_from law w whole form a (calm_later law w whole form a (λ j low high. ends.calm j (omega arith) (omega arith))) k (omega arith)

pub steps_leave_at_rest : StillRingsAreSettled → StepsLeaveAtRest
steps_leave_at_rest law w left limit form settles whole =
    let known = known_settles adm w limit left (inl whole.paired.honest.honest) settles in
    subst (IsAtRest (clocks_from w)) (sym known.2) (window_rests law w whole form known.0 known.1.window)

-- ---- a round

pub known_round : (w after : World) → IsWhole w → IsRound w after → after ≡ round w
unfolding any_round.round
known_round w after whole is = is.after_is ∙ ap (λ xs. round_with xs w) (is.arrive.known (inl whole.paired.honest.honest))

next_run : (w : World) (k : ℕ) → run k (round w) ≡ run (suc k) w
unfolding any_run.run
next_run w zero = refl
next_run w (suc k) = ap round (next_run w k)

stays : (clocks : PortId → ℕ → Clock) (w : World) → IsAtRest clocks w → StaysAtRest clocks (round w)
unfolding any_run.run
stays clocks w rests = record {
  calm = rests.calm 1 (omega arith);
  due = rests.due 1 (omega arith);
  rests = record {
    whole = whole_round w rests.whole;
    free =
        λ p h. held_none (node_at (round w).ring.nodes p).held
        (free_next w rests.whole (λ q i. free_by (node_at w.ring.nodes q) (rests.free q i)) p h);
    calm = λ k some. ap (λ (v : World). is_calm v.ring.nodes) (next_run w k) ∙ rests.calm (suc k) (omega arith);
    due = λ k some. subst (λ v. DeliversWhatIsDue clocks v (span_requests_of v)) (sym (next_run w k)) (rests.due (suc k) (omega arith));
  };
}
  where
    free_by : (m : Node) → m.held ≡ 0 → is_held m ≡ false
    free_by m none = ap (nat_le 1) none

pub rest_goes_on : RestGoesOn
rest_goes_on w after is clocks rests = subst (StaysAtRest clocks) (sym (known_round w after rests.whole is)) (stays clocks w rests)
