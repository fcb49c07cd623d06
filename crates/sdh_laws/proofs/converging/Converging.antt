-- From any ring that is paired with its fibres: all rounds are calm from some round on.
use Rattle.std.proofs.Common.{◌≡◌, ℕ, zero, suc, ◌+◌, ◌-◌, ◌*◌, ◌<◌, ◌≤◌, List, length, get_or, ap, sym, ◌∙◌}
use Rattle.std.proofs.Common.{subst, arith, inl}
use Rattle.sdh_ringmap.specs.declared.Side.{Side}
use Rattle.sdh_ringmap.specs.Places.{neighbour, opposite}
use Rattle.sdh_nodestate.specs.declared.Needs.{Needs}
use Rattle.sdh_signal.specs.Settled.{settled_states}
use Rattle.sdh_signal.specs.Signals.{requests_in, request_on, no_needs}
use Rattle.sdh_signal.specs.Laws.{RingsSettle}
use Rattle.sdh_nodestate.specs.Filtering.{Brought, hears, heard_of}
use Rattle.sdh_node.specs.Node.{receiving_on, sending_on, last_word_on, sent_of}
use Rattle.sdh_node.specs.Rings.Rounds.{World, round}
use Rattle.sdh_node.specs.Rings.Runs.{run, course}
use Rattle.sdh_node.specs.Rings.Quiet.{IsCalm}
use Rattle.sdh_rounds.proofs.Runs.{known_unsettles}
use Rattle.sdh_laws.specs.Hearing.Signalling.{word_to, signals_of, needs_in}
use Rattle.sdh_laws.specs.Hearing.Laws.{IsWhole, GetsStill}
use Rattle.sdh_laws.proofs.hearing.Changes.{whole_run}
use Rattle.sdh_laws.proofs.hearing.Nodes.{count}
use Rattle.sdh_laws.proofs.hearing.Rounds.{neighbour_inside}
use Rattle.sdh_laws.proofs.hearing.Signalling.{needs_at, one_run}
use Rattle.sdh_laws.proofs.hearing.Staying.{left_run}
use Rattle.sdh_laws.proofs.hearing.Steady.{runs_get_still}
use Rattle.sdh_laws.specs.Carrying.Windows.{layout_of, HasCircuits, AreSettled, span_requests_of}
use Rattle.sdh_laws.proofs.carrying.Applied.{length-requests_of}
use Rattle.sdh_laws.proofs.carrying.Settles.{each_settled}
use Rattle.sdh_laws.proofs.carrying.Ways.{layout_run}
use Rattle.sdh_laws.specs.Converging.Steady.{StaysSettled, HasStillPointers}
use Rattle.sdh_laws.specs.Converging.Laws.{RoundsGetCalm, WindowsComeSoon, RingsConverge, StepsAnswer}
use Rattle.sdh_rounds.specs.Quiet.{enough_for}
use Rattle.sdh_laws.proofs.converging.Runs.{length_run, condition_run, run_more, nodes_run, inside_run}
use Rattle.sdh_laws.proofs.converging.Spreading.{pointers_rest}
use Rattle.sdh_laws.proofs.converging.Windows.{calm_ends_windows, answers_by}
use Rattle.sdh_laws.proofs.converging.Calming.{AreSame, calm_round}
use Rattle.sdh_node.specs.Rings.Held.{node_at}
use Rattle.sdh_node.specs.Rings.Sides.{condition_to}
use Rattle.sdh_node.specs.Stations.{adm}
use Rattle.sdh_rounds.specs.Runs as any_run
use Rattle.sdh_rounds.proofs.Terms.{terms}
use Rattle.sdh_laws.proofs.resting.Signals.{same_at}
use Rattle.sdh_laws.proofs.converging.Came.{come_behind, came_after, word_by, word_to_in, kept, earlier_in}

-- ---- what comes

module _ (w : World) (whole : IsWhole w) (form : HasCircuits (layout_of w)) (still : GetsStill w) where
  open terms w use {n}

  -- ---- requests and states

  abbrev rs : List ℕ
  rs = span_requests_of (run 103 w)

  requests_at : (k : ℕ) → span_requests_of (run (103 + k) w) ≡ rs
  requests_at zero = ap (λ j. span_requests_of (run j w)) {x = 103 + zero} {y = 103} (omega arith)
  requests_at (suc k) =
      ap (λ j. span_requests_of (run j w)) {x = 103 + suc k} {y = suc (103 + k)} (omega arith)
      ∙ ap requests_in (still.needs (103 + k) (omega arith)) ∙ requests_at k

  requests_from : (k : ℕ) → 103 ≤ k → span_requests_of (run k w) ≡ rs
  requests_from k late = ap (λ j. span_requests_of (run j w)) {x = k} {y = 103 + (k - 103)} (omega arith) ∙ requests_at (k - 103)

  settled_from : (k : ℕ) → 4 * n + 110 ≤ k → AreSettled n rs (run k w)
  settled_from k late =
      each_settled (run k w) n rs (nodes_run w whole k) (length-requests_of (run 103 w) n (nodes_run w whole 103))
      (still.states k late ∙ ap settled_states (requests_from k (omega arith)))

  -- ---- pointers

  abbrev base : ℕ
  base = 4 * n + 109

  at_rest : StaysSettled (run base w) rs
  at_rest = record {
    spans = length-requests_of (run 103 w) n (nodes_run w whole 103) ∙ ap length (sym (left_run base w).ids);
    unslipped = still.slips base (omega arith);
    settled_are =
        λ k some. subst (λ ids. AreSettled (length ids) rs (run k (run base w))) (sym (left_run base w).ids)
        (subst (AreSettled n rs) (sym (run_more w base k)) (settled_from (k + base) (omega arith)));
  }

  still_at : (j : ℕ) → 31 * n + 127 ≤ j → HasStillPointers w j
  still_at j late =
      let i = j - base in
      let there : i + base ≡ j = omega arith in
      let size : length (run base w).ring.ids ≡ n = ap length (left_run base w).ids in
      let s =
      pointers_rest (run base w) rs (whole_run w base whole) (subst HasCircuits (sym (layout_run w base)) form) at_rest i
      (omega arith) in
      let now : run i (run base w) ≡ run j w = run_more w base i ∙ ap (λ k. run k w) there in
      let next : run (suc i) (run base w) ≡ run (suc j) w = one_run (run base w) i ∙ ap round now ∙ sym (one_run w j) in
      record {
        generators = λ p d h. (let low = inside_run w base p h in
            λ t. (sym (ap (λ v. (sending_on d (node_at v.ring.nodes p)).generators) next) ∙ s.generators p d low
            ∙ ap (λ v. (sending_on d (node_at v.ring.nodes p)).generators) now) t);
        readings = λ p d h. (let low = inside_run w base p h in
            λ t. (sym (ap (λ v. (receiving_on d (node_at v.ring.nodes p)).readings) next) ∙ s.readings p d low
            ∙ ap (λ v. (receiving_on d (node_at v.ring.nodes p)).readings) now) t);
      }

  -- ---- words

  word_stays : (k p : ℕ) (d : Side) → 5 * n + 110 ≤ k → p < length w.ring.nodes
      → last_word_on d (node_at (run (suc k) w).ring.nodes p) ≡ last_word_on d (node_at (run k w).ring.nodes p)
  unfolding signals_of
  word_stays k p d late h =
      word_by (node_at (run (suc k) w).ring.nodes p) d (node_at (run k w).ring.nodes p)
      (same_at sent_of (run (suc k) w).ring.nodes (run k w).ring.nodes p (inside_run w (suc k) p h) (inside_run w k p h)
      (still.words k late))

  request_stays : (k p : ℕ) (d : Side) → 103 ≤ k → p < length w.ring.nodes
      → (receiving_on d (node_at (run (suc k) w).ring.nodes p)).request ≡ (receiving_on d (node_at (run k w).ring.nodes p)).request
  unfolding needs_in
  request_stays k p d late h =
      sym (needs_at (run (suc k) w).ring.nodes p d (inside_run w (suc k) p h))
      ∙ ap (λ (l : List Needs). request_on (get_or l p no_needs) d) (still.needs k late)
      ∙ needs_at (run k w).ring.nodes p d (inside_run w k p h)

  -- ---- what is heard

  word_to_stays : (k p : ℕ) (d : Side) → 5 * n + 110 ≤ k → word_to (run (suc k) w) p d ≡ word_to (run k w) p d
  word_to_stays k p d late =
      word_to_in w (suc k) p d ∙ word_stays k (neighbour n p d) (opposite d) late (neighbour_inside w whole p d) ∙ sym (word_to_in w k p d)

  came_in : (k p : ℕ) (d : Side) → 1 ≤ k → p < length w.ring.nodes
      → (kept w (suc k) p d).last ≡ come_behind (condition_to w p d) (word_to (run k w) p d)
  unfolding any_run.run
  came_in k p d some h =
      came_after (run k w) (whole_run w k whole) p d (inside_run w k p h) (let r = (left_run k w).rounds in omega arith)
      ∙ ap (λ c. come_behind c (word_to (run k w) p d)) (condition_run w k p d)

  -- the word that came last is equal from round to round
  last_stays : (k p : ℕ) (d : Side) → 5 * n + 111 ≤ k → p < length w.ring.nodes → (kept w (suc k) p d).last ≡ (kept w k p d).last
  last_stays k p d late h =
      let i = k - 1 in
      let now : suc i ≡ k = omega arith in
      came_in k p d (omega arith) h
      ∙ ap (λ j. come_behind (condition_to w p d) (word_to (run j w) p d)) (sym now)
      ∙ ap (come_behind (condition_to w p d)) (word_to_stays i p d (omega arith))
      ∙ sym (came_in i p d (omega arith) h)
      ∙ ap (λ j. (kept w j p d).last) now

  second_stays : (k p : ℕ) (d : Side) → 5 * n + 112 ≤ k → p < length w.ring.nodes → (kept w (suc k) p d).second ≡ (kept w k p d).second
  second_stays k p d late h =
      let i = k - 1 in
      let now : suc i ≡ k = omega arith in
      ap (λ (b : Brought). b.second) (earlier_in w whole k p d h)
      ∙ ap (λ j. (kept w j p d).last) (sym now) ∙ last_stays i p d (omega arith) h
      ∙ sym (ap (λ (b : Brought). b.second) (earlier_in w whole i p d h))
      ∙ ap (λ j. (kept w j p d).second) now

  third_stays : (k p : ℕ) (d : Side) → 5 * n + 113 ≤ k → p < length w.ring.nodes → (kept w (suc k) p d).third ≡ (kept w k p d).third
  third_stays k p d late h =
      let i = k - 1 in
      let now : suc i ≡ k = omega arith in
      ap (λ (b : Brought). b.third) (earlier_in w whole k p d h)
      ∙ ap (λ j. (kept w j p d).second) (sym now) ∙ second_stays i p d (omega arith) h
      ∙ sym (ap (λ (b : Brought). b.third) (earlier_in w whole i p d h))
      ∙ ap (λ j. (kept w j p d).third) now

  heard_stays : (k p : ℕ) (d : Side) → 5 * n + 113 ≤ k → p < length w.ring.nodes → hears (kept w (suc k) p d) ≡ hears (kept w k p d)
  heard_stays k p d late h =
      let last = last_stays k p d (omega arith) h in
      let second = second_stays k p d (omega arith) h in
      let third = third_stays k p d late h in
      λ i. heard_of (last i) (second i) (third i)

  -- ---- rounds are calm

  same_from : (k : ℕ) → 31 * n + 127 ≤ k → (p : ℕ) → p < length w.ring.nodes
      → AreSame (node_at (run (suc k) w).ring.nodes p) (node_at (run k w).ring.nodes p)
  same_from k late p h =
      let s = still_at k late in
      let enough = whole.placed.ids.enough in
      let low : p < n = omega (arith, count w whole.placed) in
      record {
        state = settled_from (suc k) (omega arith) p low ∙ sym (settled_from k (omega arith) p low);
        request = λ d. request_stays k p d (omega arith) h;
        heard = λ d. heard_stays k p d (omega arith) h;
        readings = λ d. s.readings p d h;
        word = λ d. word_stays k p d (omega arith) h;
        generators = λ d. s.generators p d h;
      }

  calm_after : (k : ℕ) → 31 * n + 127 ≤ k → IsCalm (course w) (suc k)
  unfolding any_run.run
  calm_after k late =
      calm_round (run k w) (whole_run w k whole) (let r = (left_run k w).rounds in omega arith) (still.free k (omega arith))
      (λ p h. same_from k late p (omega (arith, length_run w k)))

  calm_from : (j : ℕ) → 31 * n + 128 ≤ j → IsCalm (course w) j
  calm_from j late = let now : suc (j - 1) ≡ j = omega arith in subst (IsCalm (course w)) now (calm_after (j - 1) (omega arith))

pub rounds_get_calm : RingsSettle → RoundsGetCalm
rounds_get_calm law w whole form j late = calm_from w whole form (runs_get_still law w whole) j late

pub windows_come_soon : RingsSettle → WindowsComeSoon
windows_come_soon law w whole form =
    let n = length w.ring.ids in
    let by = calm_ends_windows w (31 * n + 128) (rounds_get_calm law w whole form) in
    record { ends = by.ends; soon = omega (arith, by.soon); window = by.window }

pub rings_converge : RingsSettle → RingsConverge
rings_converge law w whole form =
    let n = length w.ring.ids in
    let by = windows_come_soon law w whole form in
    let soon : by.ends ≤ enough_for n = omega (arith, by.soon) in
    record {
      window = record { ends = by.ends; soon = soon; window = by.window };
      answers = λ limit large. answers_by w (enough_for n) limit large (record { ends = by.ends; soon = soon; window = by.window });
      never = λ limit large never. never by.ends (omega arith) by.window;
    }

pub steps_answer : RingsSettle → StepsAnswer
steps_answer law w left limit form whole large unsettles =
    (rings_converge law w whole form).never limit large (known_unsettles adm w limit left (inl whole.paired.honest.honest) unsettles).0
