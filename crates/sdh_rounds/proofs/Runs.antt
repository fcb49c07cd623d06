-- Runs, round by round.
use Rattle.std.proofs.Common.{◌≡◌, ℕ, zero, suc, ◌+◌, ◌*◌, ◌≤◌, List, [], ◌∷◌, ◌++◌, length, Some, refl, ap, sym}
use Rattle.std.proofs.Common.{◌∙◌, arith, inl, inr}
use Rattle.std.proofs.lemmas.List.{take-append-le, take_all, length-map}
use Rattle.sdh_ringmap.specs.declared.terms.Rate.{Rate}
use Rattle.sdh_plant.specs.Fibres.{Arrival, Fibres, IsPrepared}
use Rattle.sdh_plant.specs.Arrivals.{Knows}
use Rattle.sdh_rounds.specs.Stations.{Station}
use Rattle.sdh_rounds.specs.Held.{HeldRing, World}
use Rattle.sdh_rounds.specs.Rounds.{receivers, arrivals_of, arrivals_from, all_with_arrivals, frames_of, nodes_with, frames_with}
use Rattle.sdh_rounds.specs.Rounds.{after_given, sent_all, round_with, round}
use Rattle.sdh_rounds.specs.Runs.{Arrive, run, run_with, ArriveIn, course_with, course}
use Rattle.sdh_rounds.specs.Quiet.{NeverSettles, SettlesAt, Settles, Unsettles}
use Rattle.sdh_rounds.proofs.Arrived.{told_stays}
use Rattle.sdh_rounds.proofs.Windows.{window_same, never_same}

length-arrivals_from : (f : Fibres) (p k : ℕ) → length (arrivals_from f p k) ≡ 2 * k
length-arrivals_from f p zero = refl
length-arrivals_from f p (suc k) = omega (arith, length-arrivals_from f (p + 1) k)

pub known_arrive : {N : Type 0} (w : World N) → Arrive w (arrivals_of w)
unfolding arrivals_of
known_arrive w = record { count = length-arrivals_from w.fibres 0 (receivers w); known = λ h. refl }

module _ {N : Type 0} (st : Station N) where
  -- ---- one round

  -- a round keeps arrivals known
  pub knows_round : (xs : List Arrival) (w : World N) → Knows w.fibres → Knows (round_with st xs w).fibres
  unfolding round_with sent_all after_given
  knows_round xs w (inl h) = inl h
  knows_round xs w (inr h) = inr (told_stays w.fibres.told (length xs) h)

  pub conditions_round : (xs : List Arrival) (w : World N) → (round_with st xs w).fibres.conditions ≡ w.fibres.conditions
  unfolding round_with sent_all after_given
  conditions_round xs w = refl

  pub honest_round : (xs : List Arrival) (w : World N) → (round_with st xs w).fibres.honest ≡ w.fibres.honest
  unfolding round_with sent_all after_given
  honest_round xs w = refl

  -- a round changes the nodes of a ring, and counts
  pub held_round : (xs : List Arrival) (w : World N) → (round_with st xs w).ring
      ≡ record w.ring { nodes = (round_with st xs w).ring.nodes; rounds = w.ring.rounds + 1 }
  unfolding round_with
  held_round xs w = refl

  pub length-heard : (xs : List Arrival) (ns : List N) → length (all_with_arrivals st xs ns) ≡ length ns
  length-heard [] ns = refl
  length-heard (west ∷ []) ns = refl
  length-heard (west ∷ east ∷ later) [] = refl
  length-heard (west ∷ east ∷ later) (n ∷ ns) = ap suc (length-heard later ns)

  pub length-frames : (now : ℕ) (ns : List N) → length (frames_of st now ns) ≡ 2 * length ns
  length-frames now [] = refl
  length-frames now (n ∷ ns) = omega (arith, length-frames now ns)

  pub count_round : (xs : List Arrival) (w : World N) → length (round_with st xs w).ring.nodes ≡ length w.ring.nodes
  unfolding round_with
  count_round xs w = length-map (nodes_with st xs w) (st.after w.ring.moment) ∙ length-heard xs w.ring.nodes

  pub prepared_round : (rate : Rate) (xs : List Arrival) (w : World N) → IsPrepared rate (length w.ring.nodes) w.fibres
      → IsPrepared rate (length w.ring.nodes) (round_with st xs w).fibres
  unfolding round_with sent_all after_given
  prepared_round rate xs w h = record {
    nodes = h.nodes;
    rate = h.rate;
    conditions = h.conditions;
    each = h.each;
    carried =
        length-map (frames_with st xs w) Some ∙ length-frames w.ring.moment (nodes_with st xs w)
        ∙ ap (λ n. 2 * n) (length-heard xs w.ring.nodes);
    enough = h.enough;
    few = h.few;
  }

  -- ---- known arrivals

  -- ---- rounds one after the other

  pub run_with_more : (rounds : List (List Arrival)) (xs : List Arrival) (w : World N)
      → run_with st (rounds ++ xs ∷ []) w ≡ round_with st xs (run_with st rounds w)
  run_with_more [] xs w = refl
  run_with_more (bs ∷ rounds) xs w = run_with_more rounds xs (round_with st bs w)

  pub arrive_more : (rounds : List (List Arrival)) (xs : List Arrival) (w : World N) → ArriveIn st rounds w
      → Arrive (run_with st rounds w) xs → ArriveIn st (rounds ++ xs ∷ []) w
  arrive_more [] xs w h a = (a, tt)
  arrive_more (bs ∷ rounds) xs w h a = (h.0, arrive_more rounds xs (round_with st bs w) h.1 a)

  -- a course that goes on
  pub course_more : (rounds : List (List Arrival)) (xs : List Arrival) (w : World N) (j : ℕ) → j ≤ length rounds
      → course_with st rounds w j ≡ course_with st (rounds ++ xs ∷ []) w j
  course_more rounds xs w j h = ap (λ rs. run_with st rs w) (sym (take-append-le j rounds (xs ∷ []) h))

  pub course_whole : (rounds : List (List Arrival)) (w : World N) → run_with st rounds w ≡ course_with st rounds w (length rounds)
  course_whole rounds w = ap (λ rs. run_with st rs w) (sym (take_all (length rounds) rounds (omega arith)))

  -- what all runs keep
  pub held_run : (rounds : List (List Arrival)) (w : World N)
      → (run_with st rounds w).ring ≡ record w.ring { nodes = (run_with st rounds w).ring.nodes; rounds = w.ring.rounds + length rounds }
  held_run [] w = ap (λ n. record w.ring { rounds = n }) (omega arith)
  held_run (xs ∷ rounds) w =
      held_run rounds (round_with st xs w)
      ∙ ap (λ (r : HeldRing N). record r {
        nodes = (run_with st rounds (round_with st xs w)).ring.nodes;
        rounds = r.rounds + length rounds;
      }) (held_round xs w)
      ∙ ap (λ n. record w.ring { nodes = (run_with st rounds (round_with st xs w)).ring.nodes; rounds = n }) (omega arith)

  pub conditions_run : (rounds : List (List Arrival)) (w : World N) → (run_with st rounds w).fibres.conditions ≡ w.fibres.conditions
  conditions_run [] w = refl
  conditions_run (xs ∷ rounds) w = conditions_run rounds (round_with st xs w) ∙ conditions_round xs w

  pub honest_run : (rounds : List (List Arrival)) (w : World N) → (run_with st rounds w).fibres.honest ≡ w.fibres.honest
  honest_run [] w = refl
  honest_run (xs ∷ rounds) w = honest_run rounds (round_with st xs w) ∙ honest_round xs w

  pub knows_run : (rounds : List (List Arrival)) (w : World N) → Knows w.fibres → Knows (run_with st rounds w).fibres
  knows_run [] w h = h
  knows_run (xs ∷ rounds) w h = knows_run rounds (round_with st xs w) (knows_round xs w h)

  -- ---- where arrivals are known

  pub run_first : (k : ℕ) (w : World N) → run st (suc k) w ≡ run st k (round st w)
  unfolding run
  run_first zero w = refl
  run_first (suc k) w = ap (round st) (run_first k w)

  run_zero : (w : World N) → run st zero w ≡ w
  unfolding run
  run_zero w = refl

  pub known_course : (rounds : List (List Arrival)) (w : World N) (j : ℕ) → Knows w.fibres → ArriveIn st rounds w → j ≤ length rounds
      → course_with st rounds w j ≡ course st w j
  unfolding round
  known_course rounds w zero k h low = sym (run_zero w)
  known_course [] w (suc j) k h low = absurd (omega arith)
  known_course (xs ∷ rounds) w (suc j) k h low =
      let is = h.0.known k in
      known_course rounds (round_with st xs w) j (knows_round xs w k) h.1 (omega arith)
      ∙ ap (λ bs. run st j (round_with st bs w)) is
      ∙ sym (run_first j w)

  pub known_settles : (w : World N) (limit : ℕ) (left : World N) → Knows w.fibres → Settles st w limit left
      → (k : ℕ) × SettlesAt st (course st w) limit k × (left ≡ run st k w)
  known_settles w limit left k s =
      let same = λ (j : ℕ) (h : j ≤ length s.rounds). known_course s.rounds w j k s.arrive h in (
        length s.rounds,
        record {
          within = s.settles.within;
          window = window_same st (course_with st s.rounds w) (course st w) (length s.rounds) same s.settles.window;
          first =
              λ j low e. s.settles.first j low (window_same st (course st w) (course_with st s.rounds w) j
              (λ i small. sym (same i (omega arith))) e);
        },
        s.left_is ∙ course_whole s.rounds w ∙ same (length s.rounds) (omega arith),
      )

  pub known_unsettles : (w : World N) (limit : ℕ) (left : World N) → Knows w.fibres → Unsettles st w limit left
      → NeverSettles st (course st w) limit × (left ≡ run st limit w)
  known_unsettles w limit left k s =
      let same = λ (j : ℕ) (h : j ≤ length s.rounds). known_course s.rounds w j k s.arrive h in (
        never_same st (course_with st s.rounds w) (course st w) limit (λ j h. same j (omega (arith, s.all))) s.never,
        s.left_is ∙ course_whole s.rounds w ∙ same (length s.rounds) (omega arith) ∙ ap (λ n. run st n w) s.all,
      )
