-- A settle step, round by round.
use Rattle.std.proofs.Common.{◌≡◌, ℕ, ◌+◌, ◌*◌, ◌-◌, ◌%◌, ◌<◌, ◌≤◌, Bool, true, false, refl, ap, sym, subst, ◌∙◌, arith, List, [], ◌∷◌}
use Rattle.std.proofs.Common.{◌++◌, length}
use Rattle.std.specs.Prelude.{if◌then◌else◌}
use Rattle.std.proofs.lemmas.List.{length_push}
use Rattle.sdh_plant.specs.Fibres.{Arrival, Fibres, IsPrepared}
use Rattle.sdh_rounds.specs.Stations.{Station}
use Rattle.sdh_rounds.specs.Held.{HeldRing, World}
use Rattle.sdh_rounds.specs.Rounds.{round_with}
use Rattle.sdh_rounds.specs.Runs.{Arrive, run_with, ArriveIn, course_with, IsRound}
use Rattle.sdh_rounds.specs.Quiet.{is_calm, EndsWindow, NeverSettles, Settles, Unsettles}
use Rattle.sdh_rounds.proofs.Windows.{streak, window_if, window_only, none_more, streak_none, streak_more, streak_same, never_same}
use Rattle.sdh_rounds.proofs.Runs.{run_with_more, arrive_more, course_more, course_whole, held_round, held_run}

pub less_counted : (b : Bool) (before now k : ℕ) → now ≡ (if b then before + 1 else 0) → before ≤ k → now ≤ k + 1
less_counted true before now k e h = omega arith
less_counted false before now k e h = omega arith

pub prepared_back : {N : Type 0} (start before : HeldRing N) (ns : List N) (n : ℕ) (f : Fibres)
    → before ≡ record start { nodes = ns; rounds = n } → IsPrepared before.settings.rate (length before.ids) f
    → IsPrepared start.settings.rate (length start.ids) f
prepared_back {N} start before ns n f e h = subst (λ (x : HeldRing N). IsPrepared x.settings.rate (length x.ids) f) e h

pub held_none : {N : Type 0} (r : HeldRing N) → r ≡ record r { nodes = r.nodes; rounds = r.rounds + 0 }
held_none r = ap (λ n. record r { rounds = n }) (omega arith)

module _ {N : Type 0} (st : Station N) where
  -- a step from w that is at `now` after k rounds, the last `calm` of them calm
  pub record Went (w now : World N) (k calm : ℕ) : Type 0 where
    pub rounds : List (List Arrival)
    pub arrive : ArriveIn st rounds w
    pub count : length rounds ≡ k
    pub now_is : now ≡ run_with st rounds w
    pub calm_is : calm ≡ streak st (course_with st rounds w) k
    pub before : (j : ℕ) → j < k → EndsWindow st (course_with st rounds w) j → ⊥

  -- a step that is at `now` after k rounds that ended no window
  pub record GoesOn (w now : World N) (k calm : ℕ) : Type 0 where
    pub went : Went w now k calm
    pub never : NeverSettles st (course_with st went.rounds w) k

  pub goes_none : (w : World N) → 1 ≤ length w.ring.ids → GoesOn w w 0 0
  goes_none w some = record {
    went = record {
      rounds = [];
      arrive = tt;
      count = refl;
      now_is = refl;
      calm_is = streak_none st (course_with st [] w);
      before = λ j low e. absurd (omega arith);
    };
    never =
        λ j low e. (let none : j ≡ 0 = omega arith in let long = (subst (EndsWindow st (course_with st [] w)) none e).long in absurd
        (omega arith));
  }

  -- one round more
  unfoldable pub went_more : (w now after : World N) (k calm n : ℕ) → GoesOn w now k calm → IsRound st now after
      → n ≡ (if is_calm st after.ring.nodes then calm + 1 else 0) → Went w after (k + 1) n
  went_more w now after k calm n on is counted =
      let old = on.went.rounds in
      let more = old ++ is.arrivals ∷ [] in
      let was = on.went.now_is in
      let size : length more ≡ k + 1 = length_push old is.arrivals ∙ ap (λ j. j + 1) on.went.count in
      let here : after ≡ run_with st more w = is.after_is ∙ ap (round_with st is.arrivals) was ∙ sym (run_with_more st old is.arrivals w) in
      let last : after ≡ course_with st more w (k + 1) = here ∙ course_whole st more w ∙ ap (course_with st more w) size in
      let same = λ (j : ℕ) (h : j ≤ k). course_more st old is.arrivals w j (let c = on.went.count in omega arith) in
      record {
        rounds = more;
        arrive = arrive_more st old is.arrivals w on.went.arrive (subst (λ x. Arrive x is.arrivals) was is.arrive);
        count = size;
        now_is = here;
        calm_is = counted ∙ ap (λ (x : World N). if is_calm st x.ring.nodes then calm + 1 else 0) last
            ∙ ap (λ m. if is_calm st (course_with st more w (k + 1)).ring.nodes then m + 1 else 0)
            (on.went.calm_is ∙ streak_same st (course_with st old w) (course_with st more w) k same)
            ∙ sym (streak_more st (course_with st more w) k);
        before = λ j low e. never_same st (course_with st old w) (course_with st more w) k same on.never j (omega arith) e;
      }

  -- up to the round before, the course with one more round is the course without it
  pub along : (w now after : World N) (k calm n : ℕ) (on : GoesOn w now k calm) (is : IsRound st now after)
      (counted : n ≡ (if is_calm st after.ring.nodes then calm + 1 else 0)) (j : ℕ)
      → j ≤ k → course_with st on.went.rounds w j ≡ course_with st (went_more w now after k calm n on is counted).rounds w j
  unfolding went_more
  along w now after k calm n on is counted j low = course_more st on.went.rounds is.arrivals w j (let c = on.went.count in omega arith)

  pub at_end : (w now : World N) (k calm : ℕ) (went : Went w now k calm) → now ≡ course_with st went.rounds w k
  at_end w now k calm went = went.now_is ∙ course_whole st went.rounds w ∙ ap (course_with st went.rounds w) went.count

  -- the test of the code is that of a window
  unfoldable pub settles : (w now : World N) (limit k calm : ℕ) → Went w now k calm → k ≤ limit
      → (3 * length now.ring.ids ≤ calm) × ((now.ring.rounds - 1) % 128 ≡ 0) → Settles st w limit now
  settles w now limit k calm went within test =
      let at = at_end w now k calm went in
      let c = went.count in
      let calm_is = went.calm_is in
      let ids : length now.ring.ids ≡ length (course_with st went.rounds w k).ring.ids = ap (λ (x : World N). length x.ring.ids) at in
      let window : EndsWindow st (course_with st went.rounds w) k =
      window_if st (course_with st went.rounds w) k (let long = test.0 in omega arith)
      (ap (λ (x : World N). (x.ring.rounds - 1) % 128) (sym at) ∙ test.1) in
      record {
        rounds = went.rounds;
        arrive = went.arrive;
        settles = record {
          within = omega arith;
          window = subst (EndsWindow st (course_with st went.rounds w)) (sym c) window;
          first = λ j low e. went.before j (omega arith) e;
        };
        left_is = went.now_is;
      }

  unfoldable pub goes_on : (w now : World N) (k calm : ℕ) → Went w now (k + 1) calm
      → ((3 * length now.ring.ids ≤ calm) × ((now.ring.rounds - 1) % 128 ≡ 0) → ⊥) → GoesOn w now (k + 1) calm
  goes_on w now k calm went fails =
      let at = at_end w now (k + 1) calm went in
      let calm_is = went.calm_is in
      let ids : length now.ring.ids ≡ length (course_with st went.rounds w (k + 1)).ring.ids = ap (λ (x : World N). length x.ring.ids) at in
      record {
        went = went;
        never = none_more st (course_with st went.rounds w) k (λ j low e. went.before j (omega arith) e)
            (λ e. fails (
              let long = window_only st (course_with st went.rounds w) (k + 1) e in omega arith,
              ap (λ (x : World N). (x.ring.rounds - 1) % 128) at ∙ e.place,
            ));
      }

  pub unsettles : (w now : World N) (limit calm : ℕ) → GoesOn w now limit calm → Unsettles st w limit now
  unsettles w now limit calm on = record {
    rounds = on.went.rounds;
    arrive = on.went.arrive;
    all = on.went.count;
    never = on.never;
    left_is = on.went.now_is;
  }

  -- ---- the ring of a step

  pub held_went : (w now : World N) (k calm : ℕ) → Went w now k calm
      → now.ring ≡ record w.ring { nodes = now.ring.nodes; rounds = w.ring.rounds + k }
  held_went w now k calm went =
      ap (λ (x : World N). x.ring) went.now_is ∙ held_run st went.rounds w
      ∙ ap (λ (x : World N). record w.ring { nodes = x.ring.nodes; rounds = w.ring.rounds + length went.rounds }) (sym went.now_is)
      ∙ ap (λ n. record w.ring { nodes = now.ring.nodes; rounds = w.ring.rounds + n }) went.count

  pub counts_on : (now after : World N) → IsRound st now after → after.ring.rounds ≡ now.ring.rounds + 1
  counts_on now after is =
      ap (λ (w : World N). w.ring.rounds) is.after_is ∙ ap (λ (r : HeldRing N). r.rounds) (held_round st is.arrivals now)
