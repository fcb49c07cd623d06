-- Where arrivals are known they determine what comes of a script; after a fault the front of that came.
use Rattle.std.proofs.Common.{◌≡◌, ◌⊎◌, ℕ, ◌+◌, ◌-◌, ◌*◌, ◌<◌, ◌≤◌, Bool, true, false, None, Some, List, [], ◌∷◌, ◌++◌, length, take, refl}
use Rattle.std.proofs.Common.{ap, sym, ◌∙◌, subst, arith, inl, inr, append-nil}
use Rattle.std.specs.Prelude.{Option, option_map, nat_le, if◌then◌else◌}
use Rattle.std.specs.Option.{option_map_or}
use Rattle.std.proofs.lemmas.Bool.{cases_lt}
use Rattle.std.proofs.lemmas.Bool.Decides.{nat_tests}
use Rattle.std.proofs.lemmas.List.{length-append}
use Rattle.sdh_plant.specs.Fibres.{Arrival, Fibres}
use Rattle.sdh_plant.specs.Arrivals.{Knows}
use Rattle.sdh_rounds.specs.Stations.{Station}
use Rattle.sdh_rounds.specs.Held.{HeldRing, World}
use Rattle.sdh_rounds.specs.Rounds.{arrivals_of, frames_with}
use Rattle.sdh_rounds.specs.Runs.{run, arrivals_in, run_with, ArriveIn, course_with, course, IsBrokenOff}
use Rattle.sdh_rounds.specs.Quiet.{SettlesAt, NeverSettles, BreaksOff, settles_in, Settles}
use Rattle.sdh_rounds.specs.Laws.{frames_in}
use Rattle.sdh_rounds.proofs.Runs.{held_run, known_course, course_whole, known_settles, known_unsettles}
use Rattle.sdh_rounds.proofs.Windows.{never_same}
use Rattle.sdh_rounds.proofs.Laws.{steps_are_computed, appended_twice, appended_none}
use Rattle.sdh_plan.specs.declared.step.Step.{Step}
use Rattle.sdh_plan.specs.declared.step.Step.TheVariants as step
use Rattle.sdh_status.specs.declared.Status.{Status}
use Rattle.sdh_status.specs.declared.Status.TheVariants as status
use Rattle.sdh_scripts.specs.Walks.{Walk}
use Rattle.sdh_scripts.specs.Scripts.{Ended, Breaks, Refuses, Runs, Ran, ran_unsettled, ran_settled, script, IsRan, reports_within}
use Rattle.sdh_scripts.specs.Scripts.{IsCutShort, ComesTo}
use Rattle.sdh_scripts.specs.Laws.{KeepsRounds, KnownScripts}
use Rattle.sdh_scripts.proofs.Frames.{more_of, grows, take_past, left_run, frames_sent, knows_after, length-all}
use Rattle.sdh_scripts.proofs.Frames.{front, run_on, arrive_on, IsSentTo, small_of, sent_to}

-- a script from world w came to all of `a`, or a fault broke it off; `before` frames had been sent in the rounds
-- before it
abbrev Came : {N T : Type 0} → Walk N T → Ran N T → ℕ → ℕ → World N → List T → Status → World N → Type 0
Came walk a n before w reports end left = IsRan a reports end left ⊎ ((end ≡ status.PlantFault) × IsCutShort walk a n before w reports left)

module _ {N T : Type 0} (walk : Walk N T) (law : KeepsRounds walk) where
  abbrev st : Station N
  st = walk.station

  -- ---- which reports were sent

  -- the number of rounds up to the last after the settle step of a report
  abbrev end_of : T → ℕ
  end_of r = walk.last r + 1 + walk.behind

  skipped : (n frames : ℕ) (r : T) (rs : List T) → frames < 2 * n * end_of r
      → reports_within walk n frames (r ∷ rs) ≡ reports_within walk n frames rs
  skipped n frames r rs h =
      let last = 2 * n * end_of r in
      let b : nat_le last frames ≡ false = grind (arith, nat_tests) in
      ap (λ (c : Bool). if c then r ∷ reports_within walk n frames rs else reports_within walk n frames rs) b

  kept : (n frames : ℕ) (r : T) (rs : List T) → 2 * n * end_of r ≤ frames
      → reports_within walk n frames (r ∷ rs) ≡ r ∷ reports_within walk n frames rs
  kept n frames r rs h =
      let last = 2 * n * end_of r in
      let b : nat_le last frames ≡ true = grind (arith, nat_tests) in
      ap (λ (c : Bool). if c then r ∷ reports_within walk n frames rs else reports_within walk n frames rs) b

  -- ---- a settle step where arrivals are known

  -- what is reported of the settle step of this number that ends with its k-th round
  abbrev of_step : ℕ → ℕ → World N → T
  of_step number k w = walk.tells number (course st w) k

  -- the number of rounds of a settle step that ends with its k-th round, and of those after it
  abbrev whole : ℕ → ℕ
  whole k = k + walk.behind

  -- a settle step that ended
  record IsKnown (w : World N) (limit number : ℕ) (told : T) (left : World N) : Type 0 where
    rounds : ℕ
    settles : SettlesAt st (course st w) limit rounds
    left_is : left ≡ run st (whole rounds) w
    told_is : told ≡ of_step number rounds w

  -- the rounds of a settle step that ended, and those after it
  module _ (w : World N) (limit : ℕ) (mid : World N) (knows : Knows w.fibres) (s : Settles st w limit mid) (behind : List (List Arrival))
      (arrive : ArriveIn st behind mid) where
    all : List (List Arrival)
    all = s.rounds ++ behind

    arrive_all : ArriveIn st (s.rounds ++ behind) w
    arrive_all = arrive_on st s.rounds behind w s.arrive (subst (ArriveIn st behind) s.left_is arrive)

    same_all : (j : ℕ) → j ≤ length s.rounds + length behind → course_with st (s.rounds ++ behind) w j ≡ run st j w
    same_all j h = known_course st (s.rounds ++ behind) w j knows arrive_all (omega (arith, length-append s.rounds behind))

    left_all : run_with st behind mid ≡ run st (length s.rounds + length behind) w
    left_all =
        ap (run_with st behind) s.left_is ∙ sym (run_on st s.rounds behind w) ∙ course_whole st (s.rounds ++ behind) w
        ∙ ap (course_with st (s.rounds ++ behind) w) (length-append s.rounds behind)
        ∙ same_all (length s.rounds + length behind) (omega arith)

    -- a settle step that leaves the world after k known rounds ran k rounds
    count_all : (k : ℕ) → mid ≡ run st k w → k ≡ length s.rounds
    count_all k there =
        let held = ap (λ (r : HeldRing N). r.rounds) (held_run st s.rounds w) in
        omega (
          arith,
          held,
          (left_run st k w).rounds,
          ap (λ (v : World N). v.ring.rounds) s.left_is,
          ap (λ (v : World N). v.ring.rounds) there,
        )

  ended_known : (w : World N) (limit number : ℕ) (told : T) (left : World N) → Knows w.fibres → Ended walk limit number w told left
      → IsKnown w limit number told left
  ended_known w limit number told left knows e =
      let s = e.settles in
      let there = known_settles st w limit e.mid knows s in
      let k = there.0 in
      let count = count_all w limit e.mid knows s e.behind e.arrive k there.2 in
      let total : length s.rounds + length e.behind ≡ whole k = omega (arith, count, e.count) in
      record {
        rounds = k;
        settles = there.1;
        left_is = e.left_is ∙ left_all w limit e.mid knows s e.behind e.arrive ∙ ap (λ j. run st j w) total;
        told_is =
            e.told_is ∙ law.looks number (length s.rounds) (course_with st (s.rounds ++ e.behind) w) (course st w)
            (λ j h. same_all w limit e.mid knows s e.behind e.arrive j (omega (arith, h, e.count)))
            ∙ ap (λ j. of_step number j w) (sym count);
      }

  -- a settle step that a fault broke off, or a round after it
  record IsBroken (w : World N) (limit : ℕ) (left : Fibres) : Type 0 where
    ran : ℕ
    out : ℕ
    sent : IsSentTo st w left ran out
    within : ran < option_map_or whole (settles_in st w limit) limit

  broken_step : (w : World N) (limit : ℕ) (left : Fibres) → Knows w.fibres → BreaksOff st w limit left → IsBroken w limit left
  broken_step w limit left knows b =
      let j = length b.rounds in
      let there : run_with st b.rounds w ≡ run st j w =
      course_whole st b.rounds w ∙ known_course st b.rounds w j knows b.arrive (omega arith) in
      let off : IsBrokenOff st (run st j w) left = subst (λ v. IsBrokenOff st v left) there b.off in
      let never : NeverSettles st (course st w) j =
      never_same st _ (course st w) j (λ i h. known_course st b.rounds w i knows b.arrive h) b.never in
      record { ran = j; out = off.out; sent = sent_to st j w left knows off; within = by (settles_in st w limit) refl never b.within }
    where
      by : (o : Option ℕ) → settles_in st w limit ≡ o → NeverSettles st (course st w) (length b.rounds) → length b.rounds < limit
          → length b.rounds < option_map_or whole o limit
      by None e never low = low
      by (Some k) e never low =
          let s = ((steps_are_computed st).settled w limit k).0 e in
          elim (cases_lt (length b.rounds) k) [ inl less ↦ omega (arith, less) | inr high ↦ absurd (never k high s.window) ]

  broken : (w : World N) (limit : ℕ) (left : Fibres) → Knows w.fibres → Breaks walk limit w left → IsBroken w limit left
  broken w limit left knows (inl b) = broken_step w limit left knows b
  broken w limit left knows (inr b) =
      let s = b.settles in
      let there = known_settles st w limit b.mid knows s in
      let k = there.0 in
      let j = length s.rounds + length b.rounds in
      let e : settles_in st w limit ≡ Some k = ((steps_are_computed st).settled w limit k).1 there.1 in
      let off : IsBrokenOff st (run st j w) left =
      subst (λ v. IsBrokenOff st v left) (left_all w limit b.mid knows s b.rounds b.arrive) b.off in
      let low : j < whole k = omega (arith, b.few, count_all w limit b.mid knows s b.rounds b.arrive k there.2) in
      record {
        ran = j;
        out = off.out;
        sent = sent_to st j w left knows off;
        within = subst (λ o. j < option_map_or whole o limit) (sym e) low;
      }

  -- ---- a script, step by step

  carried : (a : Ran N T) (n before : ℕ) (v w : World N) (reports : List T) (end : Status) (left : World N) → v.fibres.sent ≡ w.fibres.sent
      → Came walk a n before v reports end left → Came walk a n before w reports end left
  carried a n before v w reports end left same (inl x) = inl x
  carried a n before v w reports end left same (inr x) =
      inr (
        x.0,
        record {
          count = x.1.count;
          frames = x.1.frames
              ∙ ap (option_map (λ sent. sent ++ take x.1.count a.frames)) same;
          reports_are = x.1.reports_are;
        },
      )

  -- the last of the rounds after a settle step that ended with its k-th
  last_round : (w : World N) (limit k number : ℕ) → 1 ≤ length w.ring.ids → SettlesAt st (course st w) limit k
      → end_of (of_step number k w) ≡ w.ring.rounds + whole k
  last_round w limit k number some s =
      let long = s.window.long in
      let same : length (run st k w).ring.ids ≡ length w.ring.ids = ap (λ (x : List ℕ). length x) (left_run st k w).ids in
      let last : walk.last (of_step number k w) ≡ (run st k w).ring.rounds - 1 = law.last number (course st w) k in
      omega (arith, long, same, some, last, (left_run st k w).rounds)

  -- a settle step that ends runs at least one round
  some_rounds : (w : World N) (limit k : ℕ) → 1 ≤ length w.ring.ids → SettlesAt st (course st w) limit k → 1 ≤ k
  some_rounds w limit k some s =
      let long = s.window.long in
      let same : length (run st k w).ring.ids ≡ length w.ring.ids = ap (λ (x : List ℕ). length x) (left_run st k w).ids in
      omega (arith, long, same, some)

  -- frames that are too few for the next round are too few for it after a step that runs no round
  none_after : (n frames : ℕ) (this : Step) (w : World N) (A : Type 0) → 1 ≤ length w.ring.ids → frames < 2 * n * (w.ring.rounds + 1)
      → (1 ≤ length (walk.does this w).ring.ids → frames < 2 * n * ((walk.does this w).ring.rounds + 1) → A) → A
  none_after n frames this w A some low goes =
      goes (omega (arith, some, ap (λ (x : List ℕ). length x) (law.other.ids this w)))
      (subst (λ r. frames < 2 * n * (r + 1)) (sym (law.other.rounds this w)) low)

  -- what a settle step comes to, by how many rounds it has
  abbrev after_settle : ℕ → ℕ → List Step → World N → Option ℕ → Ran N T
  after_settle limit before later w o =
      option_map_or (λ k. ran_settled walk k (before + 1) w (script walk limit (before + 1) later (run st (whole k) w))) o
      (ran_unsettled walk limit (before + 1) w)

  -- where fewer frames were sent than the next round ends with, no report of the script is complete
  pub none_sent : (limit before n frames : ℕ) (steps : List Step) (w : World N) → 1 ≤ length w.ring.ids
      → frames < 2 * n * (w.ring.rounds + 1) → reports_within walk n frames (script walk limit before steps w).reports ≡ []
  none_sent limit before n frames [] w some low = refl
  none_sent limit before n frames (step.Settle ∷ later) w some low =
      by_count (settles_in st w limit) refl (λ k. none_sent limit (before + 1) n frames later (run st (whole k) w))
    where
      by_count : (o : Option ℕ) → settles_in st w limit ≡ o
          → ((k : ℕ) → 1 ≤ length (run st (whole k) w).ring.ids → frames < 2 * n * ((run st (whole k) w).ring.rounds + 1)
          → reports_within walk n frames (script walk limit (before + 1) later (run st (whole k) w)).reports ≡ [])
          → reports_within walk n frames (after_settle limit before later w o).reports ≡ []
      by_count None e rest = refl
      by_count (Some k) e rest =
          let s = ((steps_are_computed st).settled w limit k).0 e in
          let r = of_step (before + 1) k w in
          let at = left_run st (whole k) w in
          let same : length (run st (whole k) w).ring.ids ≡ length w.ring.ids = ap (λ (x : List ℕ). length x) at.ids in
          let first : 2 * n * (w.ring.rounds + 1) ≤ 2 * n * end_of r =
          grows (2 * n) (w.ring.rounds + 1) (end_of r) (omega
          (arith, last_round w limit k (before + 1) some s, some_rounds w limit k some s)) in
          let others : 2 * n * (w.ring.rounds + 1) ≤ 2 * n * ((run st (whole k) w).ring.rounds + 1) =
          grows (2 * n) (w.ring.rounds + 1) ((run st (whole k) w).ring.rounds + 1) (omega (arith, at.rounds)) in
          skipped n frames r _ (omega (arith, low, first)) ∙ rest k (omega (arith, same, some)) (omega (arith, low, others))
  none_sent limit before n frames (this ∷ later) w some low =
      none_after n frames this w _ some low (none_sent limit before n frames later (walk.does this w))

  -- a settle step ended, and the rounds after it were run
  settled_came : (limit before k : ℕ) (w : World N) (later : Ran N T) (reports rest : List T) (end : Status) (left : World N)
      → 1 ≤ length w.ring.ids → length w.ring.nodes ≡ length w.ring.ids → SettlesAt st (course st w) limit k
      → reports ≡ of_step (before + 1) k w ∷ rest → Came walk later (length (run st (whole k) w).ring.ids)
      (2 * length (run st (whole k) w).ring.ids * (run st (whole k) w).ring.rounds) (run st (whole k) w) rest end left
      → Came walk (ran_settled walk k (before + 1) w later) (length w.ring.ids) (2 * length w.ring.ids * w.ring.rounds) w reports end left
  settled_came limit before k w later reports rest end left some size s is (inl x) = inl (record {
    reports_are = is ∙ ap (λ l. of_step (before + 1) k w ∷ l) x.reports_are;
    end_is = x.end_is;
    left_is = x.left_is;
  })
  settled_came limit before k w later reports rest end left some size s is (inr x) =
      let n = length w.ring.ids in
      let m = whole k in
      let first = frames_in st (arrivals_in st m w) w in
      let r = of_step (before + 1) k w in
      let c = x.1.count in
      let at = left_run st m w in
      let same : length (run st m w).ring.ids ≡ n = ap (λ (l : List ℕ). length l) at.ids in
      let ran : 2 * n * (w.ring.rounds + m) ≡ 2 * n * w.ring.rounds + 2 * n * m = more_of (2 * n) w.ring.rounds m in
      let sends : length first ≡ 2 * n * m = length-all st m w ∙ ap (λ j. 2 * j * m) size in
      let total : 2 * length (run st m w).ring.ids * (run st m w).ring.rounds + c ≡ 2 * n * w.ring.rounds + (length first + c) =
      ap (λ j. 2 * j * (run st m w).ring.rounds + c) same ∙ ap (λ t. 2 * n * t + c) at.rounds ∙ omega (arith, ran, sends) in
      let up : 2 * n * end_of r ≤ 2 * n * w.ring.rounds + (length first + c) =
      omega (arith, ap (λ t. 2 * n * t) (last_round w limit k (before + 1) some s), ran, sends) in
      inr (
        x.0,
        record {
          count = length first + c;
          frames =
              x.1.frames ∙ ap (option_map (λ sent. sent ++ take c later.frames)) (frames_sent st m w)
              ∙ appended_twice w.fibres.sent first (take c later.frames)
              ∙ ap (λ l. option_map (λ sent. sent ++ l) w.fibres.sent) (sym (take_past first later.frames c));
          reports_are = is
              ∙ ap (λ l. r ∷ l) (x.1.reports_are ∙ ap (λ j. reports_within walk j
              (2 * length (run st m w).ring.ids * (run st m w).ring.rounds + c) later.reports) same
              ∙ ap (λ i. reports_within walk n i later.reports) total)
              ∙ sym (kept n (2 * n * w.ring.rounds + (length first + c)) r later.reports up);
        },
      )

  -- ---- after a fault

  -- the frames that were sent are the first of those of the script, and no settle step has all of its frames among them
  cut_short : (limit before : ℕ) (later : List Step) (w left : World N) (o : Option ℕ) → settles_in st w limit ≡ o → (j out : ℕ)
      → 1 ≤ length w.ring.ids → length w.ring.nodes ≡ length w.ring.ids
      → IsSentTo st w left.fibres j out → j < option_map_or whole o limit
      → IsCutShort walk (after_settle limit before later w o) (length w.ring.ids) (2 * length w.ring.ids * w.ring.rounds) w [] left
  cut_short limit before later w left None e j out some size x within =
      let first = frames_in st (arrivals_in st j w) w in
      let past : take (length first + out) (frames_in st (arrivals_in st limit w) w)
      ≡ first ++ take out (frames_with st (arrivals_of (run st j w)) (run st j w)) =
      ap (take (length first + out)) (sym (append-nil (frames_in st (arrivals_in st limit w) w)))
      ∙ front st j limit out w [] within (small_of st w j out size x.few) in
      record {
        count = length first + out;
        frames = x.sends ∙ ap (λ l. option_map (λ sent. sent ++ l) w.fibres.sent) (sym past);
        reports_are = refl;
      }
  cut_short limit before later w left (Some k) e j out some size x within =
      let n = length w.ring.ids in
      let first = frames_in st (arrivals_in st j w) w in
      let s = ((steps_are_computed st).settled w limit k).0 e in
      let rest = script walk limit (before + 1) later (run st (whole k) w) in
      let r = of_step (before + 1) k w in
      let at = left_run st (whole k) w in
      let long : length first ≡ 2 * n * j = length-all st j w ∙ ap (λ i. 2 * i * j) size in
      let same : length (run st (whole k) w).ring.ids ≡ n = ap (λ (l : List ℕ). length l) at.ids in
      let m = 2 * n * w.ring.rounds + (length first + out) in
      let here : 2 * n * (w.ring.rounds + (j + 1)) ≡ 2 * n * w.ring.rounds + (2 * n * j + 2 * n) =
      more_of (2 * n) w.ring.rounds (j + 1) ∙ ap (λ y. 2 * n * w.ring.rounds + y) (more_of (2 * n) j 1 ∙ omega arith) in
      let up : 2 * n * (w.ring.rounds + (j + 1)) ≤ 2 * n * end_of r =
      grows (2 * n) (w.ring.rounds + (j + 1)) (end_of r) (omega (arith, last_round w limit k (before + 1) some s, within)) in
      let higher : 2 * n * end_of r ≤ 2 * n * ((run st (whole k) w).ring.rounds + 1) =
      grows (2 * n) (end_of r) ((run st (whole k) w).ring.rounds + 1)
      (omega (arith, last_round w limit k (before + 1) some s, at.rounds)) in
      let few = x.few in
      let below : m < 2 * n * end_of r = omega (arith, here, up, long, few) in
      record {
        count = length first + out;
        frames =
            x.sends ∙ ap (λ l. option_map (λ sent. sent ++ l) w.fibres.sent)
            (sym (front st j (whole k) out w rest.frames within (small_of st w j out size few)));
        reports_are =
            sym (skipped n m r rest.reports below ∙ none_sent limit (before + 1) n m later (run st (whole k) w) (omega (arith, same, some))
            (omega (arith, below, higher)));
      }

  -- a step that was refused sends no frame, and no report's last round is among those before
  refused_cut : (limit before : ℕ) (this : Step) (later : List Step) (w : World N) (reports : List T) (end : Status) (left : World N)
      → 1 ≤ length w.ring.ids → Refuses this w reports end left
      → (end ≡ status.PlantFault) × IsCutShort walk (script walk limit before later (walk.does this w)) (length w.ring.ids)
      (2 * length w.ring.ids * w.ring.rounds) w reports left
  refused_cut limit before (step.Fibre e) later w reports end left some x =
      let n = length w.ring.ids in
      let all : 2 * n * (w.ring.rounds + 1) ≡ 2 * n * w.ring.rounds + 2 * n * 1 = more_of (2 * n) w.ring.rounds 1 in (
        x.1.1,
        record {
          count = 0;
          frames = ap (λ (f : Fibres). f.sent) x.0 ∙ appended_none w.fibres.sent;
          reports_are =
              x.1.0 ∙ sym (none_after n (2 * n * w.ring.rounds + 0) (step.Fibre e) w _ some (omega (arith, all, some))
              (none_sent limit before n (2 * n * w.ring.rounds + 0) later (walk.does (step.Fibre e) w)));
        },
      )
  refused_cut limit before this later w reports end left some x = absurd x

  -- ---- a script

  -- after a step that runs no round
  known_on : (limit before : ℕ) (this : Step) (later : List Step) (w : World N) (reports : List T) (end : Status) (left : World N)
      → Knows w.fibres → 1 ≤ length w.ring.ids → length w.ring.nodes ≡ length w.ring.ids
      → ((reports : List T) (end : Status) (left : World N) → Knows (walk.does this w).fibres → 1 ≤ length (walk.does this w).ring.ids
      → length (walk.does this w).ring.nodes ≡ length (walk.does this w).ring.ids
      → Runs walk limit before later (walk.does this w) reports end left
      → ComesTo walk limit before later (walk.does this w) reports end left)
      → (Runs walk limit before later (walk.does this w) reports end left ⊎ Refuses this w reports end left)
      → Came walk (script walk limit before later (walk.does this w)) (length w.ring.ids)
      (2 * length w.ring.ids * w.ring.rounds) w reports end left
  known_on limit before this later w reports end left knows some size on (inl goes) =
      let v = walk.does this w in
      let a = script walk limit before later v in
      let same : length v.ring.ids ≡ length w.ring.ids = ap (λ (l : List ℕ). length l) (law.other.ids this w) in
      let came =
      on reports end left (law.other.knows this w knows) (omega (arith, same, some)) (law.other.size this w ∙ size ∙ sym same) goes in
      let here : Came walk a (length w.ring.ids) (2 * length w.ring.ids * w.ring.rounds) v reports end left =
      subst (λ n. Came walk a n (2 * n * w.ring.rounds) v reports end left) same
      (subst (λ t. Came walk a (length v.ring.ids) (2 * length v.ring.ids * t) v reports end left) (law.other.rounds this w) came) in
      carried a (length w.ring.ids) (2 * length w.ring.ids * w.ring.rounds) v w reports end left (law.other.sent this w) here
  known_on limit before this later w reports end left knows some size on (inr refused) =
      inr (refused_cut limit before this later w reports end left some refused)

  known : (limit before : ℕ) (steps : List Step) (w : World N) (reports : List T) (end : Status) (left : World N)
      → Knows w.fibres → 1 ≤ length w.ring.ids → length w.ring.nodes ≡ length w.ring.ids → Runs walk limit before steps w reports end left
      → ComesTo walk limit before steps w reports end left
  known limit before [] w reports end left knows some size x = inl (record { reports_are = x.1.0; end_is = x.1.1; left_is = x.0 })
  known limit before (step.Settle ∷ later) w reports end left knows some size (inl (told, next, rest, ended, is, goes)) =
      let at_step = ended_known w limit (before + 1) told next knows ended in
      let k = at_step.rounds in
      let v = run st (whole k) w in
      let at = left_run st (whole k) w in
      let e : settles_in st w limit ≡ Some k = ((steps_are_computed st).settled w limit k).1 at_step.settles in
      let told_is : reports ≡ of_step (before + 1) k w ∷ rest = is ∙ ap (λ t. t ∷ rest) at_step.told_is in
      let on : Runs walk limit (before + 1) later v rest end left =
      subst (λ u. Runs walk limit (before + 1) later u rest end left) at_step.left_is goes in
      let same : length v.ring.ids ≡ length w.ring.ids = ap (λ (l : List ℕ). length l) at.ids in
      let came =
      known limit (before + 1) later v rest end left (knows_after st (whole k) w knows) (omega (arith, same, some))
      (at.nodes ∙ size ∙ sym same) on in
      subst (λ o. Came walk (after_settle limit before later w o) (length w.ring.ids)
      (2 * length w.ring.ids * w.ring.rounds) w reports end left) (sym e)
      (settled_came limit before k w (script walk limit (before + 1) later v) reports rest end left some size at_step.settles told_is came)
  known limit before (step.Settle ∷ later) w reports end left knows some size (inr (inl x)) =
      let there = known_unsettles st w limit left knows x.0 in
      let e : settles_in st w limit ≡ None = ((steps_are_computed st).unsettled w limit).1 there.0 in
      subst (λ o. Came walk (after_settle limit before later w o) (length w.ring.ids)
      (2 * length w.ring.ids * w.ring.rounds) w reports end left) (sym e)
      (inl (record { reports_are = x.1.0; end_is = x.1.1; left_is = there.1 }))
  known limit before (step.Settle ∷ later) w reports end left knows some size (inr (inr x)) =
      let a = script walk limit before (step.Settle ∷ later) w in
      let b = broken w limit left.fibres knows x.0 in
      inr (
        x.1.1,
        subst (λ rs. IsCutShort walk a (length w.ring.ids) (2 * length w.ring.ids * w.ring.rounds) w rs left) (sym x.1.0)
            (cut_short limit before later w left (settles_in st w limit) refl b.ran b.out some size b.sent b.within),
      )
  known limit before (this ∷ later) w reports end left knows some size x =
      known_on limit before this later w reports end left knows some size (known limit before later (walk.does this w)) x

pub known_scripts : {N T : Type 0} (walk : Walk N T) → KeepsRounds walk → KnownScripts walk
known_scripts walk law = known walk law
