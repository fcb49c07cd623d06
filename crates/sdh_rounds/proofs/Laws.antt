-- The laws.
use Rattle.std.proofs.Common.{◌≡◌, ℕ, ◌+◌, ◌-◌, ◌%◌, List, [], ◌∷◌, ◌++◌, length, take, Option, Some, None, refl, ap, sym, subst, ◌∙◌}
use Rattle.std.proofs.Common.{arith, append_assoc, append-nil}
use Rattle.std.specs.Prelude.{option_map}
use Rattle.sdh_plant.specs.Fibres.{Arrival, Fibres, IsPrepared}
use Rattle.sdh_ringmap.specs.declared.terms.Rate.{Rate}
use Rattle.sdh_plant.specs.Arrivals.{Knows}
use Rattle.sdh_rounds.specs.Stations.{Station}
use Rattle.sdh_rounds.specs.Held.{HeldRing, World}
use Rattle.sdh_rounds.specs.Rounds.{frames_with, sent_all, sent_some, after_given, round_with, round}
use Rattle.sdh_rounds.specs.Runs.{run_with, course_with}
use Rattle.sdh_rounds.specs.Laws.{KnownRounds, LeavesAsItWas, Appends, RoundsKeep, FaultsKeep, frames_in, RunsKeep, SettledNumbers, BrokenStepsSend}
use Rattle.sdh_rounds.specs.Laws.{KnownSteps, StepsAreComputed}
use Rattle.sdh_rounds.proofs.Runs.{knows_round, conditions_round, honest_round, held_round, count_round, prepared_round, course_whole}
use Rattle.sdh_rounds.proofs.Runs.{held_run, conditions_run, honest_run, known_settles, known_unsettles}
use Rattle.sdh_rounds.proofs.FirstWindows.{settles_if, never_if, settles_only, never_only}

off_conditions : (frames : List (List ℕ)) (k : ℕ) (f : Fibres) → (sent_some frames (after_given k f)).conditions ≡ f.conditions
unfolding sent_some after_given
off_conditions frames k f = refl

off_honest : (frames : List (List ℕ)) (k : ℕ) (f : Fibres) → (sent_some frames (after_given k f)).honest ≡ f.honest
unfolding sent_some after_given
off_honest frames k f = refl

off_sent : (frames : List (List ℕ)) (k : ℕ) (f : Fibres) → Appends f frames (sent_some frames (after_given k f))
unfolding sent_some after_given
off_sent frames k f = refl

pub appended_none : (o : Option (List (List ℕ))) → o ≡ option_map (λ sent. sent ++ []) o
appended_none None = refl
appended_none (Some sent) = ap Some (sym (append-nil sent))

pub appended_twice : (o : Option (List (List ℕ))) (xs ys : List (List ℕ))
    → option_map (λ sent. sent ++ ys) (option_map (λ sent. sent ++ xs) o) ≡ option_map (λ sent. sent ++ (xs ++ ys)) o
appended_twice None xs ys = refl
appended_twice (Some sent) xs ys = ap Some (append_assoc sent xs ys)

appends_both : (f g h : Fibres) (xs ys : List (List ℕ)) → Appends f xs g → Appends g ys h → Appends f (xs ++ ys) h
appends_both f g h xs ys a b = b ∙ ap (option_map (λ sent. sent ++ ys)) a ∙ appended_twice f.sent xs ys

module _ {N : Type 0} (st : Station N) where
  pub known_rounds_are : KnownRounds st
  unfolding round
  known_rounds_are w after k r = let is =
      r.arrive.known k in (
        r.after_is ∙ ap (λ xs. round_with st xs w) is,
        subst (λ x. Knows x.fibres) (sym r.after_is) (knows_round st r.arrivals w k),
      )

  appends_round : (xs : List Arrival) (w : World N) → Appends w.fibres (frames_with st xs w) (round_with st xs w).fibres
  unfolding round_with sent_all after_given
  appends_round xs w = refl

  keeps_round : (xs : List Arrival) (w : World N) → LeavesAsItWas w (round_with st xs w) 1
  keeps_round xs w = record {
    ring = held_round st xs w;
    size = count_round st xs w;
    conditions = conditions_round st xs w;
    honest = honest_round st xs w;
    prepared = λ rate h. prepared_round st rate xs w h;
  }

  pub rounds_keep : RoundsKeep st
  rounds_keep w after r = (
    subst (λ x. LeavesAsItWas w x 1) (sym r.after_is) (keeps_round r.arrivals w),
    subst (λ x. Appends w.fibres (frames_with st r.arrivals w) x.fibres) (sym r.after_is) (appends_round r.arrivals w),
  )

  pub faults_keep : FaultsKeep st
  faults_keep = record {
    conditions = λ w g b. ap (λ (f : Fibres). f.conditions) b.after_is ∙ off_conditions _ b.given w.fibres;
    honest = λ w g b. ap (λ (f : Fibres). f.honest) b.after_is ∙ off_honest _ b.given w.fibres;
    sent = λ w g b. ap (λ (f : Fibres). f.sent) b.after_is ∙ off_sent _ b.given w.fibres;
  }

  appends_run : (rounds : List (List Arrival)) (w : World N) → Appends w.fibres (frames_in st rounds w) (run_with st rounds w).fibres
  appends_run [] w = appended_none w.fibres.sent
  appends_run (xs ∷ rounds) w =
      appends_both w.fibres (round_with st xs w).fibres (run_with st rounds (round_with st xs w)).fibres (frames_with st xs w)
      (frames_in st rounds (round_with st xs w)) (appends_round xs w) (appends_run rounds (round_with st xs w))

  size_run : (rounds : List (List Arrival)) (w : World N) → length (run_with st rounds w).ring.nodes ≡ length w.ring.nodes
  size_run [] w = refl
  size_run (xs ∷ rounds) w = size_run rounds (round_with st xs w) ∙ count_round st xs w

  prepared_run : (rounds : List (List Arrival)) (w : World N) → (rate : Rate) → IsPrepared rate (length w.ring.nodes) w.fibres
      → IsPrepared rate (length w.ring.nodes) (run_with st rounds w).fibres
  prepared_run [] w rate h = h
  prepared_run (xs ∷ rounds) w rate h =
      let n = count_round st xs w in
      subst (λ k. IsPrepared rate k (run_with st rounds (round_with st xs w)).fibres) n
      (prepared_run rounds (round_with st xs w) rate (subst (λ k. IsPrepared rate k (round_with st xs w).fibres) (sym n)
      (prepared_round st rate xs w h)))

  pub runs_keep : RunsKeep st
  runs_keep rounds w = (
    record {
      ring = held_run st rounds w;
      size = size_run rounds w;
      conditions = conditions_run st rounds w;
      honest = honest_run st rounds w;
      prepared = λ rate h. prepared_run rounds w rate h;
    },
    appends_run rounds w,
  )

  pub settled_numbers : SettledNumbers st
  settled_numbers w left limit some s =
      let k = length s.rounds in
      let at : left ≡ course_with st s.rounds w k = s.left_is ∙ course_whole st s.rounds w in
      let ids : length left.ring.ids ≡ length w.ring.ids =
      ap (λ (x : World N). length x.ring.ids) s.left_is ∙ ap (λ (r : HeldRing N). length r.ids) (held_run st s.rounds w) in
      let run : left.ring.rounds ≡ w.ring.rounds + k =
      ap (λ (x : World N). x.ring.rounds) s.left_is ∙ ap (λ (r : HeldRing N). r.rounds) (held_run st s.rounds w) in
      let same : length left.ring.ids ≡ length (course_with st s.rounds w k).ring.ids = ap (λ (x : World N). length x.ring.ids) at in
      let place : (left.ring.rounds - 1) % 128 ≡ 0 = ap (λ (x : World N). (x.ring.rounds - 1) % 128) at ∙ s.settles.window.place in
      let long = s.settles.window.long in
      let within = s.settles.within in
      record { ran = omega arith; most = omega arith; multiple = place; later = omega arith }

  pub broken_steps_send : BrokenStepsSend st
  broken_steps_send w limit g b =
      appends_both w.fibres (run_with st b.rounds w).fibres g (frames_in st b.rounds w)
      (take b.off.out (frames_with st b.off.arrivals (run_with st b.rounds w))) (appends_run b.rounds w)
      (faults_keep.sent (run_with st b.rounds w) g b.off)

  pub known_steps : KnownSteps st
  known_steps = record {
    settled = λ w left limit k s. known_settles st w limit left k s;
    unsettled = λ w left limit k s. known_unsettles st w limit left k s;
  }

  pub steps_are_computed : StepsAreComputed st
  steps_are_computed = record {
    settled = λ w limit k. (settles_if st w limit k, settles_only st w limit k);
    unsettled = λ w limit. (never_if st w limit, never_only st w limit);
  }
