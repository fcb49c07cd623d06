-- The number of all rounds of a run, by what is reported of it.
use Rattle.std.proofs.Common.{◌≡◌, ◌≢◌, ℕ, ◌+◌, List, [], ◌∷◌, ◌++◌, length, refl, ap, sym, ◌∙◌, subst, arith, inl, inr, append-nil}
use Rattle.std.specs.Prelude.{map}
use Rattle.sdh_plant.specs.Fibres.{Arrival}
use Rattle.sdh_node.specs.Stations.{adm}
use Rattle.sdh_rounds.specs.Runs.{run_with, course_with}
use Rattle.sdh_rounds.proofs.Runs.{course_whole, held_run}
use Rattle.sdh_node.specs.Rings.Held.{HeldRing}
use Rattle.sdh_node.specs.Rings.Rounds.{World}
use Rattle.sdh_owed.specs.Steps.{world_after_step}
use Rattle.sdh_plan.specs.declared.step.Step.{Step}
use Rattle.sdh_plan.specs.declared.step.Step.TheVariants as step
use Rattle.sdh_status.specs.declared.Status.{Status}
use Rattle.sdh_status.specs.declared.Status.TheVariants as status
use Rattle.sdh_scripts.specs.Scripts.{Ended, Runs}
use Rattle.sdh_scripts.specs.Tellers.{SoFar}
use Rattle.sdh_scripts.specs.Streams.{LastTold, StoppedTold}
use Rattle.sdh_scripts.proofs.Outcomes.{refused_ends}
use Rattle.sdh_owed.proofs.Known.{no_round}
use Rattle.sdh_aps_cli.specs.Signalled.{Signalled, signalled_in}
use Rattle.sdh_aps_cli.specs.Scripts.{signalling_walk}
use Rattle.sdh_aps_cli.specs.Plans.{Piece, Ended as Done, Begun as Open, rounds_after, rounds_from, rounds_of_pieces, pieces_of}

rounds_append : (n : ℕ) (xs ys : List Piece) → rounds_from n (xs ++ ys) ≡ rounds_from (rounds_from n xs) ys
rounds_append n [] ys = refl
rounds_append n (p ∷ xs) ys = rounds_append (rounds_after p) xs ys

-- ---- a settle step

-- what is reported of rounds of a step, and of none after it, shows the number of rounds of the world that they led to
shows_rounds : (number : ℕ) (w mid : World) (told : Signalled) (rounds behind : List (List Arrival)) → length behind ≡ 0
    → mid ≡ run_with adm behind (run_with adm rounds w)
    → told ≡ signalled_in number (course_with adm (rounds ++ behind) w) (length rounds) → mid.ring.rounds ≡ told.rounds
shows_rounds number w mid told rounds [] none is told_is =
    ap (λ (v : World). v.ring.rounds) (is ∙ course_whole adm rounds w)
    ∙ sym (ap (λ (s : Signalled). s.rounds) told_is
    ∙ ap (λ (rs : List (List Arrival)). (course_with adm rs w (length rounds)).ring.rounds) (append-nil rounds))
shows_rounds number w mid told rounds (b ∷ behind) none is told_is = absurd (omega (arith, none))

ended_rounds : (limit number : ℕ) (w : World) (told : Signalled) (left : World) → Ended signalling_walk limit number w told left
    → left.ring.rounds ≡ told.rounds
ended_rounds limit number w told left e =
    shows_rounds number w left told e.settles.rounds e.behind e.count (e.left_is ∙ ap (run_with adm e.behind) e.settles.left_is) e.told_is

begun_rounds : (limit number : ℕ) (w : World) (told : Signalled) (mid : World) → SoFar signalling_walk limit number w told mid
    → mid.ring.rounds ≡ told.rounds
begun_rounds limit number w told mid (inl x) =
    shows_rounds number w mid told x.rounds [] refl x.mid_is
    (x.told_is ∙ ap (λ (rs : List (List Arrival)). signalled_in number (course_with adm rs w) (length x.rounds)) (sym (append-nil x.rounds)))
begun_rounds limit number w told mid (inr x) =
    let few = x.few in
    shows_rounds number w mid told x.settles.rounds x.rounds (omega (arith, few)) (x.mid_is ∙ ap (run_with adm x.rounds) x.settles.left_is)
    x.told_is

-- ---- a script

-- the number of rounds of a script that was done
runs_rounds : (limit before : ℕ) (steps : List Step) (w : World) (reports : List Signalled) (left : World)
    → Runs signalling_walk limit before steps w reports status.Ok left
    → left.ring.rounds ≡ rounds_from w.ring.rounds (map Done reports)
runs_rounds limit before [] w reports left x =
    ap (λ (v : World). v.ring.rounds) x.0 ∙ ap (λ (rs : List Signalled). rounds_from w.ring.rounds (map Done rs)) (sym x.1.0)
runs_rounds limit before (step.Settle ∷ later) w reports left (inl (told, next, rest, ended, is, x)) =
    runs_rounds limit (before + 1) later next rest left x
    ∙ ap (λ n. rounds_from n (map Done rest)) (ended_rounds limit (before + 1) w told next ended)
    ∙ ap (λ (rs : List Signalled). rounds_from w.ring.rounds (map Done rs)) (sym is)
runs_rounds limit before (step.Settle ∷ later) w reports left (inr (inl x)) = absurd (let e = x.1.1 in grind arith)
runs_rounds limit before (step.Settle ∷ later) w reports left (inr (inr x)) = absurd (let e = x.1.1 in grind arith)
runs_rounds limit before (this ∷ later) w reports left x =
    elim x [
      | inl goes ↦ runs_rounds limit before later (world_after_step this w) reports left goes
          ∙ ap (λ n. rounds_from n (map Done reports)) (no_round.rounds this w)
      | inr refused ↦ absurd (let e = (refused_ends this w reports status.Ok left refused).1 in grind arith)
    ]

-- the number of rounds after the step with which a script stopped, if that was no plant fault
last_rounds : (limit before : ℕ) (s : Step) (w : World) (begun : List Signalled) (end : Status) (left : World)
    → LastTold signalling_walk limit before s w begun end left → end ≢ status.PlantFault
    → left.ring.rounds ≡ rounds_from w.ring.rounds (map Open begun)
last_rounds limit before step.Settle w begun end left x other =
    ap (λ (v : World). v.ring.rounds) (x.3 other) ∙ begun_rounds limit (before + 1) w x.1.told x.1.mid x.1.so_far
    ∙ ap (λ (rs : List Signalled). rounds_from w.ring.rounds (map Open rs)) (sym x.2)
last_rounds limit before s w begun end left x other = absurd (other (refused_ends {T = Signalled} s w [] end left x.0).1)

-- all rounds of the limit ran of an unsettled settle step
pub all_ran : (limit before k : ℕ) (mid left : World) (end : Status) → end ≡ status.Unsettled k
    → Runs {T = Signalled} signalling_walk limit before (step.Settle ∷ []) mid [] end left
    → left.ring.rounds ≡ mid.ring.rounds + limit
all_ran limit before k mid left end is (inl (told, next, rest, ended, none, x)) = absurd (grind (arith, none))
all_ran limit before k mid left end is (inr (inl x)) =
    let u = x.0 in
    let grown = ap (λ (v : World). v.ring.rounds) u.left_is ∙ ap (λ (r : HeldRing). r.rounds) (held_run adm u.rounds mid) in
    omega (arith, grown, u.all)
all_ran limit before k mid left end is (inr (inr x)) = absurd (let e = sym x.1.1 ∙ is in grind arith)

-- a script over a ring in which no round had run
module _ (limit : ℕ) (steps : List Step) (w : World) (new : w.ring.rounds ≡ 0) (reports : List Signalled) (left : World) where
  from_none : (n : ℕ) (pieces : List Piece) → n ≡ rounds_from w.ring.rounds pieces → n ≡ rounds_of_pieces pieces
  from_none n pieces is = is ∙ ap (λ m. rounds_from m pieces) new

  pub done_rounds : Runs signalling_walk limit 0 steps w reports status.Ok left → left.ring.rounds ≡ rounds_of_pieces (pieces_of reports [])
  done_rounds x =
      from_none left.ring.rounds (pieces_of reports [])
      (runs_rounds limit 0 steps w reports left x ∙ sym (rounds_append w.ring.rounds (map Done reports) []))

  pub stopped_rounds : (begun : List Signalled) (end : Status) → StoppedTold signalling_walk limit steps w reports begun end left
      → end ≢ status.PlantFault → left.ring.rounds ≡ rounds_of_pieces (pieces_of reports begun)
  stopped_rounds begun end x other =
      from_none left.ring.rounds (pieces_of reports begun)
      (last_rounds limit (length reports) x.stops x.mid begun end left x.last other
      ∙ ap (λ n. rounds_from n (map Open begun)) (runs_rounds limit 0 x.gone w reports x.mid x.went)
      ∙ sym (rounds_append w.ring.rounds (map Done reports) (map Open begun)))

-- a settle step without a report isn't the end of a script that was done
settle_other : (limit before : ℕ) (w left : World) → Runs {T = Signalled} signalling_walk limit before (step.Settle ∷ []) w [] status.Ok left → ⊥
settle_other limit before w left (inl (told, next, rest, ended, is, x)) =
    let size : 0 ≡ length (told ∷ rest) = ap (λ (l : List Signalled). length l) is in omega (arith, size)
settle_other limit before w left (inr (inl x)) = let e = x.1.1 in grind arith
settle_other limit before w left (inr (inr x)) = let e = x.1.1 in grind arith

last_other : (limit before : ℕ) (s : Step) (w : World) (begun : List Signalled) (left : World)
    → LastTold signalling_walk limit before s w begun status.Ok left → ⊥
last_other limit before step.Settle w begun left x = settle_other limit before w left x.0
last_other limit before s w begun left x = let e = (refused_ends {T = Signalled} s w [] status.Ok left x.0).1 in grind arith

pub stopped_other : (limit : ℕ) (steps : List Step) (w : World) (reports begun : List Signalled) (end : Status) (left : World)
    → StoppedTold signalling_walk limit steps w reports begun end left → end ≢ status.Ok
stopped_other limit steps w reports begun end left x e =
    last_other limit (length reports) x.stops x.mid begun left
    (subst (λ (how : Status). LastTold signalling_walk limit (length reports) x.stops x.mid begun how left) e x.last)
