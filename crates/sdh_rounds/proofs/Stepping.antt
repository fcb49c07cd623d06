-- What a settle step answers.
use Rattle.std.proofs.Common.{◌≡◌, ℕ, ◌-◌, ◌*◌, ◌%◌, ◌<◌, ◌≤◌, Bool, true, length, refl, ap, sym, subst, ◌∙◌, arith}
use Rattle.std.specs.Prelude.{Result, Ok, Err, OnErr}
use Rattle.std.specs.Result.{IsErrAnd}
use Rattle.std.proofs.lemmas.Result.{err_from_is_err_and}
use Rattle.sdh_basics.specs.Causes.{Rose, one_more}
use Rattle.sdh_plant.specs.Fibres.{IsPrepared}
use Rattle.sdh_rounds.specs.Stations.{Station}
use Rattle.sdh_rounds.specs.Held.{HeldRing, World}
use Rattle.sdh_rounds.specs.Runs.{course_with}
use Rattle.sdh_rounds.specs.Quiet.{NeverSettles, Settles}
use Rattle.sdh_rounds.specs.Faults.{BreaksRound, BreaksStep}
use Rattle.sdh_rounds.specs.Outcome.{IsStep}
use Rattle.sdh_rounds.specs.declared.faults.SettleError.{SettleError}
use Rattle.sdh_rounds.specs.declared.faults.SettleError.TheVariants.{Unsettled, PlantFault}
use Rattle.sdh_rounds.proofs.Laws.{settled_numbers}
use Rattle.sdh_rounds.proofs.Settling.{GoesOn, unsettles, held_went}

-- what holds in any case holds after an error
pub err_by : {A E : Type 0} (r : Result A E) (P : Type 0) → P → OnErr r P
err_by (Ok a) P p = tt
err_by (Err e) P p = p

-- the test of the code, for an equal ring
pub over_of : {N : Type 0} {r s : HeldRing N} {calm : ℕ} → r ≡ s → (3 * length r.ids ≤ calm) × ((r.rounds - 1) % 128 ≡ 0)
    → (3 * length s.ids ≤ calm) × ((s.rounds - 1) % 128 ≡ 0)
over_of {N} {r} {s} {calm} same test = subst (λ (x : HeldRing N). (3 * length x.ids ≤ calm) × ((x.rounds - 1) % 128 ≡ 0)) same test

module _ {N : Type 0} (st : Station N) where
  breaks_step : (w now left : World N) (limit k calm : ℕ) → GoesOn st w now k calm → k < limit → BreaksRound st now left
      → BreaksStep st w limit left
  breaks_step w now left limit k calm on within broke = record {
    rounds = on.went.rounds;
    arrive = on.went.arrive;
    within = let c = on.went.count in omega arith;
    never = subst (NeverSettles st (course_with st on.went.rounds w)) (sym on.went.count) on.never;
    last = subst (λ x. BreaksRound st x left) on.went.now_is broke;
  }

  fails_as : (exact : Bool) (w left : World N) (limit before after : ℕ) → BreaksStep st w limit left → Rose before after → before ≤ after
      → (exact ≡ true → after ≡ one_more before) → IsStep st exact w limit (Err PlantFault) left before after
  fails_as exact w left limit before after breaks rose later one = record {
    outcome = record {
      rounds = breaks.rounds;
      arrive = breaks.arrive;
      within = breaks.within;
      never = breaks.never;
      off = breaks.last.off;
    };
    prepared = λ e. let b = ap (λ (r : HeldRing N). r.broken) breaks.last.ring in absurd (cc);
    numbers = tt;
    all = λ e. absurd (cc);
    broken = λ _. ap (λ (r : HeldRing N). r.broken) breaks.last.ring;
    breaks = λ _. breaks;
    later = later;
    failed = λ _. rose;
    counted = record { one = λ x _. one x; none = λ x no. absurd (no refl) };
  }

  -- a round of the step failed, after rounds in which no call failed
  pub fails_step : (exact : Bool) (w now left : World N) (limit k calm before between after : ℕ) → GoesOn st w now k calm → k < limit
      → BreaksRound st now left → before ≤ between → (exact ≡ true → between ≡ before) → between ≤ after → Rose between after
      → (exact ≡ true → after ≡ one_more between) → (result : Result (Unit {0}) SettleError) → IsErrAnd result (λ e. e ≡ PlantFault)
      → IsStep st exact w limit result left before after
  fails_step exact w now left limit k calm before between after on within broke later none last rose one result is =
      let p = err_from_is_err_and result is in
      subst (λ r. IsStep st exact w limit r left before after) (sym (p.1 ∙ ap Err p.2))
      (fails_as exact w left limit before after (breaks_step w now left limit k calm on within broke) (omega (arith, later, rose))
      (omega arith) (λ x. one x ∙ ap one_more (none x)))

  pub ends_step : (exact : Bool) (w left : World N) (limit before after : ℕ) → 1 ≤ length w.ring.ids → Settles st w limit left
      → IsPrepared w.ring.settings.rate (length w.ring.ids) left.fibres → before ≤ after → (exact ≡ true → after ≡ before)
      → IsStep st exact w limit (Ok tt) left before after
  ends_step exact w left limit before after some settles prepared later none = record {
    outcome = settles;
    prepared = λ _. prepared;
    numbers = settled_numbers st w left limit some settles;
    all = λ e. absurd (cc);
    broken = λ e. absurd (cc);
    breaks = λ e. absurd (cc);
    later = later;
    failed = λ e. absurd (cc);
    counted = record { one = λ x e. absurd (cc); none = λ x no. none x };
  }

  pub runs_out : (exact : Bool) (w now : World N) (limit calm before after : ℕ) → GoesOn st w now limit calm
      → IsPrepared w.ring.settings.rate (length w.ring.ids) now.fibres → before ≤ after → (exact ≡ true → after ≡ before)
      → IsStep st exact w limit (Err Unsettled) now before after
  runs_out exact w now limit calm before after on prepared later none = record {
    outcome = unsettles st w now limit calm on;
    prepared = λ _. prepared;
    numbers = tt;
    all = λ _. ap (λ (r : HeldRing N). r.rounds) (held_went st w now limit calm on.went);
    broken = λ e. absurd (cc);
    breaks = λ e. absurd (cc);
    later = later;
    failed = λ e. absurd (cc);
    counted = record { one = λ x e. absurd (cc); none = λ x no. none x };
  }
