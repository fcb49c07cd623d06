-- A settle step that writes nothing until it has ended.
use Rattle.std.proofs.Common.{◌≡◌, ℕ, List, [], ◌++◌, length, refl, sym, arith, inl, inr, Some, append-nil}
use Rattle.sdh_rounds.specs.Held.{World}
use Rattle.sdh_rounds.specs.Runs.{run_with, course_with}
use Rattle.std.specs.Prelude.{Result, Err}
use Rattle.sdh_rounds.specs.Quiet.{Unsettles}
use Rattle.sdh_scripts.specs.Walks.{Walk}
use Rattle.sdh_scripts.specs.Scripts.{Breaks}
use Rattle.sdh_rounds.specs.declared.faults.SettleError.{SettleError}
use Rattle.sdh_rounds.specs.declared.faults.SettleError.TheVariants as settling
use Rattle.sdh_rounds.specs.Outcome.{Outcome}
use Rattle.sdh_scripts.specs.declared.teller.StepError.{StepError}
use Rattle.sdh_scripts.specs.declared.teller.StepError.TheVariants as stepping
use Rattle.sdh_scripts.specs.Runners.{EndsBy}
use Rattle.sdh_scripts.specs.Tellers.{Begun, StopsBy, step_error, WroteBegun}

module _ {N T : Type 0} (walk : Walk N T) (limit number : ℕ) (w left : World N) where
  pub silent_unsettled : Unsettles walk.station w limit left → (x : Begun walk limit number (λ told. []) w [] left) × (left ≡ x.mid)
  silent_unsettled u = (
    record {
      mid = left;
      told = walk.tells number (course_with walk.station u.rounds w) (length u.rounds);
      so_far =
          inl (record {
            rounds = u.rounds;
            arrive = u.arrive;
            few = omega (arith, u.all);
            never = λ j low ends. u.never j (omega (arith, u.all, low)) ends;
            mid_is = u.left_is;
            told_is = refl;
          });
      next = inl refl;
      text_is = refl;
    },
    refl,
  )

  pub silent_broken : Breaks walk limit w left.fibres → Begun walk limit number (λ told. []) w [] left
  silent_broken (inl b) = record {
    mid = run_with walk.station b.rounds w;
    told = walk.tells number (course_with walk.station b.rounds w) (length b.rounds);
    so_far =
        inl (record {
          rounds = b.rounds;
          arrive = b.arrive;
          few = omega (arith, b.within);
          never = λ j low ends. b.never j (omega (arith, low)) ends;
          mid_is = refl;
          told_is = refl;
        });
    next = inr b.off;
    text_is = refl;
  }
  silent_broken (inr b) = record {
    mid = run_with walk.station b.rounds b.mid;
    told = walk.tells number (course_with walk.station (b.settles.rounds ++ b.rounds) w) (length b.settles.rounds);
    so_far =
        inr (record {
          settled = b.mid;
          settles = b.settles;
          rounds = b.rounds;
          arrive = b.arrive;
          few = omega (arith, b.few);
          mid_is = refl;
          told_is = refl;
        });
    next = inr b.off;
    text_is = refl;
  }

  -- why a settle step over a ring didn't end is why the step of the script didn't
  pub stops_by : (why : SettleError) → EndsBy walk limit w why left → StopsBy walk limit w (step_error why) left
  stops_by settling.Unsettled x = x
  stops_by settling.PlantFault x = x

  -- a text in memory is as it was where a settle step didn't end
  pub silent_begun : (text_of : T → List ℕ) (bytes : List ℕ) (why : SettleError) → EndsBy walk limit w why left
      → WroteBegun walk limit number text_of (λ told. []) w (step_error why) left (Some bytes) (Some bytes)
  silent_begun text_of bytes settling.Unsettled x =
      let silent = silent_unsettled x in
      ([], silent.0, silent.1, sym (append-nil bytes))
  silent_begun text_of bytes settling.PlantFault x = ([], silent_broken x, sym (append-nil bytes))

  -- a settle step over a ring, whose rounds are all that is run, ends as its outcome says
  pub ends_by : (why : SettleError) → Outcome walk.station w limit (Err why) left → EndsBy walk limit w why left
  ends_by settling.Unsettled x = x
  ends_by settling.PlantFault x = inl x

-- no write of a ring's settle step fails
pub none_written : (why : SettleError) → ◌≡◌ {A = Result (Unit {0}) StepError} (Err (step_error why)) (Err stepping.WriteFault) → ⊥
none_written settling.Unsettled e = grind arith
none_written settling.PlantFault e = grind arith

-- it ends with a plant fault exactly where the ring's settle step does
pub fault_on : (why : SettleError) → ◌≡◌ {A = Result (Unit {0}) SettleError} (Err why) (Err settling.PlantFault)
    → ◌≡◌ {A = Result (Unit {0}) StepError} (Err (step_error why)) (Err stepping.PlantFault)
fault_on settling.Unsettled e = absurd (grind arith)
fault_on settling.PlantFault e = refl

pub fault_back : (why : SettleError) → ◌≡◌ {A = Result (Unit {0}) StepError} (Err (step_error why)) (Err stepping.PlantFault)
    → ◌≡◌ {A = Result (Unit {0}) SettleError} (Err why) (Err settling.PlantFault)
fault_back settling.Unsettled e = absurd (grind arith)
fault_back settling.PlantFault e = refl
