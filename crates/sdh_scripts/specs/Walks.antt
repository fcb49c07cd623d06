-- What a script does with a ring of any kind, and what it reports of it.
use Rattle.std.specs.Prelude.{ℕ}
use Rattle.sdh_rounds.specs.Stations.{Station}
use Rattle.sdh_rounds.specs.Held.{HeldRing, World}
use Rattle.sdh_plan.specs.declared.step.Step.{Step}
use Rattle.sdh_report.specs.Reports.{Report}

-- `T` is what is reported of a settle step
pub record Walk (N T : Type 0) : Type 0 where
  -- the ring's nodes, which run in rounds
  pub station : Station N
  -- what a step that runs no round does to the ring and its fibres
  pub does : Step → World N → World N
  -- the number of rounds that are run after each settle step that ended, and reported with it
  pub behind : ℕ
  -- what is reported of the settle step of this number that ended with the k-th round of a course, which gives the
  -- world after each number of rounds of the step and of those after it
  pub tells : ℕ → (ℕ → World N) → ℕ → T
  -- the last round of the settle step with this report
  pub last : T → ℕ

-- a walk that runs no round after a settle step, and reports the ring that the step left
abbrev pub reporting : {N : Type 0} → Station N → (Step → World N → World N) → (ℕ → HeldRing N → Report) → Walk N Report
reporting station does report = record {
  station = station;
  does = does;
  behind = 0;
  tells = λ number at k. report number (at k).ring;
  last = λ (r : Report). r.round;
}
