-- What cannot be where a source has no plan.
use Rattle.std.proofs.Common.{ℕ, List}
use Rattle.sdh_status.specs.declared.Status.{Status}
use Rattle.sdh_status.specs.declared.Status.TheVariants as status
use Rattle.sdh_shell.specs.Calls.{HasRun}
use Rattle.sdh_shell.specs.Reading.{HasNoPlan}

-- without a plan nothing is run
pub no_run : (bytes : List ℕ) (how : Status) (A : Type 0) → HasNoPlan bytes how → HasRun how → A
no_run bytes status.Ok A x h = absurd x
no_run bytes (status.Unsettled k) A x h = absurd x
no_run bytes status.PlantFault A x h = absurd x
no_run bytes how A x h = absurd h
