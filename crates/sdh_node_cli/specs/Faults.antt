-- Faults of the parts of a call of the program, by the number of failed calls that a source or a sink counts.
use Rattle.std.specs.Prelude.{ℕ, ◌≤◌, Bool}
use Rattle.sdh_basics.specs.Causes.{Rose, IsCounted}

-- The count of failed calls did not fall. It rose where this fault ended the operation. If the count is exact, it rose
-- by one then, and stayed otherwise.
pub record CountsFault (exact : Bool) (before now : ℕ) (Fault : Type 0) : Type 0 where
  pub later : before ≤ now
  pub rose : Fault → Rose before now
  pub counted : IsCounted exact Fault before now
