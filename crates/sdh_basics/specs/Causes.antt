-- Counts of failed calls: an operation ends with a fault only where the count rose.
use Rattle.std.specs.Prelude.{ℕ, ◌≡◌, ◌+◌, ◌-◌, ◌^◌, ◌≤◌, min, Bool, true, Result, IsErr, OnErr}

-- the count plus one, up to the last value of a u64
abbrev pub one_more : ℕ → ℕ
one_more n = min (n + 1) (2 ^ 64 - 1)

-- the count rose, or it stands at the last value of a u64
abbrev pub Rose : ℕ → ℕ → Type 0
Rose before now = min (before + 1) (2 ^ 64 - 1) ≤ now

-- A count that is exact shows every failed call. It rose by one where the operation ended with this fault, and stayed
-- as it was where the operation ended otherwise.
pub record IsCounted (exact : Bool) (Fault : Type 0) (before now : ℕ) : Type 0 where
  pub one : exact ≡ true → Fault → now ≡ one_more before
  pub none : exact ≡ true → (Fault → ⊥) → now ≡ before

-- the count did not fall; it rose where the operation ended with an error; and if it is exact it shows every failed
-- call
pub record HasCause {T E : Type 0} (exact : Bool) (before now : ℕ) (result : Result T E) : Type 0 where
  pub later : before ≤ now
  pub failed : OnErr result (Rose before now)
  pub counted : IsCounted exact (IsErr result) before now
