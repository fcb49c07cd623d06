-- The state of the source and of the sink in memory.
use Rattle.std.specs.Prelude.{ℕ, List}

pub record HeldSource : Type 0 where
  -- the bytes left
  pub left : List ℕ
  -- the most bytes that a read gives
  pub piece : ℕ
  -- the numbers of the calls that fail, counted from 1
  pub failing : List ℕ
  -- the number of calls so far
  pub calls : ℕ
  -- the number of calls that failed
  pub faults : ℕ

pub record HeldSink : Type 0 where
  -- the bytes written
  pub bytes : List ℕ
  -- the number of bytes that the sink still takes
  pub room : ℕ
  -- the most bytes that a write takes
  pub piece : ℕ
  -- the numbers of the calls that fail, counted from 1
  pub failing : List ℕ
  -- the number of calls so far
  pub calls : ℕ
  -- the number of calls that failed
  pub faults : ℕ
