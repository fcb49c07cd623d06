-- A reader or a writer of std inside an adapter.
use Rattle.std.specs.Prelude.{ℕ, List, Option}

pub record Adapted : Type 0 where
  -- the bytes that the reader has left, or that the writer holds, where std's contracts know them
  pub known : Option (List ℕ)
  -- the number of calls that failed
  pub faults : ℕ
