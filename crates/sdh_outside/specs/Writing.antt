-- What writing a text did to the bytes that a sink or an output shows.
use Rattle.std.specs.Prelude.{◌<◌, ◌≤◌, ℕ, Bool, List, length, take, Option, Result, IsErr, OnOk, OnErr}
use Rattle.std.specs.Io.KnownBytes.{Appends}
use Rattle.sdh_basics.specs.Causes.{Rose, IsCounted}

-- only a beginning of the text was appended, shorter than the text
abbrev pub AppendsFewer : Option (List ℕ) → Option (List ℕ) → List ℕ → Type 0
AppendsFewer old new text = (n : ℕ) × (n < length text) × Appends old new (take n text)

-- The whole text was appended; or a write failed, which the count of faults shows, and only a beginning of the text was
-- appended. Where the count is exact, one write failed if the result is an error, and none if it is Ok.
pub record Wrote {T E : Type 0} (exact : Bool) (old new : Option (List ℕ)) (before after : ℕ) (text : List ℕ)
    (result : Result T E) : Type 0 where
  pub ok : OnOk result (Appends old new text)
  pub front : OnErr result (AppendsFewer old new text)
  pub fault : OnErr result (Rose before after)
  pub later : before ≤ after
  pub counted : IsCounted exact (IsErr result) before after
