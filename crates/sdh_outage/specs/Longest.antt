-- The longest run that is counted is the longest of all, by the rounds as a list and not one after the other.
use Rattle.std.specs.Prelude.{◌≡◌, ℕ, ◌≤◌, true, List, ◌++◌, length}
use Rattle.std.specs.List.{list_all}
use Rattle.sdh_outage.specs.declared.kind.Kind.{Kind}
use Rattle.sdh_outage.specs.Outages.{is_out, outage_of}

-- among these rounds are n in a row that all brought none of the far customer's bytes
pub record HasRun (kinds : List Kind) (n : ℕ) : Type 0 where
  pub later : List Kind
  pub run : List Kind
  pub earlier : List Kind
  pub whole : kinds ≡ later ++ run ++ earlier
  pub long : length run ≡ n
  pub out : list_all is_out run ≡ true

-- the longest run that is counted is one of the rounds', and none of theirs is longer
abbrev pub LongestIsLongest : Type 0
LongestIsLongest =
    (first : ℕ) (kinds : List Kind)
    → HasRun kinds (outage_of first kinds).runs.longest × ((n : ℕ) → HasRun kinds n → n ≤ (outage_of first kinds).runs.longest)
