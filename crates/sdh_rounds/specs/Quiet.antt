-- Quiet windows, and where a settle step ends. Both are this project's own.
use Rattle.std.specs.Prelude.{ℕ, ◌≡◌, ◌+◌, ◌*◌, ◌-◌, ◌%◌, ◌==◌, ◌&&◌, ◌<◌, ◌≤◌, Bool, true, nat_le, Option, List, length, find}
use Rattle.std.specs.List.{list_all, range_with_len}
use Rattle.sdh_plant.specs.Fibres.{Arrival, Fibres}
use Rattle.sdh_rounds.specs.Stations.{Station}
use Rattle.sdh_rounds.specs.Held.{World}
use Rattle.sdh_rounds.specs.Runs.{run_with, ArriveIn, course_with, course, IsBrokenOff}

-- the last round was calm at each node
abbrev pub is_calm : {N : Type 0} → Station N → List N → Bool
is_calm s ns = list_all s.calm ns

-- ---- windows in a course, which gives the world after each number of rounds of a step

-- the k-th round, counted from 1, is calm
abbrev pub IsCalm : {N : Type 0} → Station N → (ℕ → World N) → ℕ → Type 0
IsCalm s at k = is_calm s (at k).ring.nodes ≡ true

-- a quiet window ends with the k-th round: it is the last of 3 n calm rounds of the step, and its number is a multiple
-- of 128
pub record EndsWindow {N : Type 0} (s : Station N) (at : ℕ → World N) (k : ℕ) : Type 0 where
  pub long : 3 * length (at k).ring.ids ≤ k
  pub calm : (j : ℕ) → k < j + 3 * length (at k).ring.ids → j ≤ k → IsCalm s at j
  pub place : ((at k).ring.rounds - 1) % 128 ≡ 0

-- the settle step ends with its k-th round, which is the first to end a window
pub record SettlesAt {N : Type 0} (s : Station N) (at : ℕ → World N) (limit k : ℕ) : Type 0 where
  pub within : k ≤ limit
  pub window : EndsWindow s at k
  pub first : (j : ℕ) → j < k → EndsWindow s at j → ⊥

-- no window ends in `limit` rounds
abbrev pub NeverSettles : {N : Type 0} → Station N → (ℕ → World N) → ℕ → Type 0
NeverSettles s at limit = (j : ℕ) → j ≤ limit → EndsWindow s at j → ⊥

-- ---- ends of windows and steps, computed

-- whether a quiet window ends with the k-th round
unfoldable pub ends_window : {N : Type 0} → Station N → (ℕ → World N) → ℕ → Bool
ends_window s at k =
    nat_le (3 * length (at k).ring.ids) k && (list_all (λ i. is_calm s (at (k - i)).ring.nodes)
    (range_with_len 0 (3 * length (at k).ring.ids)) && (((at k).ring.rounds - 1) % 128 == 0))

-- the number of rounds after which a settle step from w ends, where arrivals are known: the first number within the
-- limit with which a window ends
unfoldable pub settles_in : {N : Type 0} → Station N → World N → ℕ → Option ℕ
settles_in s w limit = find (ends_window s (course s w)) (range_with_len 0 (limit + 1))

-- ---- what a step leaves, whatever arrives

-- a settle step ended with a window
pub record Settles {N : Type 0} (s : Station N) (w : World N) (limit : ℕ) (left : World N) : Type 0 where
  pub rounds : List (List Arrival)
  pub arrive : ArriveIn s rounds w
  pub settles : SettlesAt s (course_with s rounds w) limit (length rounds)
  pub left_is : left ≡ run_with s rounds w

-- the limit's rounds ran in a settle step, and none of them ended a window
pub record Unsettles {N : Type 0} (s : Station N) (w : World N) (limit : ℕ) (left : World N) : Type 0 where
  pub rounds : List (List Arrival)
  pub arrive : ArriveIn s rounds w
  pub all : length rounds ≡ limit
  pub never : NeverSettles s (course_with s rounds w) limit
  pub left_is : left ≡ run_with s rounds w

-- a fault broke a round of a settle step off, before any round ended a window
pub record BreaksOff {N : Type 0} (s : Station N) (w : World N) (limit : ℕ) (left : Fibres) : Type 0 where
  pub rounds : List (List Arrival)
  pub arrive : ArriveIn s rounds w
  pub within : length rounds < limit
  pub never : NeverSettles s (course_with s rounds w) (length rounds)
  pub off : IsBrokenOff s (run_with s rounds w) left

-- a number of rounds that is always enough for a quiet window in a ring of n over honest fibres, as the laws of each
-- kind of ring say
abbrev pub enough_for : ℕ → ℕ
enough_for n = 64 * n + 512
