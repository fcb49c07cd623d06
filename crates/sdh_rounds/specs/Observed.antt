-- What an observer keeps of the rounds of a settle step. It looks at the ring after each of them.
use Rattle.std.specs.Prelude.{ℕ, suc, ◌≡◌, ◌⊎◌, ◌<◌, ◌≤◌, Bool, true, List, length}
use Rattle.sdh_plant.specs.Fibres.{Arrival, IsPrepared}
use Rattle.sdh_rounds.specs.Stations.{Station}
use Rattle.sdh_rounds.specs.Held.{HeldRing, World}
use Rattle.sdh_rounds.specs.Runs.{IsRound, IsBrokenOff, run_with, ArriveIn, course_with}
use Rattle.sdh_rounds.specs.Quiet.{EndsWindow, Settles}

-- after k rounds of a course, which gives the world after each number of rounds, one more round ran and left this ring
pub record RanOne {N : Type 0} (s : Station N) (at : ℕ → World N) (k : ℕ) (ring : HeldRing N) : Type 0 where
  pub few : k < 65536
  pub round : IsRound s (at k) (at (suc k))
  pub ring_is : ring ≡ (at (suc k)).ring

-- A settle step ended with a quiet window, and what is kept of its rounds is what should be. `heard at k` says that for
-- the first k rounds of the course `at`.
pub record Hears {N : Type 0} (s : Station N) (heard : (ℕ → World N) → ℕ → Type 0) (w : World N) (limit : ℕ) (left : World N) : Type 0 where
  pub settles : Settles s w limit left
  pub kept : heard (course_with s settles.rounds w) (length settles.rounds)

-- ---- a settle step that didn't end with a quiet window

-- Rounds of a settle step ran, and none before the last of them ended a quiet window of the step. What is kept of them
-- is what `kept_of` says.
pub record RanSome {N : Type 0} (s : Station N) (kept_of : (ℕ → World N) → ℕ → Type 0) (w : World N) (limit : ℕ)
    (mid : World N) : Type 0 where
  pub rounds : List (List Arrival)
  pub arrive : ArriveIn s rounds w
  pub few : length rounds ≤ limit
  pub never : (j : ℕ) → j < length rounds → EndsWindow s (course_with s rounds w) j → ⊥
  pub mid_is : mid ≡ run_with s rounds w
  pub kept : kept_of (course_with s rounds w) (length rounds)

-- What is kept of a settle step that didn't end with a quiet window. After the rounds of which something is kept no
-- other round ran, or a fault broke the next one off.
pub record HearsSome {N : Type 0} (s : Station N) (heard : (ℕ → World N) → ℕ → Type 0) (w : World N) (limit : ℕ)
    (left : World N) : Type 0 where
  pub mid : World N
  pub ran : RanSome s heard w limit mid
  pub next : (left ≡ mid) ⊎ IsBrokenOff s mid left.fibres

-- A recorder stopped a settle step after a round, and no further round ran. The plant's count of faults was `before`
-- and is `after`. Where that count is exact, no call of the plant failed.
pub record IsStopped {N : Type 0} (s : Station N) (exact : Bool) (kept_of : (ℕ → World N) → ℕ → Type 0) (w : World N) (limit : ℕ)
    (left : World N) (before after : ℕ) : Type 0 where
  pub ran : RanSome s kept_of w limit left
  pub prepared : IsPrepared w.ring.settings.rate (length w.ring.ids) left.fibres
  pub later : before ≤ after
  pub none : exact ≡ true → after ≡ before
