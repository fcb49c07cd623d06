-- Laws of rounds and steps over any fibres, for nodes of any kind.
use Rattle.std.specs.Prelude.{◌≡◌, ℕ, ◌+◌, ◌-◌, ◌%◌, ◌<◌, ◌≤◌, ◌↔◌, Some, None, List, [], ◌∷◌, ◌++◌, length, take, option_map}
use Rattle.sdh_ringmap.specs.declared.terms.Rate.{Rate}
use Rattle.sdh_plant.specs.Fibres.{Arrival, Fibres, IsPrepared, IsHonest}
use Rattle.sdh_plant.specs.Arrivals.{Knows, honest_arrival}
use Rattle.sdh_ringmap.specs.declared.Side.{Side}
use Rattle.sdh_rounds.specs.Stations.{Station}
use Rattle.sdh_rounds.specs.Held.{HeldRing, World}
use Rattle.sdh_rounds.specs.Rounds.{arrival_at, frames_with, round_with, round}
use Rattle.sdh_rounds.specs.Runs.{IsRound, IsBrokenOff, run, run_with, course}
use Rattle.sdh_rounds.specs.Quiet.{SettlesAt, NeverSettles, settles_in, Settles, Unsettles, BreaksOff}

-- ---- a round

-- where arrivals are known they determine what a round leaves, and the arrivals of later rounds stay known
abbrev pub KnownRounds : {N : Type 0} → Station N → Type 0
KnownRounds {N} s = (w after : World N) → Knows w.fibres → IsRound s w after → (after ≡ round s w) × Knows after.fibres

-- what this number of rounds leaves as it was
pub record LeavesAsItWas {N : Type 0} (w after : World N) (rounds : ℕ) : Type 0 where
  pub ring : after.ring ≡ record w.ring { nodes = after.ring.nodes; rounds = w.ring.rounds + rounds }
  pub size : length after.ring.nodes ≡ length w.ring.nodes
  pub conditions : after.fibres.conditions ≡ w.fibres.conditions
  pub honest : after.fibres.honest ≡ w.fibres.honest
  pub prepared : (rate : Rate) → IsPrepared rate (length w.ring.nodes) w.fibres → IsPrepared rate (length w.ring.nodes) after.fibres

-- where the plant reports what was sent, g has what was sent on f, and after it these frames
abbrev pub Appends : Fibres → List (List ℕ) → Fibres → Type 0
Appends f frames g = g.sent ≡ option_map (λ sent. sent ++ frames) f.sent

-- what a round leaves as it was, and the frames that it appends
abbrev pub RoundsKeep : {N : Type 0} → Station N → Type 0
RoundsKeep {N} s =
    (w after : World N) → (r : IsRound s w after) → LeavesAsItWas w after 1 × Appends w.fibres (frames_with s r.arrivals w) after.fibres

-- what a round that was broken off keeps, and the first of its frames, which it appends
pub record FaultsKeep {N : Type 0} (s : Station N) : Type 0 where
  pub conditions : (w : World N) (g : Fibres) → IsBrokenOff s w g → g.conditions ≡ w.fibres.conditions
  pub honest : (w : World N) (g : Fibres) → IsBrokenOff s w g → g.honest ≡ w.fibres.honest
  pub sent : (w : World N) (g : Fibres) → (b : IsBrokenOff s w g) → Appends w.fibres (take b.out (frames_with s b.arrivals w)) g

-- fibres that are honest stay so over rounds, and what arrives is what was sent, as their conditions let it through
pub record HonestRounds {N : Type 0} (s : Station N) : Type 0 where
  pub round : (w : World N) (arrivals : List Arrival) → IsHonest w.fibres → IsHonest (round_with s arrivals w).fibres
  pub arrives : (f : Fibres) (p : ℕ) (d : Side) → IsHonest f → arrival_at f p d ≡ honest_arrival f p d

-- ---- a step

-- the frames of rounds with these arrivals, in order
abbrev pub frames_in : {N : Type 0} → Station N → List (List Arrival) → World N → List (List ℕ)
frames_in s [] w = []
frames_in s (arrivals ∷ later) w = frames_with s arrivals w ++ frames_in s later (round_with s arrivals w)

-- what rounds one after the other leave as it was, and the frames that they append
abbrev pub RunsKeep : {N : Type 0} → Station N → Type 0
RunsKeep {N} s =
    (rounds : List (List Arrival)) (w : World N) → LeavesAsItWas w (run_with s rounds w) (length rounds)
    × Appends w.fibres (frames_in s rounds w) (run_with s rounds w).fibres

-- a settle step that ended with a window ran at least one round, and the number of the last is a multiple of 128 and
-- not 0
pub record EndsAtAMultiple {N : Type 0} (r left : HeldRing N) (limit : ℕ) : Type 0 where
  pub ran : r.rounds < left.rounds
  pub most : left.rounds ≤ r.rounds + limit
  pub multiple : (left.rounds - 1) % 128 ≡ 0
  pub later : 128 < left.rounds

-- in a ring with a node every settle step that ends with a window ends at a multiple of 128
abbrev pub SettledNumbers : {N : Type 0} → Station N → Type 0
SettledNumbers {N} s =
    (w left : World N) (limit : ℕ) → 1 ≤ length w.ring.ids → Settles s w limit left → EndsAtAMultiple w.ring left.ring limit

-- where a fault broke a settle step off, all frames of its whole rounds were appended, and then the first frames of the
-- round that was broken off
abbrev pub BrokenStepsSend : {N : Type 0} → Station N → Type 0
BrokenStepsSend {N} s =
    (w : World N) (limit : ℕ) (g : Fibres) → (b : BreaksOff s w limit g)
    → Appends w.fibres (frames_in s b.rounds w ++ take b.off.out (frames_with s b.off.arrivals (run_with s b.rounds w))) g

-- where arrivals are known they determine a settle step
pub record KnownSteps {N : Type 0} (s : Station N) : Type 0 where
  pub settled : (w left : World N) (limit : ℕ) → Knows w.fibres → Settles s w limit left
      → (k : ℕ) × SettlesAt s (course s w) limit k × (left ≡ run s k w)
  pub unsettled : (w left : World N) (limit : ℕ) → Knows w.fibres → Unsettles s w limit left
      → NeverSettles s (course s w) limit × (left ≡ run s limit w)

-- whether a settle step ends with its k-th round, or no window ends within the limit, can be computed
pub record StepsAreComputed {N : Type 0} (s : Station N) : Type 0 where
  pub settled : (w : World N) (limit k : ℕ) → (settles_in s w limit ≡ Some k) ↔ SettlesAt s (course s w) limit k
  pub unsettled : (w : World N) (limit : ℕ) → (settles_in s w limit ≡ None) ↔ NeverSettles s (course s w) limit
