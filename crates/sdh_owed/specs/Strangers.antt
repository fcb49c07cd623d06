-- How old the bytes are that a port delivers: exactly, and at most.
use Rattle.std.specs.Prelude.{ℕ, ◌≡◌, ◌⊎◌, ◌+◌, ◌-◌, ◌*◌, ◌<◌, ◌≤◌, max, List, [], ◌∷◌, ◌++◌}
use Rattle.sdh_node.specs.Rings.Rounds.{World, round}
use Rattle.sdh_node.specs.Rings.Sides.{world_in}
use Rattle.sdh_node.specs.Rings.Clocks.{clocks_by}
use Rattle.sdh_laws.specs.Strangers.Ages.{NoneMeetsAStrangerSince}
use Rattle.sdh_laws.specs.Strangers.Transit.{AllComeAfterTransit}
use Rattle.sdh_laws.specs.Strangers.Laws.{HoldNone, HoldNonePassing}
use Rattle.sdh_restoration.specs.Changes.{Change, Hold, Stretch, rounds_in}
use Rattle.sdh_promise.specs.Owed.{Ring}

-- the number of rounds of the longest hold among these changes, 0 where they hold no controller
abbrev pub longest_hold : List Change → ℕ
longest_hold [] = 0
longest_hold (Hold p turns ∷ later) = max turns (longest_hold later)
longest_hold (c ∷ later) = longest_hold later

-- In round t of a settle step with these changes of a ring no held controller counts any more: the changes hold none,
-- or the longest hold and 2n - 3 rounds more have run.
abbrev pub IsUnheld : Ring → List Change → ℕ → Type 0
IsUnheld ring changes t = HoldNone changes ⊎ (longest_hold changes + 2 * ring.nodes ≤ t + 3)

-- In each such round of a settle step each port delivers AIS, ones, or what its circuit's other port sent exactly one
-- transit before: as many rounds as the bytes came over spans, straight over the arc or once round the ring.
abbrev pub AllEverComeAfterTransit : World → Ring → List Stretch → Type 0
AllEverComeAfterTransit w ring ss =
    (earlier later : List Stretch) (last : Stretch) → ss ≡ earlier ++ last ∷ later → (t : ℕ) → t < last.rounds
    → IsUnheld ring last.changes t
    → (let now = earlier ++ last ∷ [] in
    AllComeAfterTransit (clocks_by ring.circuits now) (round (world_in now w (rounds_in earlier + t))).ring)

-- The most rounds that bytes can be old in round t of a settle step with these changes, where `earlier` had happened
-- before them. It is 2n - 3 in every round in which no held controller counts any more. In every round it is 5n - 3 and
-- the longest hold together, where the changes hold no controller of a node that passes traffic through.
abbrev pub IsOldest : Ring → List Stretch → List Change → ℕ → ℕ → Type 0
IsOldest ring earlier changes t age =
    ((age ≡ 2 * ring.nodes - 3) × IsUnheld ring changes t)
    ⊎ ((age ≡ 5 * ring.nodes - 3 + longest_hold changes) × HoldNonePassing ring.threshold ring.wait ring.nodes earlier changes)

-- In no round of a settle step does a port deliver bytes that are older than `IsOldest` allows. Where `IsOldest` gives
-- a bound, no port delivers another customer's bytes either.
abbrev pub NoneEverMeetsOldBytes : World → Ring → List Stretch → Type 0
NoneEverMeetsOldBytes w ring ss =
    (earlier later : List Stretch) (last : Stretch) → ss ≡ earlier ++ last ∷ later → (t age : ℕ) → t < last.rounds
    → IsOldest ring earlier last.changes t age
    → (let now = earlier ++ last ∷ [] in
    NoneMeetsAStrangerSince (rounds_in earlier + t - age) (clocks_by ring.circuits now) (round (world_in now w (rounds_in earlier + t))).ring)
