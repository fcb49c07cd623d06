-- How a ring signals, by the script alone: what its nodes need in each round, which controllers are held, and the ring
-- of signals with these needs. No frame occurs in it.
use Rattle.std.specs.Prelude.{ℕ, zero, suc, ◌-◌, ◌==◌, nat_lt, nat_le, Bool, false, if◌then◌else◌, List, [], ◌∷◌}
use Rattle.sdh_basics.specs.Cells.{cells}
use Rattle.sdh_ringmap.specs.declared.Side.{Side}
use Rattle.sdh_ringmap.specs.declared.Side.TheVariants.{West, East}
use Rattle.sdh_nodestate.specs.declared.Needs.{Needs}
use Rattle.sdh_signal.specs.Signals.{Signals, round}
use Rattle.sdh_signal.specs.SignalRing.{new_ring}
use Rattle.sdh_restoration.specs.Changes.{Change, Hold, Stretch}
use Rattle.sdh_restoration.specs.Sides.{side_history}
use Rattle.sdh_promise.specs.Owed.{Ring}
use Rattle.sdh_restoration.specs.Sides.{asked_in}

-- Rounds are counted from 0. Stretches say before which rounds which changes come.

-- ---- what nodes need

-- Side d of position p fails in round t of the stretches, in a ring of n, where the fibre that comes in there is cut.
-- In round 0 nothing is on its way yet, and no side fails.
abbrev pub fails_in : ℕ → List Stretch → ℕ → ℕ → Side → Bool
fails_in n stretches zero p d = false
fails_in n stretches (suc t) p d = (side_history n p d stretches).is_cut (suc t)

-- what the node at position p needs in round t: what each side asks for, and whether it fails
abbrev pub needs_at : Ring → List Stretch → ℕ → ℕ → Needs
needs_at r stretches t p = record {
  west = asked_in r.threshold r.wait r.nodes stretches t p West;
  east = asked_in r.threshold r.wait r.nodes stretches t p East;
  west_fails = fails_in r.nodes stretches t p West;
  east_fails = fails_in r.nodes stretches t p East;
}

-- what each node needs in round t, by position
abbrev pub needs_by : Ring → List Stretch → ℕ → List Needs
needs_by r stretches t = cells (needs_at r stretches t) r.nodes

-- ---- which controllers are held

-- how many rounds the controller at position p is to miss after a change; a new hold replaces what is left of an
-- earlier one
abbrev pub turns_after : ℕ → Change → ℕ → ℕ
turns_after p (Hold q turns) left = if q == p then turns else left
turns_after p c left = left

abbrev pub turns_after_all : ℕ → List Change → ℕ → ℕ
turns_after_all p [] left = left
turns_after_all p (c ∷ cs) left = turns_after_all p cs (turns_after p c left)

-- how many rounds the controller at position p still has to miss when round t of the stretches begins, where it had
-- `left` to miss before them; each round takes one away
abbrev pub turns_in : ℕ → List Stretch → ℕ → ℕ → ℕ
turns_in p [] left t = left - t
turns_in p (s ∷ ss) left t =
    if nat_lt t s.rounds then turns_after_all p s.changes left - t
    else turns_in p ss (turns_after_all p s.changes left - s.rounds) (t - s.rounds)

-- whether the controller at each position misses round t; in a new ring none is held
abbrev pub held_by : ℕ → List Stretch → ℕ → List Bool
held_by n stretches t = cells (λ p. nat_le 1 (turns_in p stretches 0 t)) n

-- ---- the ring of signals

-- the ring of signals after t rounds of the stretches: a new ring, and then each round with its needs and its held
-- controllers
abbrev pub signals_by : Ring → List ℕ → List Stretch → ℕ → Signals
signals_by r ids stretches zero = (new_ring ids).ring
signals_by r ids stretches (suc t) =
    round (needs_by r stretches t) (held_by r.nodes stretches t) (signals_by r ids stretches t)
