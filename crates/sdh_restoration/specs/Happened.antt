-- What happened at a ring's ports, from the stretches of a run: the slips that were ordered there, and the rounds. No
-- frame occurs in it.
use Rattle.std.specs.Prelude.{ℕ, zero, suc, ◌-◌, nat_lt, if◌then◌else◌, List, [], ◌∷◌}
use Rattle.sdh_payload.specs.History.{Happening, told, went}
use Rattle.sdh_circuits.specs.declared.PortId.{PortId}
use Rattle.sdh_circuits.specs.Provisioned.{same_port}
use Rattle.sdh_restoration.specs.Changes.{Change, Slip, Stretch}

-- A history is the list of what happened at one port, the latest first.

-- the history of a port after one more change: slips that are ordered at the port are added, and other changes add
-- nothing
abbrev pub told_by : PortId → Change → List Happening → List Happening
told_by port (Slip other turn count) history = if same_port port other then told turn count ∷ history else history
told_by port change history = history

-- the history of a port after these changes, in their order
abbrev pub told_by_all : PortId → List Change → List Happening → List Happening
told_by_all port [] history = history
told_by_all port (x ∷ xs) history = told_by_all port xs (told_by port x history)

-- a history with k more rounds
abbrev pub went_by : ℕ → List Happening → List Happening
went_by zero history = history
went_by (suc k) history = went ∷ went_by k history

-- The history of a port before round t of these stretches, where `history` is what it was before the first of them.
-- Once the last stretch is over, rounds go on without changes.
abbrev pub happened_in : PortId → List Stretch → List Happening → ℕ → List Happening
happened_in port [] history t = went_by t history
happened_in port (s ∷ ss) history t =
    if nat_lt t s.rounds then went_by t (told_by_all port s.changes history)
    else happened_in port ss (went_by s.rounds (told_by_all port s.changes history)) (t - s.rounds)

-- what happened at a port of a new ring before round t of these stretches
abbrev pub happened : List Stretch → PortId → ℕ → List Happening
happened ss port t = happened_in port ss [] t
