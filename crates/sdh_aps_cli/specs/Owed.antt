-- What reports owe where the signalling of a script is shown: all that the ring of signals does. It follows from the
-- script alone, and no frame occurs in it.
use Rattle.std.specs.Prelude.{ℕ, suc, ◌≡◌, ◌⊎◌, ◌+◌, ◌-◌, ◌==◌, ◌||◌, Bool, not, if◌then◌else◌, List, [], ◌∷◌, ◌++◌, length, get_or}
use Rattle.std.specs.List.{flat_map}
use Rattle.sdh_basics.specs.Cells.{cells}
use Rattle.sdh_signal.specs.Signals.{no_filters, heard_through, state_in, words_in}
use Rattle.sdh_signal.specs.Settled.{settled_states}
use Rattle.sdh_status.specs.declared.Status.{Status}
use Rattle.sdh_status.specs.declared.Status.TheVariants as status
use Rattle.sdh_restoration.specs.Changes as script
use Rattle.sdh_restoration.specs.Changes.{Stretch, rounds_in}
use Rattle.sdh_promise.specs.Owed.{Ring, requests_by, IsLast}
use Rattle.sdh_aps.specs.declared.shown.Shown.{Shown}
use Rattle.sdh_aps.specs.Shown.{same_shown}
use Rattle.sdh_aps.specs.Showing.{shown_by}
use Rattle.sdh_aps_cli.specs.Signalled.{ShownChange, Signalled}
use Rattle.sdh_aps_cli.specs.ByScript.{needs_at, signals_by}

-- ---- a round

-- what the node at position p shows in round t of the stretches, in a ring of these identifiers
unfoldable pub shown_in : Ring → List ℕ → List Stretch → ℕ → ℕ → Shown
shown_in r ids stretches t p =
    (let s = signals_by r ids stretches (suc t) in
    shown_by ids (state_in s p) (words_in s p) (heard_through (get_or s.filters p no_filters)) (needs_at r stretches t p))

-- it shows something else than in the round before, or this is round 0
abbrev pub is_news : Ring → List ℕ → List Stretch → ℕ → ℕ → Bool
is_news r ids stretches t p = (t == 0) || not (same_shown (shown_in r ids stretches (t - 1) p) (shown_in r ids stretches t p))

-- the change of the node at position p in round t
abbrev pub change_by : Ring → List ℕ → List Stretch → ℕ → ℕ → ShownChange
change_by r ids stretches t p = record { round = t; id = get_or ids p 0; shown = shown_in r ids stretches t p }

-- the changes in round t, in ring order: in round 0 those of all nodes, and later those of each node that shows
-- something else than in the round before
abbrev pub changes_by : Ring → List ℕ → List Stretch → ℕ → List ShownChange
changes_by r ids stretches t =
    flat_map (λ p. if is_news r ids stretches t p then change_by r ids stretches t p ∷ [] else []) (cells (λ p. p) (length ids))

-- all changes in `count` rounds from round `first` on
abbrev pub all_changes_by : Ring → List ℕ → List Stretch → ℕ → ℕ → List ShownChange
all_changes_by r ids stretches first count = flat_map (changes_by r ids stretches) (cells (λ j. first + j) count)

-- ---- settle steps

-- A settle step, before which `ran` rounds had run, has this last round, and shows these changes: all that the ring of
-- signals has in the rounds of the step. In its last round all states are settled, under the requests of the history.
pub record ShowsSignals (r : Ring) (ids : List ℕ) (stretches : List Stretch) (ran round : ℕ) (shown : List ShownChange) : Type 0 where
  pub changes : shown ≡ all_changes_by r ids stretches ran (round + 1 - ran)
  pub settled : (signals_by r ids stretches (round + 1)).states ≡ settled_states (requests_by r stretches round)

-- Each settle step shows what the ring of signals does in its rounds. `earlier` had happened before, `before` settle
-- steps had ended, and the list of lists has the changes before each settle step to come. Settle steps are numbered one
-- after the other. A settle step of which nothing is shown is where the script ended, unsettled or by a fault.
abbrev pub AreSignalled : Ring → List ℕ → ℕ → List Stretch → ℕ → List (List script.Change) → List Signalled → Status → Type 0
AreSignalled ring ids limit earlier before [] told end = (told ≡ []) × ((end ≡ status.Ok) ⊎ (end ≡ status.PlantFault))
AreSignalled ring ids limit earlier before (changes ∷ later) [] end = (end ≡ status.Unsettled (before + 1)) ⊎ (end ≡ status.PlantFault)
AreSignalled ring ids limit earlier before (changes ∷ later) (s ∷ told) end =
    (let ran = rounds_in earlier in let now = earlier ++ record { changes = changes; rounds = s.rounds - ran } ∷ [] in
    (s.number ≡ before + 1) × IsLast ring.nodes limit ran (s.rounds - 1) × ShowsSignals ring ids now ran (s.rounds - 1) s.changes
    × AreSignalled ring ids limit now (before + 1) later told end)

-- these are all changes of the ring of signals in the first `count` rounds of the settle step that comes after those in
-- `told`
abbrev pub AreOfTheNext : Ring → List ℕ → List Stretch → List (List script.Change) → List Signalled → ℕ → List ShownChange → Type 0
AreOfTheNext ring ids earlier [] told count shown = shown ≡ []
AreOfTheNext ring ids earlier (changes ∷ later) [] count shown =
    shown ≡ all_changes_by ring ids (earlier ++ record { changes = changes; rounds = count } ∷ []) (rounds_in earlier) count
AreOfTheNext ring ids earlier (changes ∷ later) (s ∷ told) count shown =
    AreOfTheNext ring ids (earlier ++ record { changes = changes; rounds = s.rounds - rounds_in earlier } ∷ []) later told count shown
