-- The laws: the requests that decide what a script's reports show follow from its changes alone.
use Rattle.std.specs.Prelude.{ℕ, ◌≡◌, ◌≢◌, ◌≤◌, ◌+◌, ◌-◌, List, [], ◌∷◌, ◌++◌, map}
use Rattle.sdh_status.specs.declared.Status.{Status}
use Rattle.sdh_status.specs.declared.Status.TheVariants as status
use Rattle.sdh_restoration.specs.Changes.{Change, Stretch, rounds_in}
use Rattle.sdh_restoration.specs.Happened.{happened}
use Rattle.sdh_promise.specs.Owed.{Ring, PortReport, requests_by, IsOwed, AreOwed}
use Rattle.sdh_verdicts.specs.Resting.{requests_after}

-- each stretch has at least three rounds
abbrev pub AreLong : List Stretch → Type 0
AreLong [] = Unit {0}
AreLong (s ∷ ss) = (3 ≤ s.rounds) × AreLong ss

-- the changes of each stretch
abbrev pub changes_in : List Stretch → List (List Change)
changes_in ss = map (λ s. s.changes) ss

-- In the last round of stretches with at least three rounds each, the requests follow from the changes of the stretches
-- alone, however many rounds each has.
abbrev pub RequestsRest : Type 0
RequestsRest =
    (ring : Ring) (ss : List Stretch) (t : ℕ) → 1 ≤ ring.threshold → AreLong ss → rounds_in ss ≡ t + 1
    → requests_by ring ss t ≡ requests_after ring (changes_in ss)

-- The stretches `earlier`, and then one for each settle step of a script that has a report. Each has the changes before
-- its step, and the rounds from the end of the stretch before to the report's round.
abbrev pub stretches_by : List Stretch → List (List Change) → List PortReport → List Stretch
stretches_by earlier [] reports = earlier
stretches_by earlier (changes ∷ later) [] = earlier
stretches_by earlier (changes ∷ later) (r ∷ reports) =
    stretches_by (earlier ++ record { changes = changes; rounds = r.round + 1 - rounds_in earlier } ∷ []) later reports

-- After these stretches, each of at least three rounds, the report shows what is owed under the requests that follow
-- from their changes. The numbers of rounds decide how far the customers' streams have come, and nothing else.
pub record IsForetold (ring : Ring) (ss : List Stretch) (r : PortReport) : Type 0 where
  pub long : AreLong ss
  pub rounds : rounds_in ss ≡ r.round + 1
  pub requests : requests_by ring ss r.round ≡ requests_after ring (changes_in ss)
  pub shows : IsOwed ring.nodes (requests_after ring (changes_in ss)) (happened ss) ring.circuits r

-- Each of these reports is foretold by its own stretch and those before it. The list of lists has the changes before
-- each settle step to come.
abbrev pub AreForetold : Ring → List Stretch → List (List Change) → List PortReport → Type 0
AreForetold ring earlier [] reports = reports ≡ []
AreForetold ring earlier (changes ∷ later) [] = Unit {0}
AreForetold ring earlier (changes ∷ later) (r ∷ reports) =
    (let now = earlier ++ record { changes = changes; rounds = r.round + 1 - rounds_in earlier } ∷ [] in
    IsForetold ring now r × AreForetold ring now later reports)

-- each report of every script is foretold, where the reports show what they owe
abbrev pub ReportsAreForetold : Type 0
ReportsAreForetold = (ring : Ring) (limit : ℕ) (scenes : List (List Change)) (reports : List PortReport) (end : Status)
    → 1 ≤ ring.threshold → 1 ≤ ring.nodes → AreOwed ring limit [] 0 scenes reports end → AreForetold ring [] scenes reports

-- these reports have a last one, and it is foretold by the stretches of all of them, which have all changes of the
-- script
pub record IsLastForetold (ring : Ring) (scenes : List (List Change)) (reports : List PortReport) : Type 0 where
  pub before : List PortReport
  pub last : PortReport
  pub are : reports ≡ before ++ last ∷ []
  pub changes : changes_in (stretches_by [] scenes reports) ≡ scenes
  pub shows : IsForetold ring (stretches_by [] scenes reports) last

-- the last report of a script that was run to its end is foretold
abbrev pub LastReportsAreForetold : Type 0
LastReportsAreForetold = (ring : Ring) (limit : ℕ) (scenes : List (List Change)) (reports : List PortReport)
    → 1 ≤ ring.threshold → 1 ≤ ring.nodes → scenes ≢ [] → AreOwed ring limit [] 0 scenes reports status.Ok
    → IsLastForetold ring scenes reports
