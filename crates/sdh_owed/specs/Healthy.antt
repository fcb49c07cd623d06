-- What a script of settle steps alone comes to: a new ring over new honest fibres stays healthy.
use Rattle.std.specs.Prelude.{ℕ, ◌≡◌, ◌⊎◌, ◌+◌, ◌*◌, ◌≤◌, List, [], ◌∷◌, length}
use Rattle.sdh_circuits.specs.Provisioned.{Provisioned}
use Rattle.sdh_restoration.specs.Due.{nothing_applied}
use Rattle.sdh_plan.specs.declared.step.Step.{Step}
use Rattle.sdh_plan.specs.declared.step.Step.TheVariants as step
use Rattle.sdh_status.specs.declared.Status.{Status}
use Rattle.sdh_status.specs.declared.Status.TheVariants as status
use Rattle.sdh_report.specs.Reports.{Report}
use Rattle.sdh_restoration.specs.Happened.{happened}
use Rattle.sdh_promise.specs.Owed.{owed_ports}

-- all steps are settle steps
abbrev pub AllSettle : List Step → Type 0
AllSettle [] = Unit {0}
AllSettle (step.Settle ∷ later) = AllSettle later
AllSettle (s ∷ later) = ⊥

-- The reports that come after `before` earlier ones, in a ring of n. The K-th report of all has round 128 K, and shows
-- for every port what it is owed where no span is applied and no clock slipped.
abbrev pub AreHealthy : ℕ → List Provisioned → ℕ → List Report → Type 0
AreHealthy n circuits before [] = Unit {0}
AreHealthy n circuits before (r ∷ reports) =
    (r.number ≡ before + 1) × (r.round ≡ 128 * (before + 1))
    × (r.ports ≡ owed_ports n nothing_applied (happened []) (128 * (before + 1)) 0 circuits)
    × AreHealthy n circuits (before + 1) reports

-- A script of settle steps alone. With a limit of at least 129 each step has its report. With a smaller limit the first
-- step is unsettled. A fault may end the script earlier.
pub record IsHealthy (limit n : ℕ) (circuits : List Provisioned) (steps : List Step) (reports : List Report) (end : Status) : Type 0 where
  pub show : AreHealthy n circuits 0 reports
  pub enough : 129 ≤ limit → ((end ≡ status.Ok) × (length reports ≡ length steps)) ⊎ (end ≡ status.PlantFault)
  pub short : limit ≤ 128 → (reports ≡ []) × ((end ≡ status.Unsettled 1) ⊎ (end ≡ status.PlantFault))
