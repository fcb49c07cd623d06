-- The laws of scripts over honest fibres: what their reports show, and when they settle.
use Rattle.std.specs.Prelude.{ℕ, ◌≤◌, List, [], length, map}
use Rattle.sdh_circuits.specs.Provisioned.{Provisioned}
use Rattle.sdh_circuits.specs.Provisioning.{Provisioning}
use Rattle.sdh_plant.specs.Fibres.{Fibres}
use Rattle.sdh_request.specs.declared.settings.Settings.{Settings}
use Rattle.sdh_node.specs.Rings.Held.{new_ring}
use Rattle.sdh_node.specs.Rings.Rounds.{World}
use Rattle.sdh_node.specs.Rings.Changes.{new_world}
use Rattle.sdh_laws.specs.Hearing.Laws.{MayStart}
use Rattle.sdh_laws.specs.Carrying.Windows.{layout_in, HasCircuits}
use Rattle.sdh_rounds.specs.Quiet.{enough_for}
use Rattle.sdh_plan.specs.declared.step.Step.{Step}
use Rattle.sdh_plan.specs.Steps.{Past}
use Rattle.sdh_plan.specs.Scripts.{AreSteps}
use Rattle.sdh_status.specs.declared.Status.{Status}
use Rattle.sdh_report.specs.Reports.{Report}
use Rattle.sdh_promise.specs.Scenes.{scenes}
use Rattle.sdh_scripts.specs.Outcomes.{AllSettled}
use Rattle.sdh_owed.specs.Scripts.{Runs}
use Rattle.sdh_promise.specs.Owed.{Ring, AreOwed}
use Rattle.sdh_owed.specs.Reports.{ports_of}
use Rattle.sdh_owed.specs.Healthy.{AllSettle, IsHealthy}

-- the part of a ring of n, with these settings and circuits, that decides what its reports owe
abbrev pub ring_by : Settings → ℕ → List Provisioned → Ring
ring_by s n circuits = record { nodes = n; threshold = s.threshold; wait = s.wait; circuits = circuits }

-- from a new ring over new honest fibres, each report shows what is owed under the requests of the script's history
abbrev pub ReportsAreOwed : Type 0
ReportsAreOwed = (s : Settings) (ids : List ℕ) (circuits : Provisioning) (f : Fibres) → (let l = layout_in (new_ring s ids circuits) in
    MayStart s ids f → HasCircuits l → (limit : ℕ) (past : Past) (steps : List Step)
    → AreSteps s.rate (length ids) (length circuits.circuits) past steps
    → (reports : List Report) (end : Status) (left : World) → Runs limit 0 steps (new_world s ids circuits f) reports end left
    → AreOwed (ring_by s (length ids) circuits.circuits) limit [] 0 (scenes [] steps) (map ports_of reports) end)

-- from a new ring over new honest fibres no settle step with a limit that is always enough is unsettled
abbrev pub ScriptsSettle : Type 0
ScriptsSettle = (s : Settings) (ids : List ℕ) (circuits : Provisioning) (f : Fibres) → (let l = layout_in (new_ring s ids circuits) in
    MayStart s ids f → HasCircuits l → (limit : ℕ) (past : Past) (steps : List Step)
    → AreSteps s.rate (length ids) (length circuits.circuits) past steps → enough_for (length ids) ≤ limit
    → (reports : List Report) (end : Status) (left : World) → Runs limit 0 steps (new_world s ids circuits f) reports end left
    → AllSettled end)

-- a script of settle steps alone, from a new ring over new honest fibres, shows a healthy ring
abbrev pub HealthyScripts : Type 0
HealthyScripts = (s : Settings) (ids : List ℕ) (circuits : Provisioning) (f : Fibres) → (let l = layout_in (new_ring s ids circuits) in
    MayStart s ids f → HasCircuits l → (limit : ℕ) (steps : List Step) → AllSettle steps → 1 ≤ length steps
    → (reports : List Report) (end : Status) (left : World) → Runs limit 0 steps (new_world s ids circuits f) reports end left
    → IsHealthy limit (length ids) circuits.circuits steps reports end)
