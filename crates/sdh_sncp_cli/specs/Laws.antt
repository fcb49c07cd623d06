-- The laws of scripts over path rings.
use Rattle.std.specs.Prelude.{ℕ, ◌≤◌, List, [], length}
use Rattle.sdh_plant.specs.Fibres.{Fibres, IsHonest}
use Rattle.sdh_plant.specs.Calls.{prepared}
use Rattle.sdh_circuits.specs.Provisioning.{Provisioning}
use Rattle.sdh_request.specs.declared.settings.Settings.{Settings}
use Rattle.sdh_ringmap.specs.Ids.{AreIds}
use Rattle.sdh_rounds.specs.Quiet.{enough_for}
use Rattle.sdh_plan.specs.declared.step.Step.{Step}
use Rattle.sdh_report.specs.Reports.{Report}
use Rattle.sdh_status.specs.declared.Status.{Status}
use Rattle.sdh_promise.specs.Scenes.{scenes}
use Rattle.sdh_scripts.specs.Scripts.{Runs}
use Rattle.sdh_scripts.specs.Outcomes.{AllSettled}
use Rattle.sdh_sncp.specs.Ring.{World, world, new_ring}
use Rattle.sdh_sncp.specs.Laws.{HasPathCircuits}
use Rattle.sdh_sncp_cli.specs.Walking.{path_walk}
use Rattle.sdh_sncp_cli.specs.Steps.{MayDo}
use Rattle.sdh_sncp_cli.specs.Promise.{AreDue}

-- from a new ring over new honest fibres, each report shows what is owed
abbrev pub ReportsAreDue : Type 0
ReportsAreDue =
    (s : Settings) (ids : List ℕ) (circuits : Provisioning) (f : Fibres) (limit : ℕ) (steps : List Step) (reports : List Report)
    (end : Status) (left : World)
    → AreIds ids → IsHonest f → HasPathCircuits (new_ring s ids circuits) → MayDo s.rate (length ids) 0 steps
    → Runs path_walk limit 0 steps (world (new_ring s ids circuits) (prepared s.rate (length ids) f)) reports end left
    → AreDue (length ids) circuits.circuits limit [] 0 0 (scenes [] steps) reports end

-- from a new ring over new honest fibres no settle step with a limit that is always enough is unsettled
abbrev pub PathScriptsSettle : Type 0
PathScriptsSettle =
    (s : Settings) (ids : List ℕ) (circuits : Provisioning) (f : Fibres) (limit : ℕ) (steps : List Step) (reports : List Report)
    (end : Status) (left : World)
    → AreIds ids → IsHonest f → HasPathCircuits (new_ring s ids circuits) → MayDo s.rate (length ids) 0 steps → enough_for (length ids) ≤ limit
    → Runs path_walk limit 0 steps (world (new_ring s ids circuits) (prepared s.rate (length ids) f)) reports end left → AllSettled end
