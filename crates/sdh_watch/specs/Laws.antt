-- The laws of scripts with watches.
use Rattle.std.specs.Prelude.{ℕ, ◌≤◌, List, [], length}
use Rattle.sdh_circuits.specs.Provisioning.{Provisioning}
use Rattle.sdh_plant.specs.Fibres.{Fibres}
use Rattle.sdh_request.specs.declared.settings.Settings.{Settings}
use Rattle.sdh_node.specs.Rings.Held.{new_ring}
use Rattle.sdh_node.specs.Rings.Rounds.{World}
use Rattle.sdh_node.specs.Rings.Changes.{new_world}
use Rattle.sdh_laws.specs.Hearing.Laws.{MayStart}
use Rattle.sdh_laws.specs.Carrying.Windows.{layout_in, HasCircuits}
use Rattle.sdh_plan.specs.declared.step.Step.{Step}
use Rattle.sdh_plan.specs.Steps.{Past}
use Rattle.sdh_plan.specs.Scripts.{AreSteps}
use Rattle.sdh_status.specs.declared.Status.{Status}
use Rattle.sdh_promise.specs.Scenes.{scenes}
use Rattle.sdh_rounds.specs.Quiet.{enough_for}
use Rattle.sdh_scripts.specs.Outcomes.{AllSettled}
use Rattle.sdh_owed.specs.Laws.{ring_by}
use Rattle.sdh_watch.specs.Shows.{Watched}
use Rattle.sdh_watch.specs.Scripts.{Watches}
use Rattle.sdh_watch.specs.Owed.{AreClean}

-- from a new ring over new honest fibres, each watch shows what its port is owed, whatever the settings, the nodes, the
-- circuits and the script
abbrev pub WatchesAreClean : Type 0
WatchesAreClean = (s : Settings) (ids : List ℕ) (circuits : Provisioning) (f : Fibres) → (let l = layout_in (new_ring s ids circuits) in
    MayStart s ids f → HasCircuits l → (limit : ℕ) (past : Past) (steps : List Step)
    → AreSteps s.rate (length ids) (length circuits.circuits) past steps
    → (reports : List Watched) (end : Status) (left : World) → Watches limit 0 steps (new_world s ids circuits f) reports end left
    → AreClean (ring_by s (length ids) circuits.circuits) limit [] 0 (scenes [] steps) reports end)

-- from a new ring over new honest fibres no settle step with a limit that is always enough is unsettled
abbrev pub WatchedScriptsSettle : Type 0
WatchedScriptsSettle = (s : Settings) (ids : List ℕ) (circuits : Provisioning) (f : Fibres) → (let l = layout_in (new_ring s ids circuits) in
    MayStart s ids f → HasCircuits l → (limit : ℕ) (past : Past) (steps : List Step)
    → AreSteps s.rate (length ids) (length circuits.circuits) past steps → enough_for (length ids) ≤ limit
    → (reports : List Watched) (end : Status) (left : World) → Watches limit 0 steps (new_world s ids circuits f) reports end left
    → AllSettled end)
