-- With a large limit no settle step of a script with watches is unsettled.
use Rattle.std.proofs.Common.{ℕ, ◌+◌, ◌≤◌, List, [], ◌∷◌, ◌++◌, length, refl, inl, inr}
use Rattle.sdh_circuits.specs.Provisioning.{Provisioning}
use Rattle.sdh_plant.specs.Fibres.{Fibres}
use Rattle.sdh_request.specs.declared.settings.Settings.{Settings}
use Rattle.sdh_rounds.specs.Quiet.{enough_for}
use Rattle.sdh_node.specs.Rings.Held.{new_ring}
use Rattle.sdh_node.specs.Rings.Rounds.{World}
use Rattle.sdh_restoration.specs.Changes.{Change, Stretch}
use Rattle.sdh_promise.specs.Scenes.{changes_of}
use Rattle.sdh_node.specs.Rings.Changes.{new_world}
use Rattle.sdh_laws.specs.Hearing.Laws.{MayStart}
use Rattle.sdh_laws.specs.Carrying.Windows.{layout_in, HasCircuits}
use Rattle.sdh_laws.specs.Carrying.Laws.{SettledRingsRestore}
use Rattle.sdh_laws.specs.Converging.Laws.{StretchesConverge}
use Rattle.sdh_laws.specs.Resting.Laws.{StepsLeaveAtRest}
use Rattle.sdh_plan.specs.declared.step.Step.{Step}
use Rattle.sdh_plan.specs.declared.step.Step.TheVariants as step
use Rattle.sdh_plan.specs.Steps.{Past, after}
use Rattle.sdh_plan.specs.Scripts.{AreSteps}
use Rattle.sdh_status.specs.declared.Status.{Status}
use Rattle.sdh_status.specs.declared.Status.TheVariants as status
use Rattle.sdh_scripts.specs.Outcomes.{AllSettled}
use Rattle.sdh_scripts.proofs.Outcomes.{refused_ends, settled_by, ok_settles, fault_settles}
use Rattle.sdh_owed.proofs.Standing.{Stands, changed_then, stands_new}
use Rattle.sdh_owed.proofs.Settling.{never}
use Rattle.sdh_watch.specs.Shows.{Watched}
use Rattle.sdh_watch.specs.Scripts.{Watches}
use Rattle.sdh_watch.specs.Laws.{WatchedScriptsSettle}
use Rattle.sdh_watch.proofs.Rounds.{watched_by}
use Rattle.sdh_watch.proofs.Owing.{stands}

module _ (converge : StretchesConverge) (law : SettledRingsRestore) (rest : StepsLeaveAtRest) (s : Settings) (ids : List ℕ)
    (circuits : Provisioning) (f : Fibres) (may : MayStart s ids f) (form : HasCircuits (layout_in (new_ring s ids circuits))) where
  abbrev Now : Past → List Stretch → List Change → World → Type 0
  Now past earlier changes w = Stands s ids circuits f may past earlier changes w

  walk : (limit before : ℕ) (past : Past) (earlier : List Stretch) (changes : List Change) (steps : List Step) (w : World)
      (reports : List Watched) (end : Status) (left : World)
      → Now past earlier changes w → AreSteps s.rate (length ids) (length circuits.circuits) past steps → enough_for (length ids) ≤ limit
      → Watches limit before steps w reports end left → AllSettled end
  walk limit before past earlier changes [] w reports end left h each large x = settled_by end status.Ok x.1.1 ok_settles
  walk limit before past earlier changes (step.Settle ∷ later) w reports end left h each large
      (inl (told, next, others, ended, told_is, x)) =
      let is = watched_by limit (before + 1) w told next ended in
      walk limit (before + 1) (after past step.Settle) _ [] later next others end left
      (stands law rest s ids circuits f may form past earlier changes w h limit is.mid next is.heard is.settles is.rounds) each.1 large x
  walk limit before past earlier changes (step.Settle ∷ later) w reports end left h each large (inr (inl x)) =
      absurd (never converge s ids circuits f may form past earlier changes w left limit h large x.0)
  walk limit before past earlier changes (step.Settle ∷ later) w reports end left h each large (inr (inr x)) =
      settled_by end status.PlantFault x.1.1 fault_settles
  walk limit before past earlier changes (this ∷ later) w reports end left h each large x =
      elim x [
        | inl goes ↦ walk limit before (after past this) earlier (changes ++ changes_of this) later _ reports end left
            (changed_then s ids circuits f may past earlier changes w h this refl each.0) each.1 large goes
        | inr refused ↦ settled_by end status.PlantFault (refused_ends this w reports end left refused).1 fault_settles
      ]

pub scripts_settle : StretchesConverge → SettledRingsRestore → StepsLeaveAtRest → WatchedScriptsSettle
scripts_settle converge law rest s ids circuits f may form limit past steps each large reports end left x =
    walk converge law rest s ids circuits f may form limit 0 past [] [] steps (new_world s ids circuits f) reports end left
    (stands_new s ids circuits f may past) each large x
