-- With a large limit no settle step of a script is unsettled.
use Rattle.std.proofs.Common.{◌≡◌, ℕ, ◌+◌, ◌≤◌, List, [], ◌∷◌, ◌++◌, length, ap, sym, ◌∙◌, refl, subst, arith, inl, inr}
use Rattle.sdh_circuits.specs.Provisioning.{Provisioning}
use Rattle.sdh_plant.specs.Fibres.{Fibres}
use Rattle.sdh_request.specs.declared.settings.Settings.{Settings}
use Rattle.sdh_node.specs.Rings.Held.{new_ring}
use Rattle.sdh_node.specs.Rings.Rounds.{World}
use Rattle.sdh_node.specs.Rings.Quiet.{Unsettles}
use Rattle.sdh_restoration.specs.Changes.{Change, Stretch}
use Rattle.sdh_promise.specs.Scenes.{changes_of}
use Rattle.sdh_node.specs.Rings.Changes.{after_stretches, new_world}
use Rattle.sdh_rounds.proofs.Runs.{known_unsettles}
use Rattle.sdh_laws.specs.Hearing.Laws.{MayStart}
use Rattle.sdh_laws.proofs.hearing.Requests.{after_last}
use Rattle.sdh_laws.specs.Carrying.Windows.{layout_in, positions_of, HasCircuits}
use Rattle.sdh_laws.specs.Converging.Laws.{Converges, StretchesConverge}
use Rattle.sdh_rounds.specs.Quiet.{enough_for}
use Rattle.sdh_plan.specs.declared.step.Step.{Step}
use Rattle.sdh_plan.specs.declared.step.Step.TheVariants as step
use Rattle.sdh_plan.specs.Steps.{Past, after}
use Rattle.sdh_plan.specs.Scripts.{AreSteps}
use Rattle.sdh_status.specs.declared.Status.{Status}
use Rattle.sdh_status.specs.declared.Status.TheVariants as status
use Rattle.sdh_report.specs.Reports.{Report}
use Rattle.sdh_owed.specs.Scripts.{Runs}
use Rattle.sdh_scripts.specs.Outcomes.{AllSettled}
use Rattle.sdh_owed.specs.Steps.{world_after_step}
use Rattle.sdh_owed.specs.Reports.{report_of}
use Rattle.sdh_owed.specs.Laws.{ScriptsSettle}
use Rattle.sdh_scripts.proofs.Outcomes.{refused_ends, settled_by, ok_settles, fault_settles}
use Rattle.sdh_scripts.proofs.Reporting.{settles_by}
use Rattle.sdh_owed.proofs.Standing.{Stands, whole, layout_is, changed_then, settled_then, may_go, stands_new}
use Rattle.sdh_node.specs.Stations.{adm}
use Rattle.sdh_rounds.specs.Runs as any_run

module _ (converge : StretchesConverge) (s : Settings) (ids : List ℕ) (circuits : Provisioning) (f : Fibres) (may : MayStart s ids f)
    (form : HasCircuits (layout_in (new_ring s ids circuits))) where
  abbrev Now : Past → List Stretch → List Change → World → Type 0
  Now past earlier changes w = Stands s ids circuits f may past earlier changes w

  -- a step with a large limit is never unsettled
  pub never : (past : Past) (earlier : List Stretch) (changes : List Change) (w left : World) (limit : ℕ) → Now past earlier changes w
      → enough_for (length ids) ≤ limit → Unsettles w limit left → ⊥
  unfolding any_run.run
  never past earlier changes w left limit h large x =
      let from = new_world s ids circuits f in
      let last : Stretch = record { changes = changes; rounds = 0 } in
      let there : w ≡ after_stretches (earlier ++ last ∷ []) from = h.is ∙ sym (after_last earlier last from) in
      let size : length w.ring.ids ≡ length ids = ap positions_of (layout_is s ids circuits f may past earlier changes w h) in
      let meets : Converges w =
      subst Converges (sym there) (converge s ids circuits f (earlier ++ last ∷ []) may
      (may_go s ids circuits f may past earlier changes w h) form) in
      meets.never limit (omega (arith, size, large)) (known_unsettles adm w limit left
      (inl (whole s ids circuits f may past earlier changes w h).paired.honest.honest) x).0

  walk : (limit before : ℕ) (past : Past) (earlier : List Stretch) (changes : List Change) (steps : List Step) (w : World)
      (reports : List Report) (end : Status) (left : World)
      → Now past earlier changes w → AreSteps s.rate (length ids) (length circuits.circuits) past steps → enough_for (length ids) ≤ limit
      → Runs limit before steps w reports end left → AllSettled end
  walk limit before past earlier changes [] w reports end left h each large x = settled_by end status.Ok x.1.1 ok_settles
  walk limit before past earlier changes (step.Settle ∷ later) w reports end left h each large (inl (told, mid, rest, ended, is, x)) =
      let settles = settles_by adm world_after_step report_of w limit (before + 1) told mid ended in
      walk limit (before + 1) (after past step.Settle) _ [] later mid rest end left
      (settled_then s ids circuits f may past earlier changes w h mid limit settles).stands each.1 large x
  walk limit before past earlier changes (step.Settle ∷ later) w reports end left h each large (inr (inl x)) =
      absurd (never past earlier changes w left limit h large x.0)
  walk limit before past earlier changes (step.Settle ∷ later) w reports end left h each large (inr (inr x)) =
      settled_by end status.PlantFault x.1.1 fault_settles
  walk limit before past earlier changes (this ∷ later) w reports end left h each large x =
      elim x [
        | inl goes ↦ walk limit before (after past this) earlier (changes ++ changes_of this) later _ reports end left
            (changed_then s ids circuits f may past earlier changes w h this refl each.0) each.1 large goes
        | inr refused ↦ settled_by end status.PlantFault (refused_ends this w reports end left refused).1 fault_settles
      ]

pub scripts_settle : StretchesConverge → ScriptsSettle
scripts_settle converge s ids circuits f may form limit past steps each large reports end left x =
    walk converge s ids circuits f may form limit 0 past [] [] steps (new_world s ids circuits f) reports end left
    (stands_new s ids circuits f may past) each large x
