-- A script's history: after each settle step that ended the report shows what is owed under it.
use Rattle.std.proofs.Common.{◌≡◌, ℕ, ◌+◌, ◌-◌, List, [], ◌∷◌, ◌++◌, length, map, refl, ap, sym, subst, inl, inr}
use Rattle.sdh_circuits.specs.Provisioning.{Provisioning}
use Rattle.sdh_plant.specs.Fibres.{Fibres}
use Rattle.sdh_request.specs.declared.settings.Settings.{Settings}
use Rattle.sdh_node.specs.Rings.Held.{new_ring}
use Rattle.sdh_node.specs.Rings.Rounds.{World}
use Rattle.sdh_restoration.specs.Changes.{Change, Stretch, rounds_in}
use Rattle.sdh_promise.specs.Scenes.{changes_of, scenes}
use Rattle.sdh_node.specs.Rings.Changes.{new_world}
use Rattle.sdh_node.specs.Rings.Clocks.{clocks_by}
use Rattle.sdh_restoration.specs.Happened.{happened}
use Rattle.sdh_laws.specs.Hearing.Laws.{MayStart}
use Rattle.sdh_laws.specs.Carrying.Windows.{Layout, layout_in, layout_of, positions_of, HasCircuits}
use Rattle.sdh_laws.specs.Carrying.Laws.{IsRestored, SettledRingsRestore}
use Rattle.sdh_plan.specs.declared.step.Step.{Step}
use Rattle.sdh_plan.specs.declared.step.Step.TheVariants as step
use Rattle.sdh_plan.specs.Steps.{Past, after}
use Rattle.sdh_plan.specs.Scripts.{AreSteps}
use Rattle.sdh_status.specs.declared.Status.{Status}
use Rattle.sdh_status.specs.declared.Status.TheVariants as status
use Rattle.sdh_report.specs.Reports.{Report}
use Rattle.sdh_owed.specs.Reports.{ports_of, report_of}
use Rattle.sdh_scripts.proofs.Outcomes.{refused_ends}
use Rattle.sdh_scripts.proofs.Reporting.{settles_by, reports_by}
use Rattle.sdh_node.specs.Stations.{adm}
use Rattle.sdh_owed.specs.Steps.{world_after_step}
use Rattle.sdh_owed.specs.Scripts.{Runs}
use Rattle.sdh_promise.specs.Owed.{Ring, requests_by, IsOwed, AreOwed}
use Rattle.sdh_owed.specs.Laws.{ring_by, ReportsAreOwed}
use Rattle.sdh_owed.proofs.Standing.{Stands, layout_is, changed_then, stretch_to, Ended, settled_then, stands_new}
use Rattle.sdh_owed.proofs.Ports.{owed_now}

-- after a fault no more reports are owed
pub owed_none : (l : Ring) (limit : ℕ) (earlier : List Stretch) (before : ℕ) (later : List (List Change)) (end : Status)
    → end ≡ status.PlantFault → AreOwed l limit earlier before later [] end
owed_none l limit earlier before [] end h = (refl, inr h)
owed_none l limit earlier before (changes ∷ later) end h = inr h

-- ---- a script, step by step

module _ (law : SettledRingsRestore) (s : Settings) (ids : List ℕ) (circuits : Provisioning) (f : Fibres) (may : MayStart s ids f)
    (form : HasCircuits (layout_in (new_ring s ids circuits))) where
  abbrev ring : Ring
  ring = ring_by s (length ids) circuits.circuits

  abbrev Now : Past → List Stretch → List Change → World → Type 0
  Now past earlier changes w = Stands s ids circuits f may past earlier changes w

  -- the report of a settle step that ended shows what is owed
  owed_then : (past : Past) (earlier : List Stretch) (changes : List Change) (w mid : World) (number limit : ℕ)
      (h : Now past earlier changes w) → Ended s ids circuits f may past earlier changes w h limit mid
      → (let r = report_of number mid.ring in let now = earlier ++ record { changes = changes; rounds = r.round + 1 - rounds_in earlier }
      ∷ [] in IsOwed (length ids) (requests_by ring now r.round) (happened now) circuits.circuits (ports_of r))
  unfolding report_of
  owed_then past earlier changes w mid number limit h x =
      let t = mid.ring.rounds - 1 in
      let last = stretch_to s ids circuits f may past earlier changes w h mid in
      let now = earlier ++ last ∷ [] in
      let requests = requests_by ring now t in
      let clocks = clocks_by circuits.circuits now in
      let restored : IsRestored clocks mid requests =
      subst (λ v. IsRestored clocks v requests) (sym x.stands.is)
      (law s ids circuits f earlier last t may x.happens form x.window x.many) in
      let same : layout_of mid ≡ layout_in (new_ring s ids circuits) =
      layout_is s ids circuits f may (after past step.Settle) now [] mid x.stands in
      let by = subst (λ (y : Layout). IsRestored (clocks_by y.circuits now) mid requests) (sym same) restored in
      subst (λ (y : Layout). IsOwed (positions_of y) requests (happened now) y.circuits (ports_of (report_of number mid.ring))) same
      (owed_now now mid number requests (subst HasCircuits (sym same) form) by)

  walk : (limit before : ℕ) (past : Past) (earlier : List Stretch) (changes : List Change) (steps : List Step) (w : World)
      (reports : List Report) (end : Status) (left : World)
      → Now past earlier changes w → AreSteps s.rate (length ids) (length circuits.circuits) past steps
      → Runs limit before steps w reports end left → AreOwed ring limit earlier before (scenes changes steps) (map ports_of reports) end
  unfolding report_of
  walk limit before past earlier changes [] w reports end left h each x = (ap (map ports_of) x.1.0, inl x.1.1)
  walk limit before past earlier changes (step.Settle ∷ later) w reports end left h each (inl (told, mid, rest, ended, is, x)) =
      let there =
      settled_then s ids circuits f may past earlier changes w h mid limit
      (settles_by adm world_after_step report_of w limit (before + 1) told mid ended) in
      let all : reports ≡ report_of (before + 1) mid.ring ∷ rest =
      reports_by adm world_after_step report_of w limit (before + 1) told mid reports rest ended is in
      subst (λ rs. AreOwed ring limit earlier before (scenes changes (step.Settle ∷ later)) (map ports_of rs) end) (sym all) (
        refl,
        there.last,
        owed_then past earlier changes w mid (before + 1) limit h there,
        walk limit (before + 1) (after past step.Settle) _ [] later mid rest end left there.stands each.1 x,
      )
  walk limit before past earlier changes (step.Settle ∷ later) w reports end left h each (inr (inl x)) =
      subst (λ rs. AreOwed ring limit earlier before (scenes changes (step.Settle ∷ later)) (map ports_of rs) end) (sym x.1.0) (inl x.1.1)
  walk limit before past earlier changes (step.Settle ∷ later) w reports end left h each (inr (inr x)) =
      subst (λ rs. AreOwed ring limit earlier before (scenes changes (step.Settle ∷ later)) (map ports_of rs) end) (sym x.1.0) (inr x.1.1)
  walk limit before past earlier changes (this ∷ later) w reports end left h each x =
      elim x [
        | inl goes ↦ walk limit before (after past this) earlier (changes ++ changes_of this) later _ reports end left
            (changed_then s ids circuits f may past earlier changes w h this refl each.0) each.1 goes
        | inr refused ↦
            let stops = refused_ends this w reports end left refused in
            subst (λ rs. AreOwed ring limit earlier before (scenes changes (this ∷ later)) (map ports_of rs) end) (sym stops.0)
            (owed_none ring limit earlier before (scenes changes (this ∷ later)) end stops.1)
      ]

pub reports_owed : SettledRingsRestore → ReportsAreOwed
reports_owed law s ids circuits f may form limit past steps each reports end left x =
    walk law s ids circuits f may form limit 0 past [] [] steps (new_world s ids circuits f) reports end left
    (stands_new s ids circuits f may past) each x
