-- What comes of a plan.
use Rattle.std.proofs.Common.{◌≡◌, true, ℕ, List, [], map, refl, ap, sym, subst, inl, inr}
use Rattle.sdh_plant.specs.Fibres.{Fibres, HasNoFibres, IsHonest}
use Rattle.sdh_plan.specs.Planned.{Planned, IsPlanned, provisioning_of}
use Rattle.sdh_plan.specs.Steps.{new_past}
use Rattle.sdh_report.specs.Reports.{Report, listed}
use Rattle.sdh_report.specs.declared.listing.Listing.{Listing}
use Rattle.sdh_status.specs.declared.Status.{Status}
use Rattle.sdh_promise.specs.Scenes.{scenes}
use Rattle.sdh_owed.specs.Healthy.{AllSettle}
use Rattle.sdh_owed.specs.Laws.{ReportsAreOwed, ScriptsSettle, HealthyScripts}
use Rattle.sdh_owed.specs.Course.{CoursesAreTold}
use Rattle.sdh_owed.proofs.Course.{none_ran}
use Rattle.sdh_owed.proofs.History.{owed_none}
use Rattle.sdh_owed.proofs.Known.{keeps_rounds}
use Rattle.sdh_owed.specs.Scripts.{adm_walk}
use Rattle.sdh_scripts.specs.Outcomes.{Came}
use Rattle.sdh_scripts.specs.Plans.{Comes}
use Rattle.sdh_scripts.proofs.Plans.{tells_all}
use Rattle.sdh_owed.specs.Plans.{world_of}
use Rattle.sdh_owed.proofs.Plans.{adm_new, may_start, circuits_fit}
use Rattle.sdh_cli.specs.Plans.{ShowsHealth, RunsWell, AreAsPromised, adm_account, Tells}
use Rattle.sdh_promise.specs.Plans.{ring_of, OwesAll}
use Rattle.sdh_owed.specs.Reports.{ports_of}

-- ---- over honest fibres

module _ (plan : Planned) (f left : Fibres) (reports : List Report) (end : Status) (fits : IsPlanned plan) (honest : IsHonest f) where
  owed_comes : ReportsAreOwed → Comes adm_account plan f reports end left → OwesAll plan (map ports_of reports) end
  owed_comes law (inl x) =
      subst (λ rs. OwesAll plan (map ports_of rs) end) (sym x.1) (owed_none (ring_of plan) plan.limit [] 0 (scenes [] plan.steps) end x.0)
  owed_comes law (inr x) =
      law plan.settings plan.nodes (provisioning_of plan) f (may_start plan f fits honest)
      (circuits_fit plan fits) plan.limit new_past plan.steps fits.steps_fit reports end x.0 x.2

  healthy_comes : HealthyScripts → Comes adm_account plan f reports end left → AllSettle plan.steps → ShowsHealth plan reports end
  healthy_comes law (inl x) all =
      subst (λ rs. ShowsHealth plan rs end) (sym x.1) (record { show = tt; enough = λ high. inr x.0; short = λ low. (refl, inr x.0) })
  healthy_comes law (inr x) all =
      law plan.settings plan.nodes (provisioning_of plan) f (may_start plan f fits honest)
      (circuits_fit plan fits) plan.limit plan.steps all fits.steps_from_1 reports end x.0 x.2

  rounds_come : CoursesAreTold → HasNoFibres f → Comes adm_account plan f reports end left → RunsWell plan f reports end left
  rounds_come law fresh (inl x) =
      none_ran (world_of plan f) (ring_of plan) plan.limit plan.steps reports end left x.1 x.0 (subst HasNoFibres (sym x.2) fresh)
      (ap (λ (g : Fibres). g.sent) x.2)
  rounds_come law fresh (inr x) =
      subst (RunsWell plan f reports end) x.1 (law plan.settings plan.nodes (provisioning_of plan) f (may_start plan f fits honest)
      (circuits_fit plan fits) plan.limit new_past plan.steps fits.steps_fit reports end x.0 x.2)

-- ---- all that is so of one run

pub tells : ReportsAreOwed → ScriptsSettle → HealthyScripts → CoursesAreTold
    → (plan : Planned) (listing : Listing) (f left : Fibres) (text : List ℕ) (end : Status) → IsPlanned plan
    → (f.honest ≡ true → IsHonest f) → HasNoFibres f
    → Came adm_walk plan.limit (listed listing) plan.steps (world_of plan f) f text end left → Tells plan listing f text end left
tells owed settles healthy courses plan listing f left text end fits honest fresh x =
    tells_all adm_account plan f left end AreAsPromised (listed listing) text keeps_rounds adm_new fits
    (λ h reports came. record {
      owed = owed_comes plan f left reports end fits (honest h) owed came;
      healthy = λ all. healthy_comes plan f left reports end fits (honest h) healthy came all;
      rounds = rounds_come plan f left reports end fits (honest h) courses fresh came;
    })
    (λ h large reports last ran. settles plan.settings plan.nodes (provisioning_of plan) f (may_start plan f fits (honest h))
    (circuits_fit plan fits) plan.limit new_past plan.steps fits.steps_fit large reports end last ran)
    x
