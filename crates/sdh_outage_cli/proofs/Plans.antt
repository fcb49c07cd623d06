-- What comes of a plan whose outages are listed.
use Rattle.std.proofs.Common.{◌≡◌, true, ℕ, List, refl}
use Rattle.sdh_plant.specs.Fibres.{Fibres, IsHonest}
use Rattle.sdh_plan.specs.Planned.{Planned, IsPlanned, provisioning_of}
use Rattle.sdh_plan.specs.Steps.{new_past}
use Rattle.sdh_status.specs.declared.Status.{Status}
use Rattle.sdh_scripts.specs.Outcomes.{Came}
use Rattle.sdh_scripts.proofs.Plans.{tells_all}
use Rattle.sdh_scripts.proofs.Reporting.{reported}
use Rattle.sdh_owed.specs.Laws.{ScriptsSettle}
use Rattle.sdh_owed.specs.Reports.{report_of}
use Rattle.sdh_owed.proofs.Plans.{adm_new, may_start, circuits_fit}
use Rattle.sdh_owed.specs.Plans.{world_of}
use Rattle.sdh_outage_cli.specs.Scripts.{outage_walk}
use Rattle.sdh_outage_cli.specs.Lines.{outages_listed}
use Rattle.sdh_outage_cli.specs.Plans.{outage_account, Owes, Tells}
use Rattle.sdh_outage_cli.specs.declared.listing.OutageListing.{OutageListing}
use Rattle.sdh_outage_cli.proofs.Known.{keeps_rounds}

-- ---- all that is reported

-- all that is said of a run; it settles because the same script settles where the ring is reported
pub tells : ScriptsSettle → (plan : Planned) (listing : OutageListing) (f left : Fibres) (text : List ℕ) (end : Status) → IsPlanned plan
    → (f.honest ≡ true → IsHonest f)
    → Came outage_walk plan.limit (outages_listed listing) plan.steps (world_of plan f) f text end left → Tells plan listing f text end left
tells settles plan listing f left text end fits honest x =
    tells_all outage_account plan f left end Owes (outages_listed listing) text keeps_rounds adm_new fits (λ h reports came. tt)
    (λ h large told last ran. (
    let shown = reported outage_walk refl report_of plan.limit 0 plan.steps (world_of plan f) told end last ran in
    settles plan.settings plan.nodes (provisioning_of plan) f (may_start plan f fits (honest h))
    (circuits_fit plan fits) plan.limit new_past plan.steps fits.steps_fit large shown.0 end last shown.1))
    x
