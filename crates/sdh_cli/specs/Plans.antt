-- What comes of a plan, over every plant, where arrivals are known, and over honest fibres.
use Rattle.std.specs.Prelude.{ℕ, List, length, map}
use Rattle.sdh_plant.specs.Fibres.{Fibres}
use Rattle.sdh_node.specs.Node.{Node}
use Rattle.sdh_plan.specs.Planned.{Planned}
use Rattle.sdh_report.specs.Reports.{Report, listed}
use Rattle.sdh_report.specs.declared.listing.Listing.{Listing}
use Rattle.sdh_status.specs.declared.Status.{Status}
use Rattle.sdh_scripts.specs.Plans.{Account}
use Rattle.sdh_scripts.specs.Plans as plans
use Rattle.sdh_owed.specs.Scripts.{adm_walk, Ran}
use Rattle.sdh_owed.specs.Plans.{new_ring_of, world_of}
use Rattle.sdh_promise.specs.Plans.{ring_of, OwesAll}
use Rattle.sdh_owed.specs.Reports.{ports_of}
use Rattle.sdh_owed.specs.Healthy.{AllSettle, IsHealthy}
use Rattle.sdh_owed.specs.Course.{HasCourse}

-- ---- over honest fibres

-- the reports show a healthy ring
abbrev pub ShowsHealth : Planned → List Report → Status → Type 0
ShowsHealth plan reports end = IsHealthy plan.limit (length plan.nodes) plan.circuits plan.steps reports end

-- what holds in the rounds that gave the reports: whose bytes come, and how soon each port has what it is owed
abbrev pub RunsWell : Planned → Fibres → List Report → Status → Fibres → Type 0
RunsWell plan f reports end left = HasCourse (world_of plan f) (ring_of plan) plan.limit plan.steps reports end left

-- What is promised of one list of reports. They show what is owed, and, where all steps are settle steps, a healthy
-- ring. It is also promised what holds in every round that gave them.
pub record AreAsPromised (plan : Planned) (f : Fibres) (reports : List Report) (end : Status) (left : Fibres) : Type 0 where
  pub owed : OwesAll plan (map ports_of reports) end
  pub healthy : AllSettle plan.steps → ShowsHealth plan reports end
  pub rounds : RunsWell plan f reports end left

-- ---- all that is so of one run

abbrev pub adm_account : Account Node Report
adm_account = record { walk = adm_walk; new_ring = new_ring_of }

-- what the script comes to, where the arrivals are known
abbrev pub ran_of : Planned → Fibres → Ran
ran_of = plans.ran_of adm_account

-- A script that settles: either the arrivals are known, and with them each settle step has a quiet window within the
-- limit; or the fibres are honest and the limit is large.
abbrev pub MaySettle : Planned → Fibres → Type 0
MaySettle = plans.MaySettle adm_account

-- what is so of one list of reports: over every plant, where the arrivals are known, and over honest fibres
abbrev pub IsRunOf : Planned → Fibres → List Report → Status → Fibres → Type 0
IsRunOf = plans.IsRunOf adm_account AreAsPromised

-- the text is what is listed of the reports of a run
abbrev pub Tells : Planned → Listing → Fibres → List ℕ → Status → Fibres → Type 0
Tells plan listing f text end left = plans.Tells adm_account AreAsPromised (listed listing) plan f text end left
