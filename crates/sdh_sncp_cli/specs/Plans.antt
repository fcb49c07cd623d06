-- What a plan comes to over a path ring and fibres that aren't made yet.
use Rattle.std.specs.Prelude.{ℕ, List}
use Rattle.sdh_plant.specs.Fibres.{Fibres}
use Rattle.sdh_plan.specs.Planned.{Planned, provisioning_of}
use Rattle.sdh_report.specs.Reports.{Report, report_text}
use Rattle.sdh_status.specs.declared.Status.{Status}
use Rattle.sdh_scripts.specs.Scripts.{Ran}
use Rattle.sdh_scripts.specs.Plans.{Account, ReportsOwe}
use Rattle.sdh_scripts.specs.Plans as plans
use Rattle.sdh_sncp.specs.Node.{PathNode}
use Rattle.sdh_sncp.specs.Ring.{HeldPath, World, new_ring}
use Rattle.sdh_sncp_cli.specs.Walking.{path_walk}
use Rattle.sdh_sncp_cli.specs.Promise.{PathOwesAll}

-- the path ring of a plan, in which no round has run
abbrev pub new_path_ring_of : Planned → HeldPath
new_path_ring_of plan = new_ring plan.settings plan.nodes (provisioning_of plan)

abbrev pub path_account : Account PathNode Report
path_account = record { walk = path_walk; new_ring = new_path_ring_of }

-- over honest fibres each report shows for every port what it is owed
abbrev pub Owes : ReportsOwe Report
Owes plan f reports end left = PathOwesAll plan reports end

-- the ring of a plan, over fibres that were just prepared for it
abbrev pub world_of : Planned → Fibres → World
world_of = plans.world_of path_account

-- what the script of a plan comes to over fibres that were just prepared, where the arrivals are known
abbrev pub ran_of : Planned → Fibres → Ran PathNode Report
ran_of = plans.ran_of path_account

-- A script that settles. Where the arrivals are known each settle step has a quiet window within the limit; or the
-- fibres are honest and the limit is large.
abbrev pub MaySettle : Planned → Fibres → Type 0
MaySettle = plans.MaySettle path_account

-- what holds of one list of reports: over every plant, where the arrivals are known, and over honest fibres
abbrev pub IsRunOf : Planned → Fibres → List Report → Status → Fibres → Type 0
IsRunOf = plans.IsRunOf path_account Owes

-- the text is that of the reports of a run
abbrev pub Tells : Planned → Fibres → List ℕ → Status → Fibres → Type 0
Tells = plans.Tells path_account Owes report_text
