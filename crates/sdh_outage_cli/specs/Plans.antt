-- What comes of a plan whose outages are listed. The run begins with a plant that has made no fibres.
use Rattle.std.specs.Prelude.{ℕ, List}
use Rattle.sdh_plant.specs.Fibres.{Fibres}
use Rattle.sdh_node.specs.Node.{Node}
use Rattle.sdh_plan.specs.Planned.{Planned}
use Rattle.sdh_status.specs.declared.Status.{Status}
use Rattle.sdh_scripts.specs.Plans.{Account, ReportsOwe}
use Rattle.sdh_scripts.specs.Plans as plans
use Rattle.sdh_owed.specs.Plans.{new_ring_of}
use Rattle.sdh_outage_cli.specs.Outages.{Outaged}
use Rattle.sdh_outage_cli.specs.Scripts.{outage_walk, Ran}
use Rattle.sdh_outage_cli.specs.Lines.{outages_listed}
use Rattle.sdh_outage_cli.specs.declared.listing.OutageListing.{OutageListing}

abbrev pub outage_account : Account Node Outaged
outage_account = record { walk = outage_walk; new_ring = new_ring_of }

-- nothing is owed: over honest fibres too the reports show what the rounds were
abbrev pub Owes : ReportsOwe Outaged
Owes plan f reports end left = Unit {0}

-- what the script of a plan comes to, where the arrivals are known
abbrev pub ran_of : Planned → Fibres → Ran
ran_of = plans.ran_of outage_account

-- where the arrivals are known each settle step has a quiet window within the limit; or the fibres are honest and the
-- limit is large
abbrev pub MaySettle : Planned → Fibres → Type 0
MaySettle = plans.MaySettle outage_account

-- what is so of one list of settle steps: over every plant, where the arrivals are known, and over honest fibres
abbrev pub IsRunOf : Planned → Fibres → List Outaged → Status → Fibres → Type 0
IsRunOf = plans.IsRunOf outage_account Owes

-- the text is what is listed of a run
abbrev pub Tells : Planned → OutageListing → Fibres → List ℕ → Status → Fibres → Type 0
Tells plan listing f text end left = plans.Tells outage_account Owes (outages_listed listing) plan f text end left
