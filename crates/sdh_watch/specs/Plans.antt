-- What a plan with watches comes to, over fibres that aren't made yet.
use Rattle.std.specs.Prelude.{ℕ, List, []}
use Rattle.sdh_plant.specs.Fibres.{Fibres}
use Rattle.sdh_node.specs.Node.{Node}
use Rattle.sdh_plan.specs.Planned.{Planned}
use Rattle.sdh_status.specs.declared.Status.{Status}
use Rattle.sdh_promise.specs.Scenes.{scenes}
use Rattle.sdh_promise.specs.Plans.{ring_of}
use Rattle.sdh_scripts.specs.Plans.{Account, ReportsOwe}
use Rattle.sdh_scripts.specs.Plans as plans
use Rattle.sdh_owed.specs.Plans.{new_ring_of}
use Rattle.sdh_watch.specs.Shows.{Watched}
use Rattle.sdh_watch.specs.Scripts.{watch_walk, Ran}
use Rattle.sdh_watch.specs.Owed.{AreClean}
use Rattle.sdh_watch.specs.Lines.{watched_text}

-- over honest fibres each watch shows what its port is owed
abbrev pub ShowsClean : Planned → List Watched → Status → Type 0
ShowsClean plan reports end = AreClean (ring_of plan) plan.limit [] 0 (scenes [] plan.steps) reports end

abbrev pub watch_account : Account Node Watched
watch_account = record { walk = watch_walk; new_ring = new_ring_of }

-- what the lines of a plan owe over honest fibres: each watch shows what its port is owed
abbrev pub Owes : ReportsOwe Watched
Owes plan f reports end left = ShowsClean plan reports end

-- what the script of a plan comes to with watches, where the arrivals are known
abbrev pub ran_of : Planned → Fibres → Ran
ran_of = plans.ran_of watch_account

-- A script that settles. Where the arrivals are known each settle step has a quiet window within the limit; or the
-- fibres are honest and the limit is large.
abbrev pub MaySettle : Planned → Fibres → Type 0
MaySettle = plans.MaySettle watch_account

-- what holds of one list of reports: over every plant, where the arrivals are known, and over honest fibres
abbrev pub IsRunOf : Planned → Fibres → List Watched → Status → Fibres → Type 0
IsRunOf = plans.IsRunOf watch_account Owes

-- the text is that of the reports of a run
abbrev pub Tells : Planned → Fibres → List ℕ → Status → Fibres → Type 0
Tells = plans.Tells watch_account Owes watched_text
