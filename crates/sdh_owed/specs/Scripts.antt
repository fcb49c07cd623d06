-- What a script over a ring of add-drop multiplexers comes to. Each settle step that ends with a window has a report.
use Rattle.std.specs.Prelude.{ℕ, List}
use Rattle.sdh_node.specs.Node.{Node}
use Rattle.sdh_node.specs.Stations.{adm}
use Rattle.sdh_node.specs.Rings.Rounds.{World}
use Rattle.sdh_plan.specs.declared.step.Step.{Step}
use Rattle.sdh_status.specs.declared.Status.{Status}
use Rattle.sdh_report.specs.Reports.{Report}
use Rattle.sdh_scripts.specs.Walks.{Walk, reporting}
use Rattle.sdh_scripts.specs.Scripts as scripts
use Rattle.sdh_owed.specs.Steps.{world_after_step}
use Rattle.sdh_owed.specs.Reports.{report_of}

abbrev pub adm_walk : Walk Node Report
adm_walk = reporting adm world_after_step report_of

-- A script from a world on, where each settle step may run at most this number of rounds, and this number of settle
-- steps have ended before. The steps give these reports, end so, and leave that world.
abbrev pub Runs : ℕ → ℕ → List Step → World → List Report → Status → World → Type 0
Runs = scripts.Runs adm_walk

-- what a script comes to where arrivals are known
abbrev pub Ran : Type 0
Ran = scripts.Ran Node Report
