-- What a script does with a path ring.
use Rattle.sdh_plant.specs.Calls.{after_apply}
use Rattle.sdh_plan.specs.declared.step.Step.{Step}
use Rattle.sdh_plan.specs.declared.step.Step.TheVariants as step
use Rattle.sdh_report.specs.Reports.{Report}
use Rattle.sdh_scripts.specs.Walks.{Walk, reporting}
use Rattle.sdh_sncp.specs.Node.{PathNode}
use Rattle.sdh_sncp.specs.Stations.{path_node}
use Rattle.sdh_sncp.specs.Ring.{World}
use Rattle.sdh_sncp_cli.specs.Reports.{path_ring_report}

-- what a step does that runs no round: it gives a fibre a condition; no other such step is a path ring's
abbrev pub does : Step → World → World
does (step.Fibre e) w = record w { fibres = after_apply w.fibres e.at.0 e.side e.condition }
does s w = w

abbrev pub path_walk : Walk PathNode Report
path_walk = reporting path_node does path_ring_report
