-- What a script with watches comes to. After each settle step that ended with a window, 128 more rounds are run, in
-- which a new watch looks at each port.
use Rattle.std.specs.Prelude.{ℕ, List}
use Rattle.sdh_node.specs.Node.{Node}
use Rattle.sdh_node.specs.Stations.{adm}
use Rattle.sdh_node.specs.Rings.Rounds.{World}
use Rattle.sdh_plan.specs.declared.step.Step.{Step}
use Rattle.sdh_status.specs.declared.Status.{Status}
use Rattle.sdh_scripts.specs.Walks.{Walk}
use Rattle.sdh_scripts.specs.Scripts as scripts
use Rattle.sdh_owed.specs.Steps.{world_after_step}
use Rattle.sdh_watch.specs.Shows.{Watched}
use Rattle.sdh_watch.specs.Watching.{watched_in}

abbrev pub watch_walk : Walk Node Watched
watch_walk = record {
  station = adm;
  does = world_after_step;
  behind = 128;
  tells = watched_in;
  last = λ (r : Watched). r.round;
}

-- A script with watches from a world on, where each settle step may run at most this number of rounds, and this number
-- of settle steps have ended before. The steps give these reports, end so, and leave that world.
abbrev pub Watches : ℕ → ℕ → List Step → World → List Watched → Status → World → Type 0
Watches = scripts.Runs watch_walk

-- what a script comes to where arrivals are known
abbrev pub Ran : Type 0
Ran = scripts.Ran Node Watched
