-- What the reports of a plan owe.
use Rattle.std.specs.Prelude.{List, [], length}
use Rattle.sdh_plan.specs.Planned.{Planned}
use Rattle.sdh_status.specs.declared.Status.{Status}
use Rattle.sdh_promise.specs.Scenes.{scenes}
use Rattle.sdh_promise.specs.Owed.{Ring, PortReport, AreOwed}

-- the parts of a plan's ring that decide what its reports owe
abbrev pub ring_of : Planned → Ring
ring_of plan = record {
  nodes = length plan.nodes;
  threshold = plan.settings.threshold;
  wait = plan.settings.wait;
  circuits = plan.circuits;
}

-- each report shows for every port what it is owed
abbrev pub OwesAll : Planned → List PortReport → Status → Type 0
OwesAll plan reports end = AreOwed (ring_of plan) plan.limit [] 0 (scenes [] plan.steps) reports end
