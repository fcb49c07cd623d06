-- A plan as contracts see it.
use Rattle.std.specs.Prelude.{◌≡◌, true, ℕ, ◌*◌, ◌/◌, ◌≤◌, List, length}
use Rattle.sdh_request.specs.declared.settings.Settings.{Settings}
use Rattle.sdh_ringmap.specs.Rates.{n_of}
use Rattle.sdh_ringmap.specs.Ids.{AreIds}
use Rattle.sdh_circuits.specs.Provisioning.{Provisioning, IsProvisioning}
use Rattle.sdh_plan.specs.Circuits.{provisioned}
use Rattle.sdh_circuits.specs.Provisioned.{Provisioned}
use Rattle.sdh_plan.specs.declared.step.Step.{Step}
use Rattle.sdh_plan.specs.Steps.{new_past, ends_settled}
use Rattle.sdh_plan.specs.Scripts.{AreSteps}

pub record Planned : Type 0 where
  -- what an operator sets for all nodes: the rate, the threshold and the waiting time
  pub settings : Settings
  -- the most rounds that a settle step may have
  pub limit : ℕ
  -- the identifiers of the nodes, by position
  pub nodes : List ℕ
  -- the circuits in their order
  pub circuits : List Provisioned
  -- the steps of the script in their order
  pub steps : List Step

-- the plan of these settings, nodes, circuits and steps
abbrev pub planned : Settings → ℕ → List ℕ → Provisioning → List Step → Planned
planned settings limit nodes provisioning steps = record {
  settings = settings;
  limit = limit;
  nodes = nodes;
  circuits = provisioning.circuits;
  steps = steps;
}

-- the map of the plan's circuits, with half of N working slots on each span of the plan's ring
abbrev pub provisioning_of : Planned → Provisioning
provisioning_of plan = provisioned (n_of plan.settings.rate / 2) plan.nodes plan.circuits

-- what is true of every plan
pub record IsPlanned (plan : Planned) : Type 0 where
  pub threshold_from_1 : 1 ≤ plan.settings.threshold
  pub threshold_small : plan.settings.threshold ≤ 3 * n_of plan.settings.rate
  pub wait_small : plan.settings.wait ≤ 1000000
  pub limit_from_1 : 1 ≤ plan.limit
  pub limit_small : plan.limit ≤ 65536
  pub nodes_fit : AreIds plan.nodes
  pub circuits_fit : IsProvisioning (provisioning_of plan)
  pub steps_from_1 : 1 ≤ length plan.steps
  pub steps_few : length plan.steps ≤ 1000
  pub steps_fit : AreSteps plan.settings.rate (length plan.nodes) (length plan.circuits) new_past plan.steps
  pub last_settles : ends_settled plan.steps ≡ true
