-- The ring of a plan, and what it becomes over fibres.
use Rattle.sdh_plant.specs.Fibres.{Fibres}
use Rattle.sdh_node.specs.Rings.Held.{HeldRing, new_ring}
use Rattle.sdh_node.specs.Rings.Rounds.{World}
use Rattle.sdh_node.specs.Rings.Changes.{new_world}
use Rattle.sdh_plan.specs.Planned.{Planned, provisioning_of}

-- the ring of a plan, in which no round has run
abbrev pub new_ring_of : Planned → HeldRing
new_ring_of plan = new_ring plan.settings plan.nodes (provisioning_of plan)

-- the ring of a plan over fibres that were just prepared for it
abbrev pub world_of : Planned → Fibres → World
world_of plan f = new_world plan.settings plan.nodes (provisioning_of plan) f
