-- A ring that lists its reports: what must hold of it before steps of a script run.
use Rattle.std.specs.Prelude.{ℕ, List, length}
use Rattle.sdh_plant.specs.Fibres.{Fibres}
use Rattle.sdh_node.specs.Rings.Held.{HeldRing}
use Rattle.sdh_plan.specs.declared.step.Step.{Step}
use Rattle.sdh_owed.specs.Running as running
use Rattle.sdh_cli.specs.Room.{MayList}
use Rattle.sdh_cli.specs.declared.script.RingRun.{RingRun}

abbrev pub running_ring : RingRun → HeldRing
running_ring r = r.ring

-- these steps may run over these fibres, and the port that is listed is one of the ring's
abbrev pub MayRun : ℕ → List Step → RingRun → Fibres → Type 0
MayRun number steps r f = MayList (length r.ring.circuits.circuits) r.listing × running.MayRun 65536 number steps r.ring f
