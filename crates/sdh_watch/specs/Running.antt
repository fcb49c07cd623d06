-- When a script may be run with watches.
use Rattle.std.specs.Prelude.{ℕ, ◌≡◌, List, length}
use Rattle.sdh_plant.specs.Fibres.{Fibres}
use Rattle.sdh_node.specs.Rings.Held.{HeldRing}
use Rattle.sdh_plan.specs.declared.step.Step.{Step}
use Rattle.sdh_owed.specs.Running as ring
use Rattle.sdh_watch.specs.declared.ports.WatchPair.{WatchPair}
use Rattle.sdh_watch.specs.declared.script.WatchRun.{WatchRun}

-- These steps may be run over a ring and fibres after `before` settle steps that have ended. No settle step had more
-- than 65,536 rounds and 128 that were watched, and there are watches for all ports.
pub record MayRun (before : ℕ) (steps : List Step) (r : HeldRing) (watches : List WatchPair) (f : Fibres) : Type 0 where
  pub ring_may : ring.MayRun 65664 before steps r f
  pub many : length watches ≡ length r.circuits.circuits

abbrev pub running_ring : WatchRun → HeldRing
running_ring r = r.ring

-- these steps may run over these fibres
abbrev pub MayWatch : ℕ → List Step → WatchRun → Fibres → Type 0
MayWatch number steps r f = MayRun number steps r.ring r.watches.items f
