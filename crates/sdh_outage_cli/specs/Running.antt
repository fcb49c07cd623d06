-- When a script may be run whose outages are listed.
use Rattle.std.specs.Prelude.{ℕ, ◌≡◌, ◌+◌, ◌*◌, ◌<◌, List, length}
use Rattle.sdh_plant.specs.Fibres.{Fibres}
use Rattle.sdh_node.specs.Rings.Held.{HeldRing}
use Rattle.sdh_plan.specs.declared.step.Step.{Step}
use Rattle.sdh_owed.specs.Running as ring
use Rattle.sdh_outage_cli.specs.Ports.{AreReady, ports_by_node}
use Rattle.sdh_outage_cli.specs.declared.listing.OutageListing.{OutageListing}
use Rattle.sdh_outage_cli.specs.declared.listing.OutageListing.TheVariants as listing
use Rattle.sdh_outage_cli.specs.declared.ports.ListenerPair.{ListenerPair}
use Rattle.sdh_outage_cli.specs.declared.script.OutageRun.{OutageRun}
use Rattle.sdh_outage_cli.specs.declared.streams.StreamPair.{StreamPair}

-- the port that is listed is one of `circuits` circuits
abbrev pub MayListOutages : ℕ → OutageListing → Type 0
MayListOutages circuits listing.Ports = Unit {0}
MayListOutages circuits (listing.Trace port) = port.circuit < circuits

-- Room enough for the lines of a settle step with `circuits` circuits. The step's own line gets 96 bytes and each other
-- 250. The others are one for each port and one for all ports; or, for one port, those of 64 changes, of how many more
-- there were, and of the port.
abbrev pub outage_lines_room : OutageListing → ℕ → ℕ
outage_lines_room listing.Ports circuits = 346 + 500 * circuits
outage_lines_room (listing.Trace port) circuits = 16596

-- These steps may be run over a ring and fibres after `before` settle steps that have ended: no settle step had more
-- than 65,536 rounds, and the listeners on all ports have heard of all rounds.
pub record MayRun (before : ℕ) (steps : List Step) (r : HeldRing) (items : List ListenerPair) (streams : List StreamPair) (f : Fibres) : Type 0 where
  pub ring_may : ring.MayRun 65536 before steps r f
  pub ready : AreReady r.circuits.circuits r.rounds items streams

abbrev pub running_ring : OutageRun → HeldRing
running_ring r = r.ring

-- these steps may run over these fibres, and the port that is listed is one of the ring's
abbrev pub MayListen : ℕ → List Step → OutageRun → Fibres → Type 0
MayListen number steps r f =
    MayListOutages (length r.ring.circuits.circuits) r.listing
    × MayRun number steps r.ring r.listeners.items.items r.listeners.streams.pairs.items f × (r.listeners.rooms.counts ≡ ports_by_node r.ring)
