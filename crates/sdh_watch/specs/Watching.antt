-- What rounds show to the watches on a ring's ports.
use Rattle.std.specs.Prelude.{ℕ, zero, suc, ◌≡◌, ◌+◌, ◌-◌, ◌<◌, ◌==◌, if◌then◌else◌, List, [], ◌∷◌, length}
use Rattle.sdh_circuits.specs.declared.End.{End}
use Rattle.sdh_circuits.specs.declared.PortId.{PortId}
use Rattle.sdh_circuits.specs.Ends.{other_end}
use Rattle.sdh_circuits.specs.Provisioned.{Provisioned, customer_at}
use Rattle.sdh_payload.specs.declared.delivered.Delivered.{Delivered}
use Rattle.sdh_payload.specs.declared.delivered.Delivered.TheVariants as delivered
use Rattle.sdh_plant.specs.Fibres.{Fibres}
use Rattle.sdh_node.specs.Rings.Held.{HeldRing, outlet_at}
use Rattle.sdh_node.specs.Rings.Rounds.{World}
use Rattle.sdh_node.specs.Rings.Runs.{IsRound, IsBrokenOff}
use Rattle.sdh_path.specs.History.{Given, Chunk, Ais}
use Rattle.sdh_path.specs.PathReports.{path_report_of}
use Rattle.sdh_scripts.specs.Ports.{of_ports}
use Rattle.sdh_watch.specs.Shows.{shown, WatchLine, Watched}

-- ---- rounds

-- what is given to the watch on a port, by what the port delivered in a round: a chunk of another length than 2349
-- bytes counts as AIS
abbrev pub given_as : ℕ → Delivered → Given
given_as value delivered.Ais = Ais
given_as value (delivered.Chunk bytes) = if length bytes == 2349 then Chunk bytes value else Ais

abbrev pub given_of : HeldRing → PortId → Given
given_of r port = given_as (outlet_at r port).value (outlet_at r port).delivered

-- a number of rounds lead from a world to another, whatever arrives in them, and this is what is given to the watch on
-- each port, the latest first
abbrev pub Lead : ℕ → World → World → (PortId → List Given) → Type 0
Lead zero w left heard = (left ≡ w) × ((port : PortId) → heard port ≡ [])
Lead (suc k) w left heard =
    (mid : World) × (before : PortId → List Given) × Lead k w mid before × IsRound mid left
    × ((port : PortId) → heard port ≡ given_of left.ring port ∷ before port)

-- what is given in the first rounds of a course, which gives the world after each number of rounds
abbrev pub heard_in : ℕ → (ℕ → World) → PortId → List Given
heard_in zero at port = []
heard_in (suc k) at port = given_of (at (suc k)).ring port ∷ heard_in k at port

-- a fault broke one of k rounds off, and left these fibres
pub record BreaksAmong (k : ℕ) (w : World) (left : Fibres) : Type 0 where
  pub ran : ℕ
  pub few : ran < k
  pub last : World
  pub heard : PortId → List Given
  pub rounds : Lead ran w last heard
  pub off : IsBrokenOff last left

-- ---- what is reported of the watches

-- What the watch on the port at an end of circuit number `index` shows, where `heard` is what was given to each watch.
-- The trace should be that of the circuit's other port.
abbrev pub port_watched : HeldRing → (PortId → List Given) → ℕ → Provisioned → End → WatchLine
port_watched r heard index c e = (let port : PortId = record { circuit = index; end = e } in
    record {
      name = c.name;
      end = e;
      shows = shown (outlet_at r port).delivered
          (path_report_of (customer_at c (other_end e)).trace (heard port));
    })

-- what the watches on the ports of these circuits show, which are counted from `index`
abbrev pub ports_watched : HeldRing → (PortId → List Given) → ℕ → List Provisioned → List WatchLine
ports_watched r heard = of_ports (port_watched r heard)

-- what is reported of settle step `number`, which left the first of these rings, and of the rounds from there to the
-- second
abbrev pub watched : ℕ → HeldRing → HeldRing → (PortId → List Given) → Watched
watched number mid left heard = record {
  number = number;
  round = mid.rounds - 1;
  watches = ports_watched left heard 0 left.circuits.circuits;
}

-- what is reported of settle step `number`, which ended with the k-th round of a course, and of the 128 rounds after it
abbrev pub watched_in : ℕ → (ℕ → World) → ℕ → Watched
watched_in number at k = watched number (at k).ring (at (k + 128)).ring (heard_in 128 (λ j. at (k + j)))
