-- What a ring of nodes of any kind holds.
use Rattle.std.specs.Prelude.{ℕ, zero, suc, ◌≡◌, ◌/◌, ◌<◌, Bool, false, Some, List, [], ◌∷◌, length, map, slice_get, slice_index_or}
use Rattle.std.specs.Option.{option_map_or}
use Rattle.sdh_basics.specs.Cells.{cells}
use Rattle.sdh_ringmap.specs.Rates.{n_of}
use Rattle.sdh_ringmap.specs.declared.terms.Rate.TheVariants.{Four}
use Rattle.sdh_ringmap.specs.Ids.{AreIds}
use Rattle.sdh_ringmap.specs.Places.{position_of}
use Rattle.sdh_circuits.specs.declared.PortId.{PortId}
use Rattle.sdh_circuits.specs.Provisioned.{Provisioned, end_of}
use Rattle.sdh_circuits.specs.Provisioning.{Provisioning, IsProvisioning}
use Rattle.sdh_circuits.specs.Kept.{KeepsRing}
use Rattle.sdh_payload.specs.Outlet.{Outlet, silent}
use Rattle.sdh_request.specs.declared.settings.Settings.{Settings}
use Rattle.sdh_plant.specs.Fibres.{Fibres}
use Rattle.sdh_rounds.specs.Stations.{Station}

-- a ring of nodes of any kind, as contracts see it
pub record HeldRing (N : Type 0) : Type 0 where
  pub settings : Settings
  -- the identifiers of the nodes, by position
  pub ids : List ℕ
  pub circuits : Provisioning
  -- the nodes, by position
  pub nodes : List N
  -- the present moment
  pub moment : ℕ
  -- the number of rounds that have run, which is the number of the next one
  pub rounds : ℕ
  -- a fault of the plant broke a round off
  pub broken : Bool

-- the ring with each node changed, perhaps into one of another kind
abbrev pub with_each : {N M : Type 0} → (N → M) → HeldRing N → HeldRing M
with_each change r = record {
  settings = r.settings;
  ids = r.ids;
  circuits = r.circuits;
  nodes = map change r.nodes;
  moment = r.moment;
  rounds = r.rounds;
  broken = r.broken;
}

-- a ring and its fibres
pub record World (N : Type 0) : Type 0 where
  pub ring : HeldRing N
  pub fibres : Fibres

abbrev pub world : {N : Type 0} → HeldRing N → Fibres → World N
world r f = record { ring = r; fibres = f }

-- the nodes with a change at one position
abbrev pub at_place : {N : Type 0} → ℕ → (N → N) → List N → List N
at_place p change [] = []
at_place zero change (n ∷ ns) = change n ∷ ns
at_place (suc p) change (n ∷ ns) = n ∷ at_place p change ns

-- ---- a ring in which no round has run, at moment 0

-- a new node at each of the first n positions
abbrev pub new_nodes : {N : Type 0} → Station N → Settings → List ℕ → List Provisioned → ℕ → List N
new_nodes s settings ids circuits n = cells (λ p. s.new settings ids circuits (position_of p)) n

-- the ring of these nodes in which no round has run
abbrev pub ring_of : {N : Type 0} → Settings → List ℕ → Provisioning → List N → HeldRing N
ring_of settings ids circuits nodes = record {
  settings = settings;
  ids = ids;
  circuits = circuits;
  nodes = nodes;
  moment = 0;
  rounds = 0;
  broken = false;
}

-- a ring of new nodes
abbrev pub new_ring : {N : Type 0} → Station N → Settings → List ℕ → Provisioning → HeldRing N
new_ring s settings ids circuits = ring_of settings ids circuits (new_nodes s settings ids circuits.circuits (length ids))

-- ---- where a port of a circuit is

-- the position of the node where a port is; the number of nodes, which is no position, where there is no such circuit
abbrev pub place_of_port : {N : Type 0} → HeldRing N → PortId → ℕ
place_of_port r port = option_map_or (λ c. (end_of c port.end).0) (slice_get r.circuits.circuits port.circuit) (length r.nodes)

-- what a port delivered in the last round, at the node where it is
abbrev pub outlet_at : {N : Type 0} → Station N → HeldRing N → PortId → Outlet
outlet_at s r port =
    option_map_or (λ c. option_map_or (s.outlet port) (slice_get r.nodes (end_of c port.end).0) silent)
    (slice_get r.circuits.circuits port.circuit) silent

-- the port is at position p of the ring
pub record IsPlaceOf {N : Type 0} (r : HeldRing N) (port : PortId) (p : ℕ) : Type 0 where
  pub circuit : Provisioned
  pub circuit_is : slice_get r.circuits.circuits port.circuit ≡ Some circuit
  pub place : p ≡ (end_of circuit port.end).0
  pub inside : p < length r.nodes

-- the port is at node n
pub record IsNodeOf {N : Type 0} (r : HeldRing N) (port : PortId) (n : N) : Type 0 where
  pub at : ℕ
  pub place : IsPlaceOf r port at
  pub there : slice_get r.nodes at ≡ Some n

-- ---- node by node

-- a node of no ring
abbrev pub nowhere : {N : Type 0} → Station N → N
nowhere s = s.new (record { rate = Four; threshold = 0; wait = 0 }) [] [] (position_of 0)

-- P holds of each position of a ring and the node there; `none`, a node of no ring, is only the default of the look-up
abbrev pub AtEach : {N : Type 0} → N → (ℕ → N → Type 0) → List N → Type 0
AtEach none P ns = (p : ℕ) → p < length ns → P p (slice_index_or ns p none)

-- ---- what is true of every ring

-- the circuits of a ring are circuits of a ring of its size and rate, and the ring has a node at each position
pub record HasItsNodes {N : Type 0} (r : HeldRing N) : Type 0 where
  pub ids : AreIds r.ids
  pub circuits : IsProvisioning r.circuits
  pub slots : r.circuits.slots ≡ n_of r.settings.rate / 2
  pub kept : KeepsRing r.circuits r.ids
  pub size : length r.nodes ≡ length r.ids
