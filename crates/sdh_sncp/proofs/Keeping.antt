-- What calls keep of the nodes of a path ring.
use Rattle.std.proofs.Common.{◌≡◌, ℕ, zero, suc, ◌+◌, ◌<◌, List, [], ◌∷◌, length, get_or, map, refl, ap, sym, subst, ◌∙◌, arith}
use Rattle.std.specs.Prelude.{All, IsSome, Option, Some, None, find, option_map, slice_get}
use Rattle.std.specs.Option.{option_map_or}
use Rattle.std.proofs.lemmas.List.{length-map}
use Rattle.std.proofs.lemmas.List.Elements.{All-map}
use Rattle.sdh_ringmap.specs.declared.Side.{Side}
use Rattle.sdh_ringmap.specs.declared.Side.TheVariants.{West, East}
use Rattle.sdh_ringmap.specs.Places.{position_of}
use Rattle.sdh_circuits.specs.declared.PortId.{PortId}
use Rattle.sdh_circuits.specs.Provisioned.{Provisioned, end_of}
use Rattle.sdh_payload.specs.Outlet.{silent}
use Rattle.sdh_plant.specs.Fibres.{Arrival}
use Rattle.sdh_request.specs.declared.settings.Settings.{Settings}
use Rattle.sdh_terminal.specs.Receiving.{after_taking}
use Rattle.sdh_terminal.specs.Tributaries.{port_of, HasPort, outlet_of, outlets_of, tributaries_at}
use Rattle.sdh_rounds.specs.Rounds as any_round
use Rattle.sdh_sncp.specs.Node.{PathNode, new_path_node, path_node_told, path_crossing, after_path_crossing, path_with_calm, path_node_round}
use Rattle.sdh_sncp.specs.Ring.{HeldPath, new_nodes, with_arrivals, all_with_arrivals, path_node_after, outlet_at}
use Rattle.sdh_terminal.specs.Fixed.{FixedPort, fixed_port}
use Rattle.sdh_sncp.specs.Fixed.{FixedPath, fixed_path, HaveRun}
use Rattle.sdh_terminal.proofs.Found.{names, fixed_found}
use Rattle.sdh_terminal.proofs.Waiting.{count_outlets}
use Rattle.sdh_sncp.proofs.Nodes.{fixed_ports_after, rounds_after}
use Rattle.sdh_sncp.proofs.New.{length-new, new_at}

-- ---- one node

pub fixed_told : (d : Side) (a : Arrival) (n : PathNode) → fixed_path (path_node_told d a n) ≡ fixed_path n
unfolding fixed_path
fixed_told West a n = refl
fixed_told East a n = refl

pub fixed_next : (n : PathNode) → fixed_path (path_node_after n) ≡ fixed_path n
unfolding fixed_path path_node_round path_with_calm after_path_crossing path_crossing after_taking
fixed_next n = ap (λ (ps : List FixedPort). record (fixed_path n) { ports = ps }) (fixed_ports_after n)

-- as many ports deliver as the fixed part has
pub ports_fixed : (n : PathNode) → length (outlets_of n.ports) ≡ length (fixed_path n).ports
unfolding fixed_path
ports_fixed n = count_outlets n.ports ∙ sym (length-map n.ports fixed_port)

-- ---- all nodes

pub length_fixed : (old now : List PathNode) → map fixed_path now ≡ map fixed_path old → length now ≡ length old
length_fixed old now all = sym (length-map now fixed_path) ∙ ap length all ∙ length-map old fixed_path

-- ---- a new ring

pub length-fixed : (s : Settings) (ids : List ℕ) (cs : List Provisioned) (n : ℕ) (ns : List PathNode)
    → map fixed_path ns ≡ map fixed_path (new_nodes s ids cs n) → length ns ≡ n
length-fixed s ids cs n ns same = length_fixed (new_nodes s ids cs n) ns same ∙ length-new s ids cs n

get-map : {X Y : Type 0} (f : X → Y) (xs : List X) (i : ℕ) (d : X) → get_or (map f xs) i (f d) ≡ f (get_or xs i d)
get-map f [] i d = refl
get-map f (x ∷ xs) zero d = refl
get-map f (x ∷ xs) (suc i) d = get-map f xs i d

-- the node at a position has the fixed part of the new node there
pub node_is : (s : Settings) (ids : List ℕ) (cs : List Provisioned) (n : ℕ) (ns : List PathNode) (p : ℕ) (d : PathNode)
    → map fixed_path ns ≡ map fixed_path (new_nodes s ids cs n) → p < n → fixed_path (get_or ns p d) ≡ fixed_path (new_path_node s ids cs (position_of p))
node_is s ids cs n ns p d same low =
    sym (get-map fixed_path ns p d) ∙ ap (λ fs. get_or fs p (fixed_path d)) same ∙ get-map fixed_path (new_nodes s ids cs n) p d
    ∙ ap fixed_path (new_at s ids cs n p d low)

rate_fixed : (m n : PathNode) → fixed_path m ≡ fixed_path n → m.west.section.rate ≡ n.west.section.rate
unfolding fixed_path
rate_fixed m n same = ap (λ (f : FixedPath). f.rate) same

new_rate : (s : Settings) (ids : List ℕ) (cs : List Provisioned) (p : ℕ) → (new_path_node s ids cs (position_of p)).west.section.rate ≡ s.rate
unfolding new_path_node
new_rate s ids cs p = refl

pub all_rates : (s : Settings) (ids : List ℕ) (cs : List Provisioned) (n : ℕ) (ns : List PathNode)
    → map fixed_path ns ≡ map fixed_path (new_nodes s ids cs n) → All (λ (n : PathNode). n.west.section.rate ≡ s.rate) ns
all_rates s ids cs n ns same =
    λ p d lt. rate_fixed (get_or ns p d) (new_path_node s ids cs (position_of p))
    (node_is s ids cs n ns p d same (omega (arith, length-fixed s ids cs n ns same))) ∙ new_rate s ids cs p

-- ---- rounds

run_both : (r : ℕ) (west east : Arrival) (n : PathNode) → n.rounds ≡ r → (with_arrivals west east n).rounds ≡ r
unfolding any_round.with_arrivals
run_both r west east n h = h

pub all_run_heard : (xs : List Arrival) (r : ℕ) (ns : List PathNode) → HaveRun r ns → HaveRun r (all_with_arrivals xs ns)
all_run_heard [] r ns all i d lt = all i d lt
all_run_heard (west ∷ []) r ns all i d lt = all i d lt
all_run_heard (west ∷ east ∷ later) r [] all i d lt = all i d lt
all_run_heard (west ∷ east ∷ later) r (n ∷ ns) all zero d lt = run_both r west east n (all 0 d (omega arith))
all_run_heard (west ∷ east ∷ later) r (n ∷ ns) all (suc i) d lt =
    all_run_heard later r ns (λ j e low. all (suc j) e (omega arith)) i d (omega arith)

pub all_run_next : (r : ℕ) (ns : List PathNode) → HaveRun r ns → HaveRun (r + 1) (map path_node_after ns)
all_run_next r ns all =
    All-map (λ (n : PathNode). n.rounds ≡ r + 1) path_node_after ns (λ i d lt. rounds_after (get_or ns i d) ∙ ap (λ k. k + 1) (all i d lt))

new_run : (s : Settings) (ids : List ℕ) (cs : List Provisioned) (p : ℕ) → (new_path_node s ids cs (position_of p)).rounds ≡ 0
unfolding new_path_node
new_run s ids cs p = refl

pub all_new : (s : Settings) (ids : List ℕ) (cs : List Provisioned) (n : ℕ) → HaveRun 0 (new_nodes s ids cs n)
all_new s ids cs n =
    λ p d lt. (let low : p < n = omega (arith, length-new s ids cs n) in ap (λ (x : PathNode). x.rounds) (new_at s ids cs n p d low)
    ∙ new_run s ids cs p)

-- ---- ports

some_mapped : {X Y : Type 0} (f : X → Y) (o : Option X) → IsSome o → IsSome (option_map f o)
some_mapped f None h = h
some_mapped f (Some x) h = refl

some_before : {X Y : Type 0} (f : X → Y) (o : Option X) → IsSome (option_map f o) → IsSome o
some_before f None h = h
some_before f (Some x) h = refl

-- nodes with equal fixed parts have ports of the same names
pub has_fixed : (id : PortId) (m n : PathNode) → fixed_path m ≡ fixed_path n → HasPort n.ports id → HasPort m.ports id
unfolding fixed_path
has_fixed id m n same h =
    let ports : map fixed_port m.ports ≡ map fixed_port n.ports = ap (λ (f : FixedPath). f.ports) same in
    let found : option_map fixed_port (port_of id n.ports) ≡ option_map fixed_port (port_of id m.ports) =
    sym (fixed_found id n.ports) ∙ ap (find (names id)) (sym ports) ∙ fixed_found id m.ports in
    some_before fixed_port (port_of id m.ports) (subst IsSome found (some_mapped fixed_port (port_of id n.ports) h))

pub new_has : (s : Settings) (ids : List ℕ) (cs : List Provisioned) (p : ℕ) (id : PortId) → HasPort (tributaries_at (position_of p) cs) id
    → HasPort (new_path_node s ids cs (position_of p)).ports id
unfolding new_path_node
new_has s ids cs p id h = h

-- what a port delivered is read at the node where it is
pub outlet_is : (r : HeldPath) (id : PortId) (c : Provisioned) (n : PathNode) → slice_get r.circuits.circuits id.circuit ≡ Some c
    → slice_get r.nodes (end_of c id.end).0 ≡ Some n → outlet_at r id ≡ outlet_of id n.ports
unfolding outlet_at
outlet_is r id c n circuit node =
    ap (λ o. option_map_or (λ x. option_map_or (λ m. outlet_of id m.ports) (slice_get r.nodes (end_of x id.end).0) silent) o silent) circuit
    ∙ ap (λ o. option_map_or (λ (m : PathNode). outlet_of id m.ports) o silent) node
