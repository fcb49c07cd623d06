-- What calls keep of a node, and of all nodes of a ring.
use Rattle.std.proofs.Common.{◌≡◌, ℕ, zero, suc, ◌+◌, ◌<◌, ◌≤◌, Bool, true, false, List, [], ◌∷◌, length, get_or, map, refl, ap, sym}
use Rattle.std.proofs.Common.{subst, ◌∙◌, arith}
use Rattle.std.specs.Prelude.{All, IsSome, Some, find, slice_get, ◌==◌, ◌&&◌}
use Rattle.std.proofs.lemmas.List.{length-map}
use Rattle.std.proofs.lemmas.List.Elements.{All-map}
use Rattle.sdh_basics.specs.Indexed.{map_from}
use Rattle.sdh_basics.proofs.CellsLaws.{length-cells, get_or-cells}
use Rattle.sdh_ringmap.specs.declared.Side.{Side}
use Rattle.sdh_ringmap.specs.declared.Side.TheVariants.{West, East}
use Rattle.sdh_request.specs.declared.Command.{Command}
use Rattle.sdh_payload.specs.declared.chunk.ChunkForm.{ChunkForm}
use Rattle.sdh_payload.specs.declared.chunk.ChunkForm.TheVariants.{Plain, Short, Long}
use Rattle.sdh_payload.specs.Clock.{Clock, waiting, next_form, after_form, ticked}
use Rattle.sdh_payload.specs.Feed.{Fed, next_feed}
use Rattle.sdh_payload.proofs.Clocking.{next_few}
use Rattle.sdh_payload.specs.declared.clock.Turn.{Turn}
use Rattle.sdh_circuits.specs.declared.PortId.{PortId}
use Rattle.sdh_circuits.specs.Provisioned.{Provisioned, same_end}
use Rattle.sdh_plant.specs.Fibres.{Arrival}
use Rattle.sdh_request.specs.declared.settings.Settings.{Settings}
use Rattle.sdh_node.specs.Receiving.{after_intake, after_overhead, commanded_by}
use Rattle.sdh_terminal.specs.Tributaries.{Tributary, is_port, port_of, HasPort, fed, all_fed, tributaries_at}
use Rattle.sdh_node.specs.Crossing.{Cross, after_decision, delivered_to, all_delivered}
use Rattle.sdh_node.specs.Node.{Node, new_node, at_receiving, held_for, slips_at, crossing, ports_after, after_crossing, with_calm}
use Rattle.sdh_node.specs.Node.{node_round}
use Rattle.sdh_node.proofs.Rounds.{round_goes_on}
use Rattle.sdh_node.specs.Rings.Held.{new_nodes, at_place}
use Rattle.sdh_node.specs.Rings.Rounds.{with_arrival, with_arrivals, all_with_arrivals, node_after}
use Rattle.sdh_terminal.specs.Fixed.{FixedPort, fixed_port}
use Rattle.sdh_node.specs.Rings.Fixed.{Fixed, fixed, IsRested, IsOn}
use Rattle.sdh_ringmap.specs.Places.{position_of}
use Rattle.sdh_rounds.specs.Rounds as any_round
use Rattle.sdh_terminal.proofs.Found.{ports_mapped, new_ports}
use Rattle.sdh_terminal.proofs.Slips.{map-with_slips}

-- ---- one node

pub fixed_with : (d : Side) (a : Arrival) (n : Node) → fixed (with_arrival d a n) ≡ fixed n
unfolding fixed
fixed_with West a n = refl
fixed_with East a n = refl

pub fixed_met : (west east : Arrival) (n : Node) → fixed (with_arrivals west east n) ≡ fixed n
unfolding any_round.with_arrivals
fixed_met west east n = fixed_with East east (with_arrival West west n) ∙ fixed_with West west n

pub fixed_commanded : (d : Side) (c : Command) (n : Node) → fixed (at_receiving d (commanded_by c) n) ≡ fixed n
unfolding fixed
fixed_commanded West c n = refl
fixed_commanded East c n = refl

ports_kept : (x : Cross) (ports : List Tributary) → map fixed_port (ports_after x ports) ≡ map fixed_port ports
unfolding ports_after all_fed all_delivered
ports_kept x ports =
    ports_mapped (λ i t. fed t) 0 (map_from (λ i t. delivered_to x t) 0 ports) (λ k t. refl)
    ∙ ports_mapped (λ i t. delivered_to x t) 0 ports (λ k t. refl)

pub fixed_slipped : (id : PortId) (turn : Turn) (count : ℕ) (n : Node) → fixed (slips_at id turn count n) ≡ fixed n
unfolding fixed
fixed_slipped id turn count n =
    ap (λ (ps : List FixedPort). record (fixed n) { ports = ps }) (map-with_slips fixed_port (λ turn count t. refl) id turn count n.ports)

pub fixed_next : (now : ℕ) (n : Node) → fixed (node_after now n) ≡ fixed n
unfolding fixed node_round with_calm after_crossing crossing after_decision after_intake after_overhead
fixed_next now n = ap (λ (ps : List FixedPort). record (fixed n) { ports = ps }) (ports_kept (crossing now n) n.ports)

-- ---- all nodes

pub all_heard : (xs : List Arrival) (ns : List Node) → map fixed (all_with_arrivals xs ns) ≡ map fixed ns
all_heard [] ns = refl
all_heard (west ∷ []) ns = refl
all_heard (west ∷ east ∷ later) [] = refl
all_heard (west ∷ east ∷ later) (n ∷ ns) =
    ap (λ f. f ∷ map fixed (all_with_arrivals later ns)) (fixed_met west east n) ∙ ap (λ fs. fixed n ∷ fs) (all_heard later ns)

pub all_next : (now : ℕ) (ns : List Node) → map fixed (map (node_after now) ns) ≡ map fixed ns
all_next now [] = refl
all_next now (n ∷ ns) = ap (λ f. f ∷ map fixed (map (node_after now) ns)) (fixed_next now n) ∙ ap (λ fs. fixed n ∷ fs) (all_next now ns)

-- what a change of one node keeps of that node, it keeps of all nodes
pub all_placed : {Y : Type 0} (f : Node → Y) (change : Node → Node) → ((n : Node) → f (change n) ≡ f n) → (i : ℕ) (ns : List Node)
    → map f (at_place i change ns) ≡ map f ns
all_placed f change same i [] = refl
all_placed f change same zero (n ∷ ns) = ap (λ y. y ∷ map f ns) (same n)
all_placed f change same (suc i) (n ∷ ns) = ap (λ ys. f n ∷ ys) (all_placed f change same i ns)

pub all_commanded : (i : ℕ) (side : Side) (c : Command) (ns : List Node)
    → map fixed (at_place i (at_receiving side (commanded_by c)) ns) ≡ map fixed ns
all_commanded i side c ns = all_placed fixed (at_receiving side (commanded_by c)) (fixed_commanded side c) i ns

pub all_held : (i turns : ℕ) (ns : List Node) → map fixed (at_place i (held_for turns) ns) ≡ map fixed ns
unfolding fixed
all_held i turns ns = all_placed fixed (held_for turns) (λ n. refl) i ns

pub all_slipped : (i : ℕ) (id : PortId) (turn : Turn) (count : ℕ) (ns : List Node)
    → map fixed (at_place i (slips_at id turn count) ns) ≡ map fixed ns
all_slipped i id turn count ns = all_placed fixed (slips_at id turn count) (fixed_slipped id turn count) i ns

-- ---- the feeds of ports

-- Q holds of each port's feed after a round, if P held before it and the round makes Q of P
feeds_after : (P Q : Fed → Type 0) → ((f : Fed) → P f → Q (next_feed f)) → (x : Cross) (i j : ℕ) (ts : List Tributary)
    → All (λ (t : Tributary). P t.feed) ts → All (λ (t : Tributary). Q t.feed)
    (map_from (λ i t. fed t) i (map_from (λ i t. delivered_to x t) j ts))
feeds_after P Q to x i j [] all m d lt = absurd (omega arith)
feeds_after P Q to x i j (t ∷ ts) all zero d lt = to t.feed (all 0 d (omega arith))
feeds_after P Q to x i j (t ∷ ts) all (suc m) d lt =
    feeds_after P Q to x (i + 1) (j + 1) ts (λ a e low. all (suc a) e (omega arith)) m d (omega arith)

pub feeds_next : (P Q : Fed → Type 0) → ((f : Fed) → P f → Q (next_feed f)) → (now : ℕ) (n : Node)
    → All (λ (t : Tributary). P t.feed) n.ports → All (λ (t : Tributary). Q t.feed) (node_after now n).ports
unfolding node_round with_calm after_crossing ports_after all_fed all_delivered
feeds_next P Q to now n all = feeds_after P Q to (crossing now n) 0 0 n.ports all

-- ---- rounds and moments

rested_form : (f : ChunkForm) (c : Clock) → waiting (after_form f c) ≤ 16 → c.rest ≤ 4 → IsRested (after_form f c)
rested_form Plain c few rest = record { few = few; rest_few = omega (arith, rest) }
rested_form Short c few rest = record { few = few; rest_few = omega arith }
rested_form Long c few rest = record { few = few; rest_few = omega arith }

rested_next : (c : Clock) → IsRested c → IsRested (ticked c)
unfolding ticked
rested_next c h = rested_form (next_form c) c (next_few c 16 h.few) h.rest_few

on_with : (d : Side) (a : Arrival) (r m : ℕ) (n : Node) → IsOn r m n → IsOn r m (with_arrival d a n)
on_with West a r m n h = record { rounds_are = h.rounds_are; early = h.early; clocks = h.clocks }
on_with East a r m n h = record { rounds_are = h.rounds_are; early = h.early; clocks = h.clocks }

on_met : (west east : Arrival) (r m : ℕ) (n : Node) → IsOn r m n → IsOn r m (with_arrivals west east n)
unfolding any_round.with_arrivals
on_met west east r m n h = on_with East east r m (with_arrival West west n) (on_with West west r m n h)

pub on_next : (r m : ℕ) (n : Node) → IsOn r m n → IsOn (r + 1) m (node_after m n)
on_next r m n h = record {
  rounds_are = (round_goes_on m n).rounds ∙ ap (λ k. k + 1) h.rounds_are;
  early = let e = (round_goes_on m n).moment in omega arith;
  clocks = feeds_next (λ f. IsRested f.clock) (λ f. IsRested f.clock) (λ f was. rested_next f.clock was) m n h.clocks;
}

pub all_on_heard : (xs : List Arrival) (r m : ℕ) (ns : List Node) → All (IsOn r m) ns → All (IsOn r m) (all_with_arrivals xs ns)
all_on_heard [] r m ns all i d lt = all i d lt
all_on_heard (west ∷ []) r m ns all i d lt = all i d lt
all_on_heard (west ∷ east ∷ later) r m [] all i d lt = all i d lt
all_on_heard (west ∷ east ∷ later) r m (n ∷ ns) all zero d lt = on_met west east r m n (all 0 d (omega arith))
all_on_heard (west ∷ east ∷ later) r m (n ∷ ns) all (suc i) d lt =
    all_on_heard later r m ns (λ j e low. all (suc j) e (omega arith)) i d (omega arith)

pub all_on_next : (r m : ℕ) (ns : List Node) → All (IsOn r m) ns → All (IsOn (r + 1) m) (map (node_after m) ns)
all_on_next r m ns all = All-map (IsOn (r + 1) m) (node_after m) ns (λ i d lt. on_next r m (get_or ns i d) (all i d lt))

on_commanded : (side : Side) (c : Command) (r m : ℕ) (n : Node) → IsOn r m n → IsOn r m (at_receiving side (commanded_by c) n)
on_commanded West c r m n h = record { rounds_are = h.rounds_are; early = h.early; clocks = h.clocks }
on_commanded East c r m n h = record { rounds_are = h.rounds_are; early = h.early; clocks = h.clocks }

pub all_at_place : (P : Node → Type 0) (change : Node → Node) (p : ℕ) (ns : List Node)
    → ((n : Node) → slice_get ns p ≡ Some n → P n → P (change n)) → All P ns → All P (at_place p change ns)
all_at_place P change p [] keep all i d lt = all i d lt
all_at_place P change zero (n ∷ ns) keep all zero d lt = keep n refl (all 0 d (omega arith))
all_at_place P change zero (n ∷ ns) keep all (suc i) d lt = all (suc i) d lt
all_at_place P change (suc p) (n ∷ ns) keep all zero d lt = all zero d (omega arith)
all_at_place P change (suc p) (n ∷ ns) keep all (suc i) d lt =
    all_at_place P change p ns keep (λ j e low. all (suc j) e (omega arith)) i d (omega arith)

pub all_on_commanded : (p : ℕ) (side : Side) (c : Command) (r m : ℕ) (ns : List Node) → All (IsOn r m) ns
    → All (IsOn r m) (at_place p (at_receiving side (commanded_by c)) ns)
all_on_commanded p side c r m ns all =
    all_at_place (IsOn r m) (at_receiving side (commanded_by c)) p ns (λ n at h. on_commanded side c r m n h) all

pub all_on_held : (p turns r m : ℕ) (ns : List Node) → All (IsOn r m) ns → All (IsOn r m) (at_place p (held_for turns) ns)
all_on_held p turns r m ns all =
    all_at_place (IsOn r m) (held_for turns) p ns (λ n at h. record { rounds_are = h.rounds_are; early = h.early; clocks = h.clocks }) all

-- ---- a new ring

pub length-new : (s : Settings) (ids : List ℕ) (cs : List Provisioned) (k : ℕ) → length (new_nodes s ids cs k) ≡ k
unfolding new_nodes
length-new s ids cs k = length-cells _ k

pub new_at : (s : Settings) (ids : List ℕ) (cs : List Provisioned) (n k : ℕ) (d : Node) → k < n
    → get_or (new_nodes s ids cs n) k d ≡ new_node s ids cs (position_of k)
unfolding new_nodes
new_at s ids cs n k d h = get_or-cells _ n k d h

new_on : (s : Settings) (ids : List ℕ) (cs : List Provisioned) (p : ℕ) → IsOn 0 0 (new_node s ids cs (position_of p))
unfolding new_node tributaries_at
new_on s ids cs p = record {
  rounds_are = refl;
  early = omega arith;
  clocks =
      new_ports (λ (t : Tributary). IsRested t.feed.clock) (λ i e d m c. record { few = omega arith; rest_few = omega arith })
      (position_of p) 0 cs;
}

pub all_new : (s : Settings) (ids : List ℕ) (cs : List Provisioned) (n : ℕ) → All (IsOn 0 0) (new_nodes s ids cs n)
all_new s ids cs n =
    λ p d lt. (let low : p < n = omega (arith, length-new s ids cs n) in subst (IsOn 0 0) (sym (new_at s ids cs n p d low))
    (new_on s ids cs p))

-- ---- the node at a position

get-map : {X Y : Type 0} (f : X → Y) (xs : List X) (i : ℕ) (d : X) → get_or (map f xs) i (f d) ≡ f (get_or xs i d)
get-map f [] i d = refl
get-map f (x ∷ xs) zero d = refl
get-map f (x ∷ xs) (suc i) d = get-map f xs i d

pub length-fixed : (s : Settings) (ids : List ℕ) (cs : List Provisioned) (n : ℕ) (ns : List Node)
    → map fixed ns ≡ map fixed (new_nodes s ids cs n) → length ns ≡ n
length-fixed s ids cs n ns same =
    sym (length-map ns fixed) ∙ ap length same ∙ length-map (new_nodes s ids cs n) fixed ∙ length-new s ids cs n

-- the node at a position has the fixed part of the new node there
pub node_is : (s : Settings) (ids : List ℕ) (cs : List Provisioned) (n : ℕ) (ns : List Node) (p : ℕ) (d : Node)
    → map fixed ns ≡ map fixed (new_nodes s ids cs n) → p < n → fixed (get_or ns p d) ≡ fixed (new_node s ids cs (position_of p))
node_is s ids cs n ns p d same low =
    sym (get-map fixed ns p d) ∙ ap (λ fs. get_or fs p (fixed d)) same ∙ get-map fixed (new_nodes s ids cs n) p d
    ∙ ap fixed (new_at s ids cs n p d low)

pub settings_fixed : (m n : Node) → fixed m ≡ fixed n → m.settings ≡ n.settings
unfolding fixed
settings_fixed m n same = ap (λ (f : Fixed). f.settings) same

new_settings : (s : Settings) (ids : List ℕ) (cs : List Provisioned) (p : ℕ) → (new_node s ids cs (position_of p)).settings ≡ s
unfolding new_node
new_settings s ids cs p = refl

pub all_settings : (s : Settings) (ids : List ℕ) (cs : List Provisioned) (n : ℕ) (ns : List Node)
    → map fixed ns ≡ map fixed (new_nodes s ids cs n) → All (λ n. n.settings ≡ s) ns
all_settings s ids cs n ns same =
    λ p d lt. settings_fixed (get_or ns p d) (new_node s ids cs (position_of p))
    (node_is s ids cs n ns p d same (omega (arith, length-fixed s ids cs n ns same))) ∙ new_settings s ids cs p

-- ---- its ports

names : PortId → FixedPort → Bool
names id f = (f.port.circuit == id.circuit) && same_end f.port.end id.end

named : (id : PortId) (ts : List Tributary) → IsSome (find (is_port id) ts) → IsSome (find (names id) (map fixed_port ts))
unfolding names
named id [] h = h
named id (t ∷ ts) h = go (is_port id t) refl (named id ts)
  where
    go : (b : Bool) → is_port id t ≡ b → (IsSome (find (is_port id) ts) → IsSome (find (names id) (map fixed_port ts)))
        → IsSome (find (names id) (map fixed_port (t ∷ ts)))
    go true e rest = rw e refl
    go false e rest = let later : IsSome (find (is_port id) ts) = rw e at h in rw e (rest later)

has_named : (id : PortId) (ts : List Tributary) → IsSome (find (names id) (map fixed_port ts)) → IsSome (find (is_port id) ts)
unfolding names
has_named id [] h = h
has_named id (t ∷ ts) h = go (is_port id t) refl (has_named id ts)
  where
    go : (b : Bool) → is_port id t ≡ b → (IsSome (find (names id) (map fixed_port ts)) → IsSome (find (is_port id) ts))
        → IsSome (find (is_port id) (t ∷ ts))
    go true e rest = rw e refl
    go false e rest = let later : IsSome (find (names id) (map fixed_port ts)) = rw e at h in rw e (rest later)

pub has_fixed : (id : PortId) (m n : Node) → fixed m ≡ fixed n → HasPort n.ports id → HasPort m.ports id
unfolding fixed port_of
has_fixed id m n same h = has_named id m.ports (subst (λ (f : Fixed). IsSome (find (names id) f.ports)) (sym same) (named id n.ports h))

pub new_has : (s : Settings) (ids : List ℕ) (cs : List Provisioned) (p : ℕ) (id : PortId) → HasPort (tributaries_at (position_of p) cs) id
    → HasPort (new_node s ids cs (position_of p)).ports id
unfolding new_node
new_has s ids cs p id h = h
