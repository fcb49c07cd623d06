-- The clock of a port, round by round and change by change.
use Rattle.std.proofs.Common.{◌≡◌, ℕ, zero, suc, ◌+◌, ◌-◌, ◌<◌, ◌≤◌, Bool, true, false, List, [], ◌∷◌, length, map, Option, Some, None}
use Rattle.std.proofs.Common.{refl, ap, sym, subst, ◌∙◌, arith, inl, inr}
use Rattle.std.specs.Prelude.{◌==◌, nat_lt, if◌then◌else◌, IsSome, All, find, slice_get, option_and_then}
use Rattle.std.specs.Option.{option_map_or}
use Rattle.std.proofs.lemmas.Bool.{cases_lt, cond_both}
use Rattle.std.proofs.lemmas.Bool.Decides.{nat_tests}
use Rattle.std.proofs.lemmas.Option.{slice_get_past, slice_get-get_or}
use Rattle.std.proofs.lemmas.List.Elements.{All-nil, All-cons, All-append}
use Rattle.sdh_basics.specs.Indexed.{map_from}
use Rattle.sdh_ringmap.specs.declared.Pos.{Pos}
use Rattle.sdh_ringmap.specs.declared.Side.{Side}
use Rattle.sdh_ringmap.specs.declared.Side.TheVariants.{West, East}
use Rattle.sdh_ringmap.specs.Places.{position_of}
use Rattle.sdh_circuits.specs.declared.End.{End}
use Rattle.sdh_circuits.specs.declared.End.TheVariants.{A, B}
use Rattle.sdh_circuits.specs.declared.PortId.{PortId}
use Rattle.sdh_circuits.specs.Provisioned.{Provisioned, end_of, customer_at, same_port}
use Rattle.sdh_circuits.specs.Provisioning.{Provisioning}
use Rattle.sdh_payload.specs.declared.clock.Turn.{Turn}
use Rattle.sdh_payload.specs.declared.clock.Turn.TheVariants.{Up, Down}
use Rattle.sdh_payload.specs.Clock.{Clock, new_clock, waiting, with_waiting, ticked, ticks}
use Rattle.sdh_payload.proofs.Clocking.{slips_run_out}
use Rattle.sdh_plant.specs.Fibres.{Arrival}
use Rattle.sdh_request.specs.declared.settings.Settings.{Settings}
use Rattle.sdh_terminal.specs.Tributaries.{Tributary, new_tributary, tributaries_of, tributaries_from, tributaries_at, is_port, port_of}
use Rattle.sdh_terminal.specs.Tributaries.{slipped, with_slips, fed, all_fed}
use Rattle.sdh_node.specs.Crossing.{Cross, delivered_to, all_delivered}
use Rattle.sdh_node.specs.Node.{Node, new_node, at_receiving, held_for, slips_at, crossing, ports_after, after_crossing, with_calm}
use Rattle.sdh_node.specs.Node.{node_round}
use Rattle.sdh_node.specs.Receiving.{commanded_by}
use Rattle.sdh_node.specs.Rings.Held.{HeldRing, new_nodes, new_ring, at_place, place_of_port}
use Rattle.sdh_node.specs.Rings.Rounds.{World, with_arrivals, all_with_arrivals, node_after, nodes_with, round_with, arrivals_of}
use Rattle.sdh_node.specs.Rings.Runs.{run, run_with}
use Rattle.sdh_restoration.specs.Changes.{Change, Fibre, Order, Hold, Slip, Now, Stretch, rounds_in}
use Rattle.sdh_node.specs.Rings.Changes.{changed, all_changed, after_stretch, after_stretches}
use Rattle.sdh_node.specs.Rings.Sides.{world_in}
use Rattle.sdh_node.specs.Rings.Clocks.{first_clock, clock_after, clock_changed, clock_in, HasPortIn, clock_at, waiting_at}
use Rattle.sdh_node.specs.Rings.Laws.{ClocksGoOn}
use Rattle.sdh_node.specs.Rings.Fixed.{IsRested, IsOn}
use Rattle.sdh_node.proofs.RingLaws.Keeping.{length-new, new_at, all_at_place}
use Rattle.sdh_node.proofs.RingLaws.Histories.{length-placed}
use Rattle.sdh_rounds.proofs.Runs.{count_round}
use Rattle.sdh_node.specs.Stations.{adm}
use Rattle.sdh_rounds.specs.Rounds as any_round
use Rattle.sdh_rounds.specs.Runs as any_run
use Rattle.sdh_terminal.proofs.Found.{find_head, find_tail, found_has}
use Rattle.sdh_terminal.proofs.Slips.{names_equal}

-- ---- names

-- ---- a clock that goes on

-- the clock of a port, if it was found
abbrev pub clock_of : Option Tributary → Clock
clock_of o = option_map_or (λ t. t.feed.clock) o (new_clock 0)

-- a port that was found is found again, and its clock has changed like this
abbrev pub Follows : (Clock → Clock) → Option Tributary → Option Tributary → Type 0
Follows f before after = IsSome before → IsSome after × (clock_of after ≡ f (clock_of before))

follows_same : (o : Option Tributary) → Follows (λ c. c) o o
follows_same o = λ there. (there, refl)

-- a port is found among changed ports too, where the change keeps all names
follows_mapped : (id : PortId) (f : Clock → Clock) (g : ℕ → Tributary → Tributary)
    → ((k : ℕ) (t : Tributary) → is_port id (g k t) ≡ is_port id t) → ((k : ℕ) (t : Tributary) → (g k t).feed.clock ≡ f t.feed.clock)
    → (i : ℕ) (ts : List Tributary) → Follows f (find (is_port id) ts) (find (is_port id) (map_from g i ts))
follows_mapped id f g same is i [] = λ there. absurd (cc)
follows_mapped id f g same is i (t ∷ ts) = by (is_port id t) refl (follows_mapped id f g same is (i + 1) ts)
  where
    by : (b : Bool) → is_port id t ≡ b → Follows f (find (is_port id) ts) (find (is_port id) (map_from g (i + 1) ts))
        → Follows f (find (is_port id) (t ∷ ts)) (find (is_port id) (map_from g i (t ∷ ts)))
    by true e rest = let here : is_port id (g i t) ≡ true = same i t ∙ e in rw (here, e) (λ there. (refl, is i t))
    by false e rest = let here : is_port id (g i t) ≡ false = same i t ∙ e in rw (here, e) rest

-- ---- a node

abbrev pub NodeFollows : PortId → (Clock → Clock) → Node → Node → Type 0
NodeFollows id f n m = Follows f (port_of id n.ports) (port_of id m.ports)

ports_next : (id : PortId) (x : Cross) (ports : List Tributary) → Follows ticked (port_of id ports) (port_of id (ports_after x ports))
unfolding port_of ports_after all_fed all_delivered
ports_next id x ports = λ there.
    let delivered = follows_mapped id (λ c. c) (λ i t. delivered_to x t) (λ k t. refl) (λ k t. refl) 0 ports there in
    let given =
    follows_mapped id ticked (λ i t. fed t) (λ k t. refl) (λ k t. refl) 0 (map_from (λ i t. delivered_to x t) 0 ports) delivered.0 in
    (given.0, given.1 ∙ ap ticked delivered.1)

pub node_next : (id : PortId) (now : ℕ) (n : Node) → NodeFollows id ticked n (node_after now n)
unfolding node_round with_calm after_crossing
node_next id now n = ports_next id (crossing now n) n.ports

node_met : (id : PortId) (west east : Arrival) (n : Node) → NodeFollows id (λ c. c) n (with_arrivals west east n)
unfolding any_round.with_arrivals
node_met id west east n = follows_same (port_of id n.ports)

-- slips at a port change the port's clock
ports_slipped : (id : PortId) (turn : Turn) (count : ℕ) (ts : List Tributary)
    → Follows (with_waiting turn count) (port_of id ts) (port_of id (with_slips id turn count ts))
unfolding port_of with_slips
ports_slipped id turn count [] = λ there. absurd (cc)
ports_slipped id turn count (t ∷ ts) = by (is_port id t) refl (ports_slipped id turn count ts)
  where
    by : (b : Bool) → is_port id t ≡ b → Follows (with_waiting turn count) (find (is_port id) ts)
        (find (is_port id) (with_slips id turn count ts))
        → Follows (with_waiting turn count) (find (is_port id) (t ∷ ts))
        (find (is_port id) (if b then slipped turn count t ∷ ts else t ∷ with_slips id turn count ts))
    by true e rest = rw e (λ there. (refl, refl))
    by false e rest = rw e rest

-- slips of another port leave the port's clock
ports_apart : (id other : PortId) (turn : Turn) (count : ℕ) (ts : List Tributary) → same_port id other ≡ false
    → Follows (λ c. c) (port_of id ts) (port_of id (with_slips other turn count ts))
unfolding port_of with_slips
ports_apart id other turn count [] apart = λ there. absurd (cc)
ports_apart id other turn count (t ∷ ts) apart = by (is_port id t) refl (is_port other t) refl (ports_apart id other turn count ts apart)
  where
    both : is_port id t ≡ true → is_port other t ≡ true → ⊥
    both h k = let same : same_port id other ≡ true =
        subst (λ p. same_port p other ≡ true) (names_equal t.port id h) k in clash (sym apart ∙ same)
      where
        clash : false ≡ true → ⊥
        clash e = cc

    by : (b : Bool) → is_port id t ≡ b → (c : Bool) → is_port other t ≡ c
        → Follows (λ c. c) (find (is_port id) ts) (find (is_port id) (with_slips other turn count ts))
        → Follows (λ c. c) (find (is_port id) (t ∷ ts)) (find (is_port id)
        (if c then slipped turn count t ∷ ts else t ∷ with_slips other turn count ts))
    by true e true f rest = absurd (both e f)
    by true e false f rest = rw e (λ there. (refl, refl))
    by false e true f rest = rw e (follows_same (find (is_port id) ts))
    by false e false f rest = rw e rest

-- ---- after slips

-- what is true of all ports stays true after slips, if it stays true of the port that gets them
pub slips_keep : (P : Tributary → Type 0) (id : PortId) (turn : Turn) (count : ℕ) (ts : List Tributary)
    → ((t : Tributary) → port_of id ts ≡ Some t → P t → P (slipped turn count t)) → All P ts → All P (with_slips id turn count ts)
unfolding port_of with_slips
slips_keep P id turn count [] keep all = all
slips_keep P id turn count (t ∷ ts) keep all = by (is_port id t) refl (slips_keep P id turn count ts)
  where
    rest : All P ts
    rest = λ i d lt. all (suc i) d (omega arith)

    here : P t
    here = all 0 t (omega arith)

    by : (b : Bool) → is_port id t ≡ b → (((u : Tributary) → find (is_port id) ts ≡ Some u → P u → P (slipped turn count u)) → All P ts
        → All P (with_slips id turn count ts))
        → All P (if b then slipped turn count t ∷ ts else t ∷ with_slips id turn count ts)
    by true e later = All-cons P (slipped turn count t) ts (keep t (find_head id t ts e) here) rest
    by false e later = All-cons P t (with_slips id turn count ts) here (later (λ u found. keep u (find_tail id t ts e ∙ found)) rest)

pub few_waits : (turn : Turn) (count : ℕ) (c : Clock) → waiting c + count ≤ 16 → waiting (with_waiting turn count c) ≤ 16
few_waits Up count c h = omega (arith, h)
few_waits Down count c h = omega (arith, h)

-- ---- all nodes

abbrev port_at : PortId → List Node → ℕ → Option Tributary
port_at id ns p = option_and_then (λ n. port_of id n.ports) (slice_get ns p)

nodes_next : (id : PortId) (now : ℕ) (ns : List Node) (p : ℕ) → Follows ticked (port_at id ns p) (port_at id (map (node_after now) ns) p)
nodes_next id now [] p = λ there. absurd (cc)
nodes_next id now (n ∷ ns) zero = node_next id now n
nodes_next id now (n ∷ ns) (suc p) = nodes_next id now ns p

nodes_met : (id : PortId) (arrivals : List Arrival) (ns : List Node) (p : ℕ)
    → Follows (λ c. c) (port_at id ns p) (port_at id (all_with_arrivals arrivals ns) p)
nodes_met id [] ns p = follows_same (port_at id ns p)
nodes_met id (west ∷ []) ns p = follows_same (port_at id ns p)
nodes_met id (west ∷ east ∷ later) [] p = follows_same (port_at id [] p)
nodes_met id (west ∷ east ∷ later) (n ∷ ns) zero = node_met id west east n
nodes_met id (west ∷ east ∷ later) (n ∷ ns) (suc p) = nodes_met id later ns p

-- a change of one node that leaves the clock, wherever the port is
placed_apart : (id : PortId) (change : Node → Node) → ((n : Node) → NodeFollows id (λ c. c) n (change n)) → (q : ℕ) (ns : List Node) (p : ℕ)
    → Follows (λ c. c) (port_at id ns p) (port_at id (at_place q change ns) p)
placed_apart id change keep q [] p = follows_same (port_at id [] p)
placed_apart id change keep zero (n ∷ ns) zero = keep n
placed_apart id change keep zero (n ∷ ns) (suc p) = follows_same (port_at id ns p)
placed_apart id change keep (suc q) (n ∷ ns) zero = follows_same (port_of id n.ports)
placed_apart id change keep (suc q) (n ∷ ns) (suc p) = placed_apart id change keep q ns p

-- a change at the port's own node changes the port's clock by f
placed_there : (id : PortId) (f : Clock → Clock) (change : Node → Node) → ((n : Node) → NodeFollows id f n (change n))
    → (p : ℕ) (ns : List Node) → Follows f (port_at id ns p) (port_at id (at_place p change ns) p)
placed_there id f change keep p [] = λ there. absurd (cc)
placed_there id f change keep zero (n ∷ ns) = keep n
placed_there id f change keep (suc p) (n ∷ ns) = placed_there id f change keep p ns

-- the slips that wait at a port are those at the one that is found at its node
pub waiting_found : (r : HeldRing) (id : PortId) (n : Node) (t : Tributary) → slice_get r.nodes (place_of_port r id) ≡ Some n
    → port_of id n.ports ≡ Some t → waiting_at r id ≡ waiting t.feed.clock
unfolding clock_at
waiting_found r id n t node port =
    ap (λ o. waiting (option_map_or (λ (u : Tributary). u.feed.clock) (option_and_then (λ (m : Node). port_of id m.ports) o)
    (new_clock 0))) node
    ∙ ap (λ o. waiting (option_map_or (λ (u : Tributary). u.feed.clock) o (new_clock 0))) port

rest_waits : (turn : Turn) (count : ℕ) (c : Clock) → (with_waiting turn count c).rest ≡ c.rest
rest_waits Up count c = refl
rest_waits Down count c = refl

-- after slips the nodes of a ring have run as many rounds, and the clocks of their ports are still rested
pub all_on_slipped : (r : HeldRing) (id : PortId) (turn : Turn) (count rounds moment : ℕ) → waiting_at r id + count ≤ 16
    → All (IsOn rounds moment) r.nodes → All (IsOn rounds moment) (at_place (place_of_port r id) (slips_at id turn count) r.nodes)
all_on_slipped r id turn count rounds moment most =
    all_at_place (IsOn rounds moment) (slips_at id turn count) (place_of_port r id) r.nodes
    (λ n at h. record {
      rounds_are = h.rounds_are;
      early = h.early;
      clocks = slips_keep (λ (t : Tributary). IsRested t.feed.clock) id turn count n.ports
          (λ t found was. record {
            few = few_waits turn count t.feed.clock (omega (arith, most, waiting_found r id n t at found));
            rest_few = omega (arith, was.rest_few, rest_waits turn count t.feed.clock);
          }) h.clocks;
    })

-- ---- a ring

-- the port stays in the ring, and its clock has changed like this
abbrev pub Goes : PortId → (Clock → Clock) → World → World → Type 0
Goes id f w v = HasPortIn w.ring id → HasPortIn v.ring id × (clock_at v.ring id ≡ f (clock_at w.ring id))

goes_at : (id : PortId) (f : Clock → Clock) (w v : World) → place_of_port v.ring id ≡ place_of_port w.ring id
    → Follows f (port_at id w.ring.nodes (place_of_port w.ring id)) (port_at id v.ring.nodes (place_of_port w.ring id)) → Goes id f w v
unfolding clock_at
goes_at id f w v same follows =
    subst (λ p. Follows f (port_at id w.ring.nodes (place_of_port w.ring id)) (port_at id v.ring.nodes p)) (sym same) follows

place_round : (id : PortId) (xs : List Arrival) (w : World) → place_of_port (round_with xs w).ring id ≡ place_of_port w.ring id
unfolding place_of_port any_round.round_with
place_round id xs w =
    ap (λ k. option_map_or (λ (c : Provisioned). (end_of c id.end).0) (slice_get w.ring.circuits.circuits id.circuit) k)
    (count_round adm xs w)

follows_round : (id : PortId) (xs : List Arrival) (w : World) (p : ℕ)
    → Follows ticked (port_at id w.ring.nodes p) (port_at id (round_with xs w).ring.nodes p)
unfolding any_round.round_with
follows_round id xs w p = λ there.
    let met = nodes_met id xs w.ring.nodes p there in
    let next = nodes_next id w.ring.moment (nodes_with xs w) p met.0 in
    (next.0, next.1 ∙ ap ticked met.1)

-- a round, whatever arrives in it
pub goes_round : (id : PortId) (xs : List Arrival) (w : World) → Goes id ticked w (round_with xs w)
goes_round id xs w = goes_at id ticked w (round_with xs w) (place_round id xs w) (follows_round id xs w (place_of_port w.ring id))

place_placed : (id : PortId) (change : Node → Node) (q : ℕ) (r : HeldRing)
    → place_of_port (record r { nodes = at_place q change r.nodes }) id ≡ place_of_port r id
unfolding place_of_port
place_placed id change q r =
    ap (λ k. option_map_or (λ (c : Provisioned). (end_of c id.end).0) (slice_get r.circuits.circuits id.circuit) k)
    (length-placed change q r.nodes)

goes_slipped : (id other : PortId) (turn : Turn) (count : ℕ) (w : World) (b : Bool) → same_port id other ≡ b
    → Goes id (λ c. if b then with_waiting turn count c else c) w (changed (Slip other turn count) w)
unfolding changed
goes_slipped id other turn count w true e =
    let v = record w { ring = record w.ring { nodes = at_place (place_of_port w.ring other) (slips_at other turn count) w.ring.nodes } } in
    let f = with_waiting turn count in
    let p = place_of_port w.ring id in
    goes_at id f w v (place_placed id (slips_at other turn count) (place_of_port w.ring other) w.ring)
    (subst (λ o. Follows f (port_at id w.ring.nodes p) (port_at id
    (at_place (place_of_port w.ring o) (slips_at o turn count) w.ring.nodes) p)) (names_equal id other e)
    (placed_there id f (slips_at id turn count) (λ n. ports_slipped id turn count n.ports) p w.ring.nodes))
goes_slipped id other turn count w false e =
    let v = record w { ring = record w.ring { nodes = at_place (place_of_port w.ring other) (slips_at other turn count) w.ring.nodes } } in
    goes_at id (λ c. c) w v (place_placed id (slips_at other turn count) (place_of_port w.ring other) w.ring)
    (placed_apart id (slips_at other turn count) (λ n. ports_apart id other turn count n.ports e) (place_of_port w.ring other) w.ring.nodes
    (place_of_port w.ring id))

goes_now : (id : PortId) (t : ℕ) (w : World) → Goes id (λ c. c) w (record w { ring = record w.ring { moment = t } })
unfolding clock_at place_of_port
goes_now id t w = λ there. (there, refl)

-- a change
pub goes_changed : (id : PortId) (c : Change) (w : World) → Goes id (clock_after id c) w (changed c w)
unfolding changed
goes_changed id (Fibre q e condition) w = λ there. (there, refl)
goes_changed id (Order q e c) w =
    goes_at id (λ c. c) w (record w { ring = record w.ring { nodes = at_place q (at_receiving e (commanded_by c)) w.ring.nodes } })
    (place_placed id (at_receiving e (commanded_by c)) q w.ring)
    (placed_apart id (at_receiving e (commanded_by c)) (λ n. follows_same (port_of id n.ports)) q w.ring.nodes (place_of_port w.ring id))
goes_changed id (Hold q turns) w =
    goes_at id (λ c. c) w (record w { ring = record w.ring { nodes = at_place q (held_for turns) w.ring.nodes } })
    (place_placed id (held_for turns) q w.ring)
    (placed_apart id (held_for turns) (λ n. follows_same (port_of id n.ports)) q w.ring.nodes (place_of_port w.ring id))
goes_changed id (Slip other turn count) w = goes_slipped id other turn count w (same_port id other) refl
goes_changed id (Now t) w = goes_now id t w

-- ---- changes and rounds one after the other

goes_twice : (id : PortId) (f g : Clock → Clock) (u v w : World) → Goes id f u v → Goes id g v w → Goes id (λ c. g (f c)) u w
goes_twice id f g u v w first second = λ there.
    let one = first there in
    let two = second one.0 in
    (two.0, two.1 ∙ ap g one.1)

ticks_first : (k : ℕ) (c : Clock) → ticks k (ticked c) ≡ ticks (suc k) c
unfolding ticks
ticks_first zero c = refl
ticks_first (suc k) c = ap ticked (ticks_first k c)

pub goes_rounds : (id : PortId) (rounds : List (List Arrival)) (w : World) → Goes id (ticks (length rounds)) w (run_with rounds w)
unfolding ticks
goes_rounds id [] w = λ there. (there, refl)
goes_rounds id (xs ∷ rounds) w = λ there.
    let all =
    goes_twice id ticked (ticks (length rounds)) w (round_with xs w) (run_with rounds (round_with xs w)) (goes_round id xs w)
    (goes_rounds id rounds (round_with xs w)) there in
    (all.0, all.1 ∙ ticks_first (length rounds) (clock_at w.ring id))

pub goes_run : (id : PortId) (k : ℕ) (w : World) → Goes id (ticks k) w (run k w)
unfolding any_run.run any_round.round ticks
goes_run id zero w = λ there. (there, refl)
goes_run id (suc k) w =
    goes_twice id (ticks k) ticked w (run k w) (round_with (arrivals_of (run k w)) (run k w)) (goes_run id k w)
    (goes_round id (arrivals_of (run k w)) (run k w))

pub goes_changes : (id : PortId) (cs : List Change) (w : World) → Goes id (clock_changed id cs) w (all_changed cs w)
goes_changes id [] w = λ there. (there, refl)
goes_changes id (c ∷ cs) w =
    goes_twice id (clock_after id c) (clock_changed id cs) w (changed c w) (all_changed cs (changed c w)) (goes_changed id c w)
    (goes_changes id cs (changed c w))

-- a port's clock after the changes of a stretch and t rounds
abbrev part_in : PortId → Stretch → ℕ → Clock → Clock
part_in id s t c = ticks t (clock_changed id s.changes c)

goes_part : (id : PortId) (s : Stretch) (t : ℕ) (w : World) → Goes id (part_in id s t) w (run t (all_changed s.changes w))
goes_part id s t w =
    goes_twice id (clock_changed id s.changes) (ticks t) w (all_changed s.changes w) (run t (all_changed s.changes w))
    (goes_changes id s.changes w) (goes_run id t (all_changed s.changes w))

-- the clock before round t of the stretches
pub goes_in : (id : PortId) (ss : List Stretch) (t : ℕ) (w : World) → t < rounds_in ss
    → Goes id (λ c. clock_in id ss c t) w (world_in ss w t)
goes_in id [] t w low = absurd (omega arith)
goes_in id (s ∷ ss) t w low = elim (cases_lt t s.rounds) [
  | inl here ↦ (let b : nat_lt t s.rounds ≡ true = grind (arith, nat_tests) in rw b (goes_part id s t w))
  | inr later ↦ (
      let b : nat_lt t s.rounds ≡ false = grind (arith, nat_tests) in
      let rest = goes_in id ss (t - s.rounds) (after_stretch s w) (omega arith) in
      rw b (goes_twice id (part_in id s s.rounds) (λ c. clock_in id ss c (t - s.rounds)) w (after_stretch s w)
      (world_in ss (after_stretch s w) (t - s.rounds)) (goes_part id s s.rounds w) rest))
]

-- the clock after the last stretch
pub goes_behind : (id : PortId) (ss : List Stretch) (w : World) → Goes id (λ c. clock_in id ss c (rounds_in ss)) w (after_stretches ss w)
unfolding ticks
goes_behind id [] w = λ there. (there, refl)
goes_behind id (s ∷ ss) w =
    let b : nat_lt (s.rounds + rounds_in ss) s.rounds ≡ false = grind (arith, nat_tests) in
    let left : s.rounds + rounds_in ss - s.rounds ≡ rounds_in ss = omega arith in
    rw b (subst (λ t. Goes id (λ c. clock_in id ss (part_in id s s.rounds c) t) w (after_stretches ss (after_stretch s w))) (sym left)
    (goes_twice id (part_in id s s.rounds) (λ c. clock_in id ss c (rounds_in ss)) w (after_stretch s w)
    (after_stretches ss (after_stretch s w)) (goes_part id s s.rounds w) (goes_behind id ss (after_stretch s w))))

-- ---- a new ring

-- a port whose clock is the first one of the port with its name among these circuits
abbrev IsFirst : List Provisioned → Tributary → Type 0
IsFirst circuits t = t.feed.clock ≡ first_clock circuits t.port

first_new : (all : List Provisioned) (i : ℕ) (c : Provisioned) (e : End) (side : Side) → slice_get all i ≡ Some c
    → IsFirst all (new_tributary i e side c.slot (customer_at c e))
unfolding first_clock
first_new all i c e side here = ap (λ o. new_clock (option_map_or (λ (x : Provisioned). (customer_at x e).offset) o 0)) (sym here)

first_ends : (at : Pos) (i : ℕ) (all circuits : List Provisioned) → ((j : ℕ) → slice_get all (i + j) ≡ slice_get circuits j)
    → All (IsFirst all) (tributaries_from at i circuits)
first_ends at i all [] same = All-nil (IsFirst all)
first_ends at i all (c ∷ cs) same =
    let p = IsFirst all in
    let here : slice_get all i ≡ Some c = ap (slice_get all) (let e : i ≡ i + 0 = omega arith in e) ∙ same 0 in
    let a = new_tributary i A East c.slot c.a in
    let b = new_tributary i B West c.slot c.b in
    All-append p (tributaries_of at i c) (tributaries_from at (i + 1) cs)
    (All-append p (if c.from.0 == at.0 then a ∷ [] else []) (if c.to.0 == at.0 then b ∷ [] else [])
    (cond_both (c.from.0 == at.0) (a ∷ []) [] (All p) (λ _. All-cons p a [] (first_new all i c A East here) (All-nil p)) (λ _. All-nil p))
    (cond_both (c.to.0 == at.0) (b ∷ []) [] (All p) (λ _. All-cons p b [] (first_new all i c B West here) (All-nil p)) (λ _. All-nil p)))
    (first_ends at (i + 1) all cs (λ j. ap (slice_get all) (let e : i + 1 + j ≡ i + suc j = omega arith in e) ∙ same (suc j)))

first_of : (circuits : List Provisioned) (id : PortId) (ts : List Tributary) (o : Option Tributary) → All (IsFirst circuits) ts
    → port_of id ts ≡ o → IsSome o → clock_of o ≡ first_clock circuits id
first_of circuits id ts None all is there = absurd (cc)
first_of circuits id ts (Some t) all is there = let has =
    found_has (IsFirst circuits) id ts t all is in has.0 ∙ ap (first_clock circuits) (names_equal t.port id has.1)

first_at : (s : Settings) (ids : List ℕ) (circuits : List Provisioned) (id : PortId) (p : ℕ) (o : Option Tributary)
    → port_of id (new_node s ids circuits (position_of p)).ports ≡ o → IsSome o → clock_of o ≡ first_clock circuits id
unfolding new_node tributaries_at
first_at s ids circuits id p o is there =
    first_of circuits id (tributaries_from (position_of p) 0 circuits) o
    (first_ends (position_of p) 0 circuits circuits (λ j. ap (slice_get circuits) (let e : 0 + j ≡ j = omega arith in e))) is there

first_found : (s : Settings) (ids : List ℕ) (circuits : List Provisioned) (id : PortId) (p : ℕ)
    → IsSome (port_at id (new_nodes s ids circuits (length ids)) p)
    → clock_of (port_at id (new_nodes s ids circuits (length ids)) p) ≡ first_clock circuits id
first_found s ids circuits id p there =
    let ns = new_nodes s ids circuits (length ids) in
    let size = length-new s ids circuits (length ids) in
    let one = new_node s ids circuits (position_of p) in
    let find_in = λ (o : Option Node). option_and_then (λ (n : Node). port_of id n.ports) o in
    elim (cases_lt p (length ids)) [
      | inl low ↦ (
          let is : slice_get ns p ≡ Some one =
          slice_get-get_or ns p one (omega arith) ∙ ap Some (new_at s ids circuits (length ids) p one low) in
          ap (λ o. clock_of (find_in o)) is ∙ first_at s ids circuits id p (port_of id one.ports) refl
          (subst (λ o. IsSome (find_in o)) is there))
      | inr past ↦ (
          let none : slice_get ns p ≡ None = slice_get_past ns p (omega arith) in
          let never : IsSome (find_in None) = subst (λ o. IsSome (find_in o)) none there in
          absurd (cc))
    ]

starts_first : (s : Settings) (ids : List ℕ) (circuits : Provisioning) (id : PortId) → HasPortIn (new_ring s ids circuits) id
    → clock_at (new_ring s ids circuits) id ≡ first_clock circuits.circuits id
unfolding clock_at
starts_first s ids circuits id there = first_found s ids circuits.circuits id (place_of_port (new_ring s ids circuits) id) there

run_out : (rounds : List (List Arrival)) (w : World) (id : PortId) → HasPortIn w.ring id → (clock_at w.ring id).rest ≤ 4
    → waiting_at w.ring id ≤ 16 → 68 ≤ length rounds → waiting_at (run_with rounds w).ring id ≡ 0
run_out rounds w id there rest few long =
    ap (λ (c : Clock). waiting c) (goes_rounds id rounds w there).1 ∙ slips_run_out (clock_at w.ring id) (length rounds) rest few long

pub clocks_go_on : ClocksGoOn
clocks_go_on = record {
  new = starts_first;
  round = λ arrivals w port there. goes_round port arrivals w there;
  change = λ c w port there. goes_changed port c w there;
  history = λ ss w port t there low. (goes_in port ss t w low there).1;
  behind = λ ss w port there. (goes_behind port ss w there).1;
  run_out = run_out;
}
