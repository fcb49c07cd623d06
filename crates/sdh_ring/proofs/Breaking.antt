-- The clocks of ports after a fault.
use Rattle.std.proofs.Common.{◌≡◌, ℕ, zero, suc, ◌+◌, ◌-◌, ◌<◌, Bool, true, false, List, [], ◌∷◌, length, map, Option, Some, None}
use Rattle.std.proofs.Common.{refl, ap, sym, subst, ◌∙◌, arith, inl, inr}
use Rattle.std.specs.Prelude.{nat_lt, if◌then◌else◌, IsSome, slice_get, option_and_then, option_map}
use Rattle.std.specs.Option.{option_map_or}
use Rattle.std.proofs.lemmas.Bool.{cases_lt}
use Rattle.std.proofs.lemmas.Bool.Decides.{nat_tests}
use Rattle.std.proofs.lemmas.Option.{slice_get-map}
use Rattle.sdh_ringmap.specs.declared.Side.{Side}
use Rattle.sdh_ringmap.specs.declared.Side.TheVariants.{West, East}
use Rattle.sdh_circuits.specs.declared.PortId.{PortId}
use Rattle.sdh_circuits.specs.Provisioned.{Provisioned, end_of}
use Rattle.sdh_payload.specs.Clock.{Clock, ticks}
use Rattle.sdh_plant.specs.Fibres.{Arrival}
use Rattle.sdh_terminal.specs.Tributaries.{Tributary, port_of}
use Rattle.sdh_node.specs.Node.{Node}
use Rattle.sdh_node.specs.Rings.Held.{HeldRing, place_of_port}
use Rattle.sdh_node.specs.Rings.Clocks.{HasPortIn, clock_at, clocks_from}
use Rattle.sdh_node.specs.Rings.Rounds.{World}
use Rattle.sdh_node.specs.Rings.Runs.{ArriveIn, run_with, course_with}
use Rattle.sdh_node.specs.Rings.Quiet.{NeverSettles}
use Rattle.sdh_rounds.proofs.Runs.{held_run}
use Rattle.sdh_rounds.proofs.Laws.{runs_keep}
use Rattle.sdh_node.proofs.RingLaws.Clocks.{clock_of, Follows, node_next, goes_rounds}
use Rattle.sdh_rounds.specs.Calls.{told_some, first_after}
use Rattle.sdh_rounds.specs.Faults as breaking
use Rattle.sdh_rounds.specs.Faults.{had_round}
use Rattle.sdh_rounds.proofs.Rings.{some_keep}
use Rattle.sdh_rounds.proofs.Keeping.{keeps_broken}
use Rattle.sdh_ring.specs.Faults.{ClocksWentOn, BreaksRound, BreaksStep}
use Rattle.sdh_ring.proofs.Nodes.{length_fixed}
use Rattle.sdh_node.specs.Rings.Fixed.{fixed}
use Rattle.sdh_node.proofs.RingLaws.Keeping.{fixed_with, fixed_next}
use Rattle.sdh_node.specs.Stations.{adm}

-- ---- the ports of circuits at a node, with their clocks: no receive changes them

abbrev pub ports_of : Node → List Tributary
ports_of n = n.ports

told_ports : (d : Side) (a : Arrival) (n : Node) → ports_of (adm.told d a n) ≡ ports_of n
told_ports West a n = refl
told_ports East a n = refl

-- ---- a port, node by node

-- the port of this name at the node at p, if there is one
abbrev port_at : PortId → List Node → ℕ → Option Tributary
port_at id ns p = option_and_then (λ (n : Node). port_of id n.ports) (slice_get ns p)

found_among : (id : PortId) (ns : List Node) (p : ℕ) → port_at id ns p ≡ option_and_then (port_of id) (slice_get (map ports_of ns) p)
found_among id ns p = by (slice_get ns p) ∙ sym (ap (option_and_then (port_of id)) (slice_get-map ports_of ns p))
  where
    by : (o : Option Node) → option_and_then (λ (n : Node). port_of id n.ports) o ≡ option_and_then (port_of id) (option_map ports_of o)
    by None = refl
    by (Some n) = refl

-- a port is found as before where no node's ports have changed
found_same : (id : PortId) (ns ms : List Node) (p : ℕ) → map ports_of ms ≡ map ports_of ns → port_at id ns p ≡ port_at id ms p
found_same id ns ms p same =
    found_among id ns p ∙ ap (λ l. option_and_then (port_of id) (slice_get l p)) (sym same) ∙ sym (found_among id ms p)

-- the port's clock has gone on by one round, if the port's node is one of the first k
abbrev Goes : PortId → ℕ → List Node → List Node → ℕ → Type 0
Goes id k ns ms p = Follows (ticks (if nat_lt p k then 0 + 1 else 0)) (port_at id ns p) (port_at id ms p)

less_suc : (p k : ℕ) → nat_lt (suc p) (suc k) ≡ nat_lt p k
less_suc p k = elim (cases_lt p k) [
  | inl low ↦ (let a : nat_lt (suc p) (suc k) ≡ true = grind (arith, nat_tests) in let b : nat_lt p k ≡ true = grind (arith, nat_tests) in a
      ∙ sym b)
  | inr high ↦ (let a : nat_lt (suc p) (suc k) ≡ false = grind (arith, nat_tests) in let b : nat_lt p k
      ≡ false = grind (arith, nat_tests) in a ∙ sym b)
]

goes_none : (id : PortId) (ns : List Node) (p : ℕ) → Goes id 0 ns ns p
unfolding ticks
goes_none id ns p = let e : nat_lt p 0 ≡ false = grind (arith, nat_tests) in rw e (λ there. (there, refl))

goes_first : (id : PortId) (now k : ℕ) (ns : List Node) (p : ℕ) → Goes id k ns (first_after adm now k ns) p
unfolding ticks
goes_first id now k [] p = λ there. absurd (cc)
goes_first id now zero (n ∷ ns) p = goes_none id (n ∷ ns) p
goes_first id now (suc k) (n ∷ ns) zero = let e : nat_lt 0 (suc k) ≡ true = grind (arith, nat_tests) in rw e (node_next id now n)
goes_first id now (suc k) (n ∷ ns) (suc p) = let e : nat_lt (suc p) (suc k) ≡ nat_lt p k = less_suc p k in rw e (goes_first id now k ns p)

-- ---- a round

went_on : (r : HeldRing) (ns : List Node) (b : Bool) (k : ℕ) → length ns ≡ length r.nodes → ((id : PortId) (p : ℕ) → Goes id k r.nodes ns p)
    → ClocksWentOn 0 k r (record r { nodes = ns; broken = b })
unfolding clock_at place_of_port
went_on r ns b k size goes = λ port there.
    let p = place_of_port r port in
    let place : place_of_port (record r { nodes = ns; broken = b }) port ≡ p =
    ap (λ n. option_map_or (λ (c : Provisioned). (end_of c port.end).0) (slice_get r.circuits.circuits port.circuit) n) size in
    subst (λ q. IsSome (port_at port ns q) × (clock_of (port_at port ns q) ≡ ticks (if nat_lt p k then 0 + 1 else 0) (clock_at r port)))
    (sym place) (goes port p there)

-- what a round that a fault broke off leaves of the clocks
pub breaks_clocks : (w left : World) → breaking.BreaksRound adm w left → BreaksRound w left
breaks_clocks w left b =
    let r = w.ring in
    let k = had_round b.off in
    let heard = told_some adm b.told r.nodes in
    let same : map ports_of heard ≡ map ports_of r.nodes = some_keep adm ports_of told_ports b.told r.nodes in
    record {
      off = b.off;
      ring = b.ring;
      clocks = subst (ClocksWentOn 0 k r) (sym b.ring)
          (went_on r left.ring.nodes true k (length_fixed r.nodes left.ring.nodes (keeps_broken adm fixed fixed_with fixed_next w left b))
          (λ id p. subst (λ ms. Goes id k r.nodes ms p) (sym b.nodes)
          (subst (λ o. Follows (ticks (if nat_lt p k then 0 + 1 else 0)) o (port_at id (first_after adm r.moment k heard) p))
          (sym (found_same id r.nodes heard p same)) (goes_first id r.moment k heard p))));
    }

-- ---- a step

ticks_more : (b : Bool) (t : ℕ) (c : Clock) → ticks (if b then 0 + 1 else 0) (ticks t c) ≡ ticks (if b then t + 1 else t) c
unfolding ticks
ticks_more true t c = ap (λ n. ticks n c) (let e : suc t ≡ t + 1 = omega arith in e)
ticks_more false t c = refl

place_run : (rounds : List (List Arrival)) (w : World) (port : PortId)
    → place_of_port (run_with rounds w).ring port ≡ place_of_port w.ring port
unfolding place_of_port
place_run rounds w port =
    ap (λ (r : HeldRing). option_map_or (λ (c : Provisioned). (end_of c port.end).0) (slice_get r.circuits.circuits port.circuit)
    (length (run_with rounds w).ring.nodes)) (held_run adm rounds w)
    ∙ ap (λ n. option_map_or (λ (c : Provisioned). (end_of c port.end).0) (slice_get w.ring.circuits.circuits port.circuit) n)
    (runs_keep adm rounds w).0.size

-- a port's clock after whole rounds
pub went_by : (rounds : List (List Arrival)) (w left : World) (port : PortId) → left ≡ run_with rounds w → HasPortIn w.ring port
    → clock_at left.ring port ≡ clocks_from w port left.ring.rounds
went_by rounds w left port is there =
    let ran : left.ring.rounds ≡ w.ring.rounds + length rounds =
    ap (λ (x : World). x.ring.rounds) is ∙ ap (λ (r : HeldRing). r.rounds) (held_run adm rounds w) in
    ap (λ (x : World). clock_at x.ring port) is ∙ (goes_rounds port rounds w there).1
    ∙ ap (λ n. ticks n (clock_at w.ring port)) (let e : length rounds ≡ left.ring.rounds - w.ring.rounds = omega arith in e)

-- a settle step in which a fault broke a round off after these
breaks_after : (rounds : List (List Arrival)) (w left : World) (limit : ℕ) → ArriveIn rounds w → length rounds < limit
    → NeverSettles (course_with rounds w) (length rounds) → BreaksRound (run_with rounds w) left → BreaksStep w limit left
breaks_after rounds w left limit arrive within never broke = record {
  step = record { rounds = rounds; arrive = arrive; within = within; never = never; off = broke.off };
  ring = broke.ring ∙ ap (λ (r : HeldRing). record r { nodes = left.ring.nodes; broken = true }) (held_run adm rounds w);
  clocks = λ port there. (
      let whole = goes_rounds port rounds w there in
      let last = broke.clocks port whole.0 in (
        last.0,
        last.1
            ∙ ap (λ p. ticks (if nat_lt p (had_round broke.off) then 0 + 1 else 0) (clock_at (run_with rounds w).ring port))
            (place_run rounds w port)
            ∙ ap (ticks (if nat_lt (place_of_port w.ring port) (had_round broke.off) then 0 + 1 else 0)) whole.1
            ∙ ticks_more (nat_lt (place_of_port w.ring port) (had_round broke.off)) (length rounds) (clock_at w.ring port),
      ));
}

pub breaks_step : (w left : World) (limit : ℕ) → breaking.BreaksStep adm w limit left → BreaksStep w limit left
breaks_step w left limit b =
    breaks_after b.rounds w left limit b.arrive b.within b.never (breaks_clocks (run_with b.rounds w) left b.last)
