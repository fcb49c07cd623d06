-- What ports send, and what is where a walk is over.
use Rattle.std.proofs.Common.{◌≡◌, ℕ, zero, suc, ◌+◌, ◌<◌, ◌≤◌, Bool, true, false, List, [], ◌∷◌, length, map, Option, Some, None, refl, ap}
use Rattle.std.proofs.Common.{sym, ◌∙◌, subst, arith}
use Rattle.std.specs.Prelude.{if◌then◌else◌, ◌==◌, All, IfSome, option_map}
use Rattle.std.specs.Option.{option_map_or}
use Rattle.std.proofs.lemmas.List.Elements.{All-nil, All-cons, All-append}
use Rattle.sdh_ringmap.specs.declared.Pos.{Pos}
use Rattle.sdh_ringmap.specs.declared.Side.TheVariants.{West, East}
use Rattle.sdh_ringmap.specs.Places.{position_of}
use Rattle.sdh_circuits.specs.declared.PortId.{PortId}
use Rattle.sdh_circuits.specs.declared.End.TheVariants.{A, B}
use Rattle.sdh_circuits.specs.Provisioned.{Provisioned}
use Rattle.sdh_circuits.specs.Provisioning.{HasOffsets}
use Rattle.sdh_payload.specs.Clock.{Clock, IsClock, waiting, ticked, ticks}
use Rattle.sdh_payload.proofs.Clocking.{form_ticked, goes_plain, plain_tick, goes_on}
use Rattle.sdh_bridge.specs.declared.Origin.{Origin}
use Rattle.sdh_bridge.specs.declared.Origin.TheVariants.{Add, Working, Protection, Ais}
use Rattle.sdh_pointer.specs.declared.reading.Action.{Action}
use Rattle.sdh_pointer.specs.declared.reading.Action.TheVariants as action
use Rattle.sdh_pointer.specs.Spreading.{IsSmall}
use Rattle.sdh_pointer.specs.Laws.{IsSound}
use Rattle.sdh_signal.specs.Walks.{IsOver}
use Rattle.sdh_terminal.specs.Passing.{Input, no_input}
use Rattle.sdh_terminal.specs.Tributaries.{Tributary, action_of, port_of, sent_by, sent_in, input_by, added_by, tributaries_of}
use Rattle.sdh_terminal.specs.Tributaries.{tributaries_from, new_tributary, tributaries_at}
use Rattle.sdh_node.specs.Node.{Node, crossing, ports_after, after_crossing, with_calm, node_round}
use Rattle.sdh_terminal.proofs.Ports.{clock-next}
use Rattle.sdh_node.specs.Crossing.{dropped_to, all_delivered}
use Rattle.sdh_terminal.specs.Fixed.{FixedPort, fixed_port}
use Rattle.sdh_node.specs.Rings.Held.{node_at}
use Rattle.sdh_node.specs.Rings.Rounds.{World, round}
use Rattle.sdh_node.specs.Rings.Runs.{run}
use Rattle.sdh_terminal.proofs.Found.{found_has}
use Rattle.sdh_laws.specs.Hearing.Laws.{IsWhole, NoneWait}
use Rattle.sdh_laws.proofs.hearing.Nodes.{informed, count, nodes_after}
use Rattle.sdh_laws.proofs.hearing.Changes.{whole_run}
use Rattle.sdh_laws.proofs.hearing.Steady.{none_waits_later}
use Rattle.sdh_laws.specs.Carrying.Windows.{value_at}
use Rattle.sdh_laws.proofs.carrying.Connections.{node_of}
use Rattle.sdh_laws.specs.Converging.Steady.{IsUnslipped}
use Rattle.sdh_laws.proofs.converging.Runs.{length_run}
use Rattle.sdh_rounds.specs.Runs as any_run

-- ---- what a source sends: AIS (None), or a value for ever

abbrev pub does_by : Option ℕ → Action
does_by None = action.Ais
does_by (Some v) = action.Normal

abbrev pub value_by : Option ℕ → ℕ
value_by None = 0
value_by (Some v) = v

pub record IsSent (i : Input) (o : Option ℕ) : Type 0 where
  pub does : i.action ≡ does_by o
  pub value : i.value ≡ value_by o

pub sound_by : (o : Option ℕ) → IsSmall o → IsSound (does_by o) (value_by o)
sound_by None small = λ e. absurd (cc)
sound_by (Some v) small = λ e. small

-- ---- a port

-- the clock of the port of this name at a node, if it is there
abbrev pub clock_there : World → ℕ → PortId → Option Clock
clock_there w q id = option_map_or (λ (t : Tributary). Some t.feed.clock) (port_of id (node_at w.ring.nodes q).ports) None

-- the pointer value of that clock
abbrev pub value_there : World → ℕ → PortId → Option ℕ
value_there w q id = option_map (λ (c : Clock). c.value) (clock_there w q id)

pub clock_next : (w : World) → IsWhole w → (q : ℕ) (id : PortId) → q < length w.ring.nodes
    → clock_there (round w) q id ≡ option_map ticked (clock_there w q id)
unfolding node_round with_calm after_crossing ports_after all_delivered
clock_next w whole q id h =
    ap (λ (y : Node). option_map_or (λ (t : Tributary). Some t.feed.clock) (port_of id y.ports) None) (nodes_after w whole.placed q h)
    ∙ clock-next (dropped_to (crossing w.ring.moment (informed w q))) id (node_at w.ring.nodes q).ports
    ∙ mapped (port_of id (node_at w.ring.nodes q).ports)
  where
    mapped : (o : Option Tributary) → option_map_or (λ (t : Tributary). Some (ticked t.feed.clock)) o None
        ≡ option_map ticked (option_map_or (λ (t : Tributary). Some t.feed.clock) o None)
    mapped None = refl
    mapped (Some t) = refl

-- the clock of the port after j rounds
clock_later : (w : World) → IsWhole w → (q : ℕ) (id : PortId) → q < length w.ring.nodes → (j : ℕ)
    → clock_there (run j w) q id ≡ option_map (ticks j) (clock_there w q id)
unfolding any_run.run ticks
clock_later w whole q id h zero = same (clock_there w q id)
  where
    same : (o : Option Clock) → o ≡ option_map (λ c. c) o
    same None = refl
    same (Some c) = refl
clock_later w whole q id h (suc j) =
    clock_next (run j w) (whole_run w j whole) q id (omega (arith, length_run w j)) ∙ ap (option_map ticked) (clock_later w whole q id h j)
    ∙ twice (clock_there w q id)
  where
    twice : (o : Option Clock) → option_map ticked (option_map (ticks j) o) ≡ option_map (λ c. ticked (ticks j c)) o
    twice None = refl
    twice (Some c) = refl

-- a port at which no slip waits sends bytes with its pointer value, in this round and in all later ones
sends_value : (t : Tributary) → waiting t.feed.clock ≡ 0 → IsSent (input_by (sent_in t.feed)) (Some t.feed.clock.value)
unfolding sent_by
sends_value t none = record {
  does = ap action_of (form_ticked t.feed.clock ∙ goes_plain t.feed.clock none);
  value = (plain_tick t.feed.clock none).1;
}

added_sends : (ts : List Tributary) (id : PortId) (o : Option Clock) → All (λ (t : Tributary). waiting t.feed.clock ≡ 0) ts
    → option_map_or (λ (t : Tributary). Some t.feed.clock) (port_of id ts) None ≡ o
    → IsSent (added_by ts id) (option_map (λ (c : Clock). c.value) o)
added_sends ts id o none is =
    subst (λ x. IsSent (added_by ts id) (option_map (λ (c : Clock). c.value) x)) is (by_found (port_of id ts) refl)
  where
    by_found : (x : Option Tributary) → port_of id ts ≡ x
        → IsSent (option_map_or (λ t. input_by (sent_in t.feed)) x no_input)
        (option_map (λ (c : Clock). c.value) (option_map_or (λ (t : Tributary). Some t.feed.clock) x None))
    by_found None e = record { does = refl; value = refl }
    by_found (Some t) e = sends_value t (found_has (λ (t : Tributary). waiting t.feed.clock ≡ 0) id ts t none e).0

-- no slip waits at a port whose node has no slip that waits
none_there : (w : World) (q : ℕ) (id : PortId) → NoneWait (node_at w.ring.nodes q).ports → IfSome (clock_there w q id) (λ c. waiting c ≡ 0)
none_there w q id none = by_found (port_of id (node_at w.ring.nodes q).ports) refl
  where
    by_found : (o : Option Tributary) → port_of id (node_at w.ring.nodes q).ports ≡ o
        → IfSome (option_map_or (λ (t : Tributary). Some t.feed.clock) o None) (λ c. waiting c ≡ 0)
    by_found None e = tt
    by_found (Some t) e = (found_has (λ (t : Tributary). waiting t.feed.clock ≡ 0) id (node_at w.ring.nodes q).ports t none e).0

-- a clock at which no slip waits has the same pointer value after j rounds
value_stays : (o : Option Clock) (j : ℕ) → IfSome o (λ c. waiting c ≡ 0)
    → option_map (λ (c : Clock). c.value) (option_map (ticks j) o) ≡ option_map (λ (c : Clock). c.value) o
value_stays None j none = refl
value_stays (Some c) j none = ap Some (goes_on c j none).value

-- ---- where a walk is over

-- what an origin at which a walk is over sends from this world on: AIS (None), or a pointer value
abbrev pub source_at : World → ℕ → Origin → Option ℕ
source_at w q Ais = None
source_at w q (Add id) = value_there w q id
source_at w q (Working d) = None
source_at w q (Protection d) = None

abbrev pub HasSmall : Tributary → Type 0
HasSmall t = t.feed.port.offset ≤ 782

end_small : (b : Bool) (t : Tributary) → HasSmall t → All HasSmall (if b then t ∷ [] else [])
end_small true t h = All-cons HasSmall t [] h (All-nil HasSmall)
end_small false t h = All-nil HasSmall

ends_small : (at : Pos) (i : ℕ) (cs : List Provisioned) → All HasOffsets cs → All HasSmall (tributaries_from at i cs)
ends_small at i [] all = All-nil HasSmall
ends_small at i (c ∷ cs) all =
    let here : HasOffsets c = all 0 c (omega arith) in
    let a = new_tributary i A East c.slot c.a in
    let b = new_tributary i B West c.slot c.b in
    All-append HasSmall (tributaries_of at i c) (tributaries_from at (i + 1) cs)
    (All-append HasSmall (if c.from.0 == at.0 then a ∷ [] else []) (if c.to.0 == at.0 then b ∷ [] else [])
    (end_small (c.from.0 == at.0) a here.a) (end_small (c.to.0 == at.0) b here.b))
    (ends_small at (i + 1) cs (λ k d h. all (suc k) d (omega arith)))

-- the fixed part of a port gives its offset
fixed_small : (ts us : List Tributary) → map fixed_port ts ≡ map fixed_port us → All HasSmall us → All HasSmall ts
fixed_small [] us same all = All-nil HasSmall
fixed_small (t ∷ ts) [] same all = absurd (cc)
fixed_small (t ∷ ts) (u ∷ us) same all =
    let head : fixed_port t ≡ fixed_port u = cc in
    let rest : map fixed_port ts ≡ map fixed_port us = cc in
    All-cons HasSmall t ts (subst (λ (f : FixedPort). f.customer.offset ≤ 782) (sym head) (all 0 u (omega arith)))
    (fixed_small ts us rest (λ k d h. all (suc k) d (omega arith)))

pub ports_small : (w : World) → IsWhole w → All HasOffsets w.ring.circuits.circuits → (q : ℕ) → q < length w.ring.nodes
    → All HasSmall (node_at w.ring.nodes q).ports
unfolding tributaries_at
ports_small w whole all q h =
    fixed_small (node_at w.ring.nodes q).ports (tributaries_at (position_of q) w.ring.circuits.circuits) (node_of w whole q h).ports_are
    (ends_small (position_of q) 0 w.ring.circuits.circuits all)

pub source_small : (w : World) → IsWhole w → All HasOffsets w.ring.circuits.circuits → (q : ℕ) (o : Origin) → q < length w.ring.nodes
    → IsSmall (source_at w q o)
source_small w whole all q Ais h = tt
source_small w whole all q (Working d) h = tt
source_small w whole all q (Protection d) h = tt
source_small w whole all q (Add id) h = by_found (port_of id (node_at w.ring.nodes q).ports) refl
  where
    by_found : (o : Option Tributary) → port_of id (node_at w.ring.nodes q).ports ≡ o
        → IsSmall (option_map (λ (c : Clock). c.value) (option_map_or (λ (t : Tributary). Some t.feed.clock) o None))
    by_found None e = tt
    by_found (Some t) e =
        (found_has (λ (t : Tributary). IsClock t.feed.port.offset w.ring.rounds t.feed.clock) id (node_at w.ring.nodes q).ports t
        (whole.placed.between q h).gone e).0.value_small
        (found_has HasSmall id (node_at w.ring.nodes q).ports t (ports_small w whole all q h) e).0

-- round j brings at each such origin what the source sends, if no slip waits in this world
abbrev pub SourcesSend : World → ℕ → Type 0
SourcesSend w j = (q m : ℕ) (o : Origin) → q < length w.ring.ids → IsOver o → IsSent (value_at (run j w) q m o) (source_at w q o)

pub sources_send : (w : World) → IsWhole w → IsUnslipped w → (j : ℕ) → SourcesSend w j
sources_send w whole unslipped j q m Ais lt over = record { does = refl; value = refl }
sources_send w whole unslipped j q m (Working d) lt over = absurd over
sources_send w whole unslipped j q m (Protection d) lt over = absurd over
sources_send w whole unslipped j q m (Add id) lt over =
    let h : q < length w.ring.nodes = omega (arith, count w whole.placed) in
    subst (IsSent (added_by (node_at (run j w).ring.nodes q).ports id))
    (ap (option_map (λ (c : Clock). c.value)) (clock_later w whole q id h j)
    ∙ value_stays (clock_there w q id) j (none_there w q id (unslipped q h)))
    (added_sends (node_at (run j w).ring.nodes q).ports id (clock_there (run j w) q id)
    (none_waits_later w whole unslipped j q (omega (arith, length_run w j))) refl)
