-- What a node is in its round, and its connections by the circuits of the ring.
use Rattle.std.proofs.Common.{◌≡◌, ℕ, ◌+◌, ◌-◌, ◌<◌, ◌≤◌, true, false, leb, List, length, map, refl, ap, sym, ◌∙◌, arith}
use Rattle.std.specs.Prelude.{◌/◌}
use Rattle.std.proofs.lemmas.Bool.{le-leb, lt-leb}
use Rattle.sdh_ringmap.specs.Rates.{n_of}
use Rattle.sdh_ringmap.specs.declared.Side.{Side}
use Rattle.sdh_ringmap.specs.declared.Side.TheVariants.{West}
use Rattle.sdh_circuits.specs.Provisioned.{Provisioned}
use Rattle.sdh_squelch.specs.Table.{circuits_at}
use Rattle.sdh_nodestate.specs.declared.NodeState.{NodeState}
use Rattle.sdh_bridge.specs.declared.Origin.TheVariants.{Protection}
use Rattle.sdh_bridge.specs.Connections.{stands_for, leaves_working, leaves_protection}
use Rattle.sdh_signal.specs.Walks.{stands_in, working_in, protection_in}
use Rattle.sdh_request.specs.declared.settings.Settings.{Settings}
use Rattle.sdh_node.specs.Receiving.{after_intake, after_overhead}
use Rattle.sdh_terminal.specs.Lines.{received}
use Rattle.sdh_terminal.specs.Tributaries.{tributaries_at}
use Rattle.sdh_node.specs.Crossing.{Cross, after_decision, half_of, circuit_in, slot_of, leaving, feeder_of, leads, drops}
use Rattle.sdh_node.specs.Node.{Node, new_node, crossing, after_crossing, with_calm, node_round}
use Rattle.sdh_node.specs.Rings.Held.{nowhere, node_at}
use Rattle.sdh_node.specs.Rings.Fixed.{Fixed, fixed}
use Rattle.sdh_terminal.specs.Fixed.{fixed_port}
use Rattle.sdh_node.specs.Rings.Rounds.{World, round, node_after}
use Rattle.sdh_node.proofs.RingLaws.Keeping.{node_is}
use Rattle.sdh_laws.specs.Hearing.Signalling.{crossing_at, lines_at}
use Rattle.sdh_laws.specs.Hearing.Laws.{IsWhole}
use Rattle.sdh_laws.proofs.hearing.Nodes.{informed, count, listening_at, nodes_after}
use Rattle.sdh_laws.specs.Carrying.Windows.{Layout, layout_of, positions_of, slots_of, fed_at, value_at, sent_at}
use Rattle.sdh_ringmap.specs.Places.{position_of}
use Rattle.sdh_rounds.proofs.Terms.{terms}

-- ---- what a node is by its place

pub record IsOf (s : Settings) (ids : List ℕ) (cs : List Provisioned) (p : ℕ) (n : Node) : Type 0 where
  pub ids_are : n.ids ≡ ids
  pub at_is : n.at ≡ position_of p
  pub circuits_are : n.circuits ≡ cs
  pub ports_are : map fixed_port n.ports ≡ map fixed_port (tributaries_at (position_of p) cs)

of_fixed : (s : Settings) (ids : List ℕ) (cs : List Provisioned) (p : ℕ) (n : Node) → fixed n ≡ fixed (new_node s ids cs (position_of p))
    → IsOf s ids cs p n
unfolding fixed new_node
of_fixed s ids cs p n same = record {
  ids_are = ap (λ (f : Fixed). f.ids) same;
  at_is = ap (λ (f : Fixed). f.at) same;
  circuits_are = ap (λ (f : Fixed). f.circuits) same;
  ports_are = ap (λ (f : Fixed). f.ports) same;
}

pub node_of : (w : World) → IsWhole w → (p : ℕ) → p < length w.ring.nodes
    → IsOf w.ring.settings w.ring.ids w.ring.circuits.circuits p (node_at w.ring.nodes p)
node_of w whole p h =
    let s = w.ring.settings in
    let ids = w.ring.ids in
    let cs = w.ring.circuits.circuits in
    of_fixed s ids cs p (node_at w.ring.nodes p) (node_is s ids cs (length ids) w.ring.nodes p nowhere whole.placed.nodes
    (omega (arith, count w whole.placed)))

-- ---- its cross-connect in a round

record TurnKeeps (x : Cross) (n : Node) : Type 0 where
  pub ids : x.ids ≡ n.ids
  pub at : x.at ≡ n.at
  pub circuits : x.circuits ≡ n.circuits
  pub rate : half_of x ≡ n_of n.west.section.rate / 2

turn_keeps : (now : ℕ) (n : Node) → TurnKeeps (crossing now n) n
unfolding crossing after_decision after_intake after_overhead
turn_keeps now n = record { ids = refl; at = refl; circuits = refl; rate = refl }

state_turned : (now : ℕ) (n : Node) → (crossing now n).state ≡ (node_after now n).state
unfolding node_round with_calm after_crossing
state_turned now n = refl

module _ (w : World) (whole : IsWhole w) (p : ℕ) (h : p < length w.ring.nodes) where
  abbrev x : Cross
  x = crossing_at w p

  open terms w use {n, cs}

  turned_is : x ≡ crossing w.ring.moment (informed w p)
  turned_is = ap (crossing w.ring.moment) (listening_at w whole.placed p h)

  keeps : TurnKeeps (crossing w.ring.moment (informed w p)) (informed w p)
  keeps = turn_keeps w.ring.moment (informed w p)

  ids_are : x.ids ≡ w.ring.ids
  ids_are = ap (λ (x : Cross). x.ids) turned_is ∙ keeps.ids ∙ (node_of w whole p h).ids_are

  place_is : x.at ≡ position_of p
  place_is = ap (λ (x : Cross). x.at) turned_is ∙ keeps.at ∙ (node_of w whole p h).at_is

  circuits_are : x.circuits ≡ cs
  circuits_are = ap (λ (x : Cross). x.circuits) turned_is ∙ keeps.circuits ∙ (node_of w whole p h).circuits_are

  pub half_is : half_of x ≡ n_of w.ring.settings.rate / 2
  half_is = ap half_of turned_is ∙ keeps.rate ∙ ap (λ r. n_of r / 2) ((whole.placed.sides p h).receives West).rate

  pub state_in_turn : x.state ≡ (node_at (round w).ring.nodes p).state
  state_in_turn =
      ap (λ (x : Cross). x.state) turned_is ∙ state_turned w.ring.moment (informed w p)
      ∙ ap (λ (y : Node). y.state) (sym (nodes_after w whole.placed p h))

  -- the connections of a node whose state is known
  module _ (m : ℕ) (d : Side) (st : NodeState) (state : x.state ≡ st) where
    working_is : leaves_working (length x.ids) x.at (circuit_in x m) x.state d ≡ working_in n cs p st d m
    working_is =
        λ i. leaves_working (length (ids_are i)) (place_is i) (circuits_at (length (ids_are i)) (circuits_are i) (place_is i).0 m)
        (state i) d

    protection_is : leaves_protection (length x.ids) x.at (circuit_in x m) x.state d ≡ protection_in n cs p st d m
    protection_is =
        λ i. leaves_protection (length (ids_are i)) (place_is i) (circuits_at (length (ids_are i)) (circuits_are i) (place_is i).0 m)
        (state i) d

    stands_is : stands_for (length x.ids) x.at (circuit_in x m) x.state d ≡ stands_in n cs p st d m
    stands_is =
        λ i. stands_for (length (ids_are i)) (place_is i) (circuits_at (length (ids_are i)) (circuits_are i) (place_is i).0 m) (state i) d

    -- what feeds working slot m
    pub working_leads : m ≤ half_of x → leads x d m ≡ feeder_of x m (working_in n cs p st d m)
    unfolding leads
    working_leads small =
        let t : leb m (half_of x) ≡ true = le-leb m (half_of x) small in
        let slot : slot_of x m ≡ m = rw t refl in
        let way : leaving x d m ≡ leaves_working (length x.ids) x.at (circuit_in x (slot_of x m)) x.state d = rw t refl in
        ap (feeder_of x (slot_of x m)) way
        ∙ ap (λ s. feeder_of x s (leaves_working (length x.ids) x.at (circuit_in x s) x.state d)) slot
        ∙ ap (feeder_of x m) working_is

    -- what feeds protection slot m
    pub protection_leads : 1 ≤ m → leads x d (half_of x + m) ≡ feeder_of x m (protection_in n cs p st d m)
    unfolding leads
    protection_leads low =
        let au = half_of x + m in
        let t : leb au (half_of x) ≡ false = lt-leb au (half_of x) (omega arith) in
        let back : half_of x + m - half_of x ≡ m = omega arith in
        let slot : slot_of x au ≡ m = rw t back in
        let way : leaving x d au ≡ leaves_protection (length x.ids) x.at (circuit_in x (slot_of x au)) x.state d = rw t refl in
        ap (feeder_of x (slot_of x au)) way
        ∙ ap (λ s. feeder_of x s (leaves_protection (length x.ids) x.at (circuit_in x s) x.state d)) slot
        ∙ ap (feeder_of x m) protection_is

    -- what is dropped of slot m
    pub drops_is : drops x d m ≡ feeder_of x m (stands_in n cs p st d m)
    unfolding drops
    drops_is = ap (feeder_of x m) stands_is

-- ---- what goes into the AU-4s of a ring of this layout, in the round that begins with v, and what comes out of them

-- into a working slot, by the node's state after the round
abbrev pub SendsWorking : Layout → World → Type 0
SendsWorking l v = (q m : ℕ) (d : Side) (st : NodeState) → q < positions_of l → m ≤ slots_of l → (node_at (round v).ring.nodes q).state ≡ st
    → sent_at v q d m ≡ value_at v q m (working_in (positions_of l) l.circuits q st d m)

abbrev pub SendsProtection : Layout → World → Type 0
SendsProtection l v = (q m : ℕ) (d : Side) (st : NodeState) → q < positions_of l → 1 ≤ m → (node_at (round v).ring.nodes q).state ≡ st
    → sent_at v q d (slots_of l + m) ≡ value_at v q m (protection_in (positions_of l) l.circuits q st d m)

-- what comes in protection slot m
abbrev pub BringsProtection : Layout → World → Type 0
BringsProtection l v = (p m : ℕ) (d : Side) → p < positions_of l → value_at v p m (Protection d) ≡ received (lines_at v p) d (slots_of l + m)

module _ (v : World) (whole : IsWhole v) where
  inside : (p : ℕ) → p < length v.ring.ids → p < length v.ring.nodes
  inside p lt = omega (arith, count v whole.placed)

  pub sends_working : SendsWorking (layout_of v) v
  sends_working q m d st lt few state =
      let h = inside q lt in
      ap (fed_at v q) (working_leads v whole q h m d st (state_in_turn v whole q h ∙ state) (let half = half_is v whole q h in omega arith))

  pub sends_protection : SendsProtection (layout_of v) v
  sends_protection q m d st lt low state =
      let h = inside q lt in
      ap (λ k. sent_at v q d (k + m)) (sym (half_is v whole q h))
      ∙ ap (fed_at v q) (protection_leads v whole q h m d st (state_in_turn v whole q h ∙ state) low)

  pub brings_protection : BringsProtection (layout_of v) v
  brings_protection p m d lt = ap (λ k. received (lines_at v p) d (k + m)) (half_is v whole p (inside p lt))
