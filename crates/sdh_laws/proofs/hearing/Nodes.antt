-- The nodes of a ring, one at a time, and what stays of them whatever arrives.
use Rattle.std.proofs.Common.{◌≡◌, ℕ, zero, suc, ◌+◌, ◌<◌, Bool, true, false, List, [], ◌∷◌, length, get_or, map, Option, Some, None, refl}
use Rattle.std.proofs.Common.{ap, sym, subst, ◌∙◌, arith}
use Rattle.std.specs.Prelude.{All, ◌==◌, if◌then◌else◌}
use Rattle.std.proofs.lemmas.Bool.{eq-eqb, ne_eqb}
use Rattle.std.proofs.lemmas.List.{get_or-map}
use Rattle.sdh_ringmap.specs.declared.Side.{Side}
use Rattle.sdh_ringmap.specs.declared.Side.TheVariants.{West, East}
use Rattle.sdh_circuits.specs.Provisioned.{Provisioned}
use Rattle.sdh_payload.specs.Feed.{Fed, next_feed}
use Rattle.sdh_payload.specs.Clock.{IsClock}
use Rattle.sdh_payload.proofs.Clocking.{next_clock}
use Rattle.sdh_plant.specs.Fibres.{Arrival, Fibres}
use Rattle.sdh_request.specs.declared.settings.Settings.{Settings}
use Rattle.sdh_node.specs.Receiving.{Receiving, inlet_of}
use Rattle.sdh_spans.specs.Sides.{IsInletAt, IsSenderAt}
use Rattle.sdh_terminal.specs.Tributaries.{Tributary}
use Rattle.sdh_node.specs.Node.{Node, new_node, receiving_on, sending_on}
use Rattle.sdh_node.specs.Rings.Held.{nowhere, node_at, AtEach}
use Rattle.sdh_node.specs.Rings.Fixed.{Fixed, fixed}
use Rattle.sdh_node.specs.Rings.Rounds.{World, arrivals_of, all_with_arrivals, with_arrivals, node_after, nodes_with, round_with, round}
use Rattle.sdh_rounds.specs.Rounds.{arrival_at, arrivals_from, receivers_in}
use Rattle.sdh_node.proofs.RingLaws.Keeping.{all_heard, all_next, length-fixed, node_is, feeds_next}
use Rattle.sdh_rounds.proofs.Runs.{length-heard, count_round}
use Rattle.sdh_laws.specs.Hearing.Placed.{HasSides, HaveGone, IsBetween, IsPlaced}
use Rattle.sdh_laws.proofs.hearing.OneNode.{receiving_after, rounds_after, fresh_after, receiver_after, sender_after}
use Rattle.sdh_ringmap.specs.Places.{position_of}
use Rattle.sdh_node.specs.Stations.{adm}
use Rattle.sdh_rounds.specs.Rounds as any_round

-- ---- lists

pub at_any : (ns : List Node) (p : ℕ) (x : Node) → p < length ns → get_or ns p x ≡ node_at ns p
at_any [] p x h = absurd (omega arith)
at_any (n ∷ ns) zero x h = refl
at_any (n ∷ ns) (suc p) x h = at_any ns p x (omega arith)

node_map : (f : Node → Node) (ns : List Node) (p : ℕ) → p < length ns → node_at (map f ns) p ≡ f (node_at ns p)
node_map f ns p h = get_or-map f ns p nowhere nowhere h

each_map : (P Q : Node → Type 0) (f : Node → Node) → ((n : Node) → P n → Q (f n)) → (ns : List Node) → AtEach (λ p n. P n) ns
    → AtEach (λ p n. Q n) (map f ns)
each_map P Q f to [] each p h = absurd (omega arith)
each_map P Q f to (n ∷ ns) each zero h = to n (each 0 (omega arith))
each_map P Q f to (n ∷ ns) each (suc p) h = each_map P Q f to ns (λ q low. each (suc q) (omega arith)) p (omega arith)

each_heard : (P : Node → Type 0) → ((a b : Arrival) (n : Node) → P n → P (with_arrivals a b n)) → (xs : List Arrival) (ns : List Node)
    → AtEach (λ p n. P n) ns → AtEach (λ p n. P n) (all_with_arrivals xs ns)
each_heard P keep [] ns each p h = each p h
each_heard P keep (a ∷ []) ns each p h = each p h
each_heard P keep (a ∷ b ∷ later) [] each p h = absurd (omega arith)
each_heard P keep (a ∷ b ∷ later) (n ∷ ns) each zero h = keep a b n (each 0 (omega arith))
each_heard P keep (a ∷ b ∷ later) (n ∷ ns) each (suc p) h = each_heard P keep later ns (λ q low. each (suc q) (omega arith)) p (omega arith)

-- ---- a node stays in its place in its round

sides_met : (s : Settings) (a b : Arrival) (n : Node) → HasSides s n → HasSides s (with_arrivals a b n)
unfolding any_round.with_arrivals
sides_met s a b n is = record { receives = received; sends = sent }
  where
    received : (d : Side) → IsInletAt s.rate (inlet_of (receiving_on d (with_arrivals a b n)))
    received West = let r = is.receives West in record { rate = r.rate; readings = r.readings }
    received East = let r = is.receives East in record { rate = r.rate; readings = r.readings }

    sent : (d : Side) → IsSenderAt s.rate (sending_on d (with_arrivals a b n))
    sent West = is.sends West
    sent East = is.sends East

sides_next : (s : Settings) (now : ℕ) (n : Node) → HasSides s n → HasSides s (node_after now n)
sides_next s now n is = record {
  receives =
      λ d. subst (λ r. IsInletAt s.rate (inlet_of r)) (sym (receiving_after now n d))
      (receiver_after s.rate n.settings.threshold now (receiving_on d n) (is.receives d));
  sends = λ d. sender_after now n s.rate d (is.sends d);
}

-- the node and the clocks of its ports have run this number of rounds
abbrev HasRun : ℕ → Node → Type 0
HasRun rounds n = (n.rounds ≡ rounds) × HaveGone rounds n.ports

ran_met : (rounds : ℕ) (a b : Arrival) (n : Node) → HasRun rounds n → HasRun rounds (with_arrivals a b n)
unfolding any_round.with_arrivals
ran_met rounds a b n ran = (ran.0, ran.1)

between_next : (rounds now : ℕ) (n : Node) → HasRun rounds n → IsBetween (rounds + 1) (node_after now n)
between_next rounds now n ran = record {
  ran = rounds_after now n ∙ ap (λ k. k + 1) ran.0;
  gone =
      feeds_next (λ f. IsClock f.port.offset rounds f.clock) (λ f. IsClock f.port.offset (rounds + 1) f.clock)
      (λ f h. next_clock f.port.offset rounds f.clock h) now n ran.1;
  fresh = λ d. ap (λ (r : Receiving). r.arrived) (receiving_after now n d) ∙ fresh_after now n.settings.threshold (receiving_on d n);
}

pub placed_round : (xs : List Arrival) (w : World) → IsPlaced w → IsPlaced (round_with xs w)
unfolding any_round.round_with
placed_round xs w placed =
    let s = w.ring.settings in
    let now = w.ring.moment in
    let t = w.ring.rounds in
    let ns = w.ring.nodes in
    record {
      ids = placed.ids;
      nodes = all_next now (nodes_with xs w) ∙ all_heard xs ns ∙ placed.nodes;
      sides =
          each_map (HasSides s) (HasSides s) (node_after now) (sides_next s now) (nodes_with xs w)
          (each_heard (HasSides s) (sides_met s) xs ns placed.sides);
      between = each_map (HasRun t) (IsBetween (t + 1)) (node_after now) (between_next t now) (nodes_with xs w)
          (each_heard (HasRun t) (ran_met t) xs ns (λ p h. ((placed.between p h).ran, (placed.between p h).gone)));
    }

-- ---- what arrives at a node

-- what arrives on a side before the round that begins with this world: nothing in round 0
abbrev pub told_to : World → ℕ → Side → Option Arrival
told_to w p d = if w.ring.rounds == 0 then None else Some (arrival_at w.fibres p d)

abbrev told_both : Option Arrival → Option Arrival → Node → Node
told_both a b n = record n { west = record n.west { arrived = a }; east = record n.east { arrived = b } }

-- the node at position p with what arrives there
abbrev pub informed : World → ℕ → Node
informed w p = told_both (told_to w p West) (told_to w p East) (node_at w.ring.nodes p)

pub informed_on : (w : World) (p : ℕ) (d : Side) → receiving_on d (informed w p)
    ≡ record (receiving_on d (node_at w.ring.nodes p)) { arrived = told_to w p d }
informed_on w p West = refl
informed_on w p East = refl

pub informed_out : (w : World) (p : ℕ) (d : Side) → sending_on d (informed w p) ≡ sending_on d (node_at w.ring.nodes p)
informed_out w p West = refl
informed_out w p East = refl

heard_at : (f : Fibres) (q k : ℕ) (ns : List Node) (p : ℕ) → p < k → p < length ns
    → node_at (all_with_arrivals (arrivals_from f q k) ns) p
    ≡ told_both (Some (arrival_at f (q + p) West)) (Some (arrival_at f (q + p) East)) (node_at ns p)
unfolding any_round.with_arrivals
heard_at f q zero ns p h low = absurd (omega arith)
heard_at f q (suc k) [] p h low = absurd (omega arith)
heard_at f q (suc k) (n ∷ ns) zero h low =
    ap (λ i. told_both (Some (arrival_at f i West)) (Some (arrival_at f i East)) n) (let e : q ≡ q + 0 = omega arith in e)
heard_at f q (suc k) (n ∷ ns) (suc p) h low =
    heard_at f (q + 1) k ns p (omega arith) (omega arith)
    ∙ ap (λ i. told_both (Some (arrival_at f i West)) (Some (arrival_at f i East)) (node_at ns p))
    (let e : q + 1 + p ≡ q + suc p = omega arith in e)

told_none : (n : Node) → n.west.arrived ≡ None → n.east.arrived ≡ None → n ≡ told_both None None n
told_none n west east = ap (λ a. told_both a n.east.arrived n) west ∙ ap (λ b. told_both None b n) east

module _ (w : World) (placed : IsPlaced w) where
  pub count : length w.ring.nodes ≡ length w.ring.ids
  count = length-fixed w.ring.settings w.ring.ids w.ring.circuits.circuits (length w.ring.ids) w.ring.nodes placed.nodes

  pub listening_at : (p : ℕ) → p < length w.ring.nodes → node_at (nodes_with (arrivals_of w) w) p ≡ informed w p
  unfolding any_round.arrivals_of receivers_in
  listening_at p h = by_test (w.ring.rounds == 0)
    where
      by_test : (b : Bool) → node_at (all_with_arrivals (arrivals_from w.fibres 0 (if b then 0 else length w.ring.ids)) w.ring.nodes) p
          ≡ told_both (if b then None else Some (arrival_at w.fibres p West)) (if b then None else Some (arrival_at w.fibres p East))
          (node_at w.ring.nodes p)
      by_test true = let is = placed.between p h in told_none (node_at w.ring.nodes p) (is.fresh West) (is.fresh East)
      by_test false =
          heard_at w.fibres 0 (length w.ring.ids) w.ring.nodes p (omega (arith, count)) h
          ∙ ap (λ i. told_both (Some (arrival_at w.fibres i West)) (Some (arrival_at w.fibres i East)) (node_at w.ring.nodes p))
          (let e : 0 + p ≡ p = omega arith in e)

  pub nodes_after : (p : ℕ) → p < length w.ring.nodes → node_at (round w).ring.nodes p ≡ node_after w.ring.moment (informed w p)
  unfolding any_round.round any_round.round_with
  nodes_after p h =
      node_map (node_after w.ring.moment) (nodes_with (arrivals_of w) w) p
      (let e = length-heard adm (arrivals_of w) w.ring.nodes in omega arith)
      ∙ ap (node_after w.ring.moment) (listening_at p h)

pub told_first : (w : World) (p : ℕ) (d : Side) → w.ring.rounds ≡ 0 → told_to w p d ≡ None
told_first w p d e = ap (λ (b : Bool). if b then None else Some (arrival_at w.fibres p d)) (eq-eqb w.ring.rounds 0 e)

pub told_later : (w : World) (p : ℕ) (d : Side) → 0 < w.ring.rounds → told_to w p d ≡ Some (arrival_at w.fibres p d)
told_later w p d h = ap (λ (b : Bool). if b then None else Some (arrival_at w.fibres p d)) (ne_eqb w.ring.rounds 0 (λ z. omega arith))

pub length-after : (w : World) → length (round w).ring.nodes ≡ length w.ring.nodes
unfolding any_round.round
length-after w = count_round adm (arrivals_of w) w

-- what holds of the feed of each port of each node, by what the round makes of it
pub feeds_round : (P Q : Fed → Type 0) → ((f : Fed) → P f → Q (next_feed f)) → (w : World) → IsPlaced w
    → AtEach (λ p n. All (λ (t : Tributary). P t.feed) n.ports) w.ring.nodes
    → AtEach (λ p n. All (λ (t : Tributary). Q t.feed) n.ports) (round w).ring.nodes
feeds_round P Q to w placed each p h =
    let low : p < length w.ring.nodes = omega (arith, length-after w) in
    subst (λ (n : Node). All (λ (t : Tributary). Q t.feed) n.ports) (sym (nodes_after w placed p low))
    (feeds_next P Q to w.ring.moment (informed w p) (each p low))

pub one_more : (w : World) → (round w).ring.rounds ≡ w.ring.rounds + 1
unfolding any_round.round any_round.round_with
one_more w = refl

-- ---- what a node is by its place

pub record IsAt (s : Settings) (ids : List ℕ) (p : ℕ) (n : Node) : Type 0 where
  pub settings : n.settings ≡ s
  pub ids_are : n.ids ≡ ids
  pub at : n.at.0 ≡ p

by_fixed : (s : Settings) (ids : List ℕ) (cs : List Provisioned) (p : ℕ) (n : Node) → fixed n ≡ fixed (new_node s ids cs (position_of p))
    → IsAt s ids p n
unfolding fixed new_node
by_fixed s ids cs p n same = record {
  settings = ap (λ (f : Fixed). f.settings) same;
  ids_are = ap (λ (f : Fixed). f.ids) same;
  at = ap (λ (f : Fixed). f.at.0) same;
}

pub is_at : (w : World) → IsPlaced w → (p : ℕ) → p < length w.ring.nodes → IsAt w.ring.settings w.ring.ids p (node_at w.ring.nodes p)
is_at w placed p h =
    let s = w.ring.settings in
    let ids = w.ring.ids in
    let cs = w.ring.circuits.circuits in
    by_fixed s ids cs p (node_at w.ring.nodes p) (node_is s ids cs (length ids) w.ring.nodes p nowhere placed.nodes
    (omega (arith, count w placed)))
