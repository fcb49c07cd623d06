-- What a node does with the slot of a circuit, and what goes into its AU-4s.
use Rattle.std.proofs.Common.{◌≡◌, ◌≢◌, ℕ, zero, suc, ◌+◌, ◌-◌, ◌*◌, ◌<◌, ◌≤◌, true, false, List, [], ◌∷◌, length, get_or, Some, refl, ap}
use Rattle.std.proofs.Common.{sym, ◌∙◌, subst, arith}
use Rattle.std.specs.Prelude.{slice_get, ◌==◌}
use Rattle.std.specs.Option.{option_map_or}
use Rattle.std.proofs.lemmas.Bool.{eq-eqb, ne_eqb}
use Rattle.sdh_basics.proofs.CellsLaws.{get_or-cells}
use Rattle.sdh_ringmap.specs.Rates.{n_of}
use Rattle.sdh_ringmap.specs.declared.Side.{Side}
use Rattle.sdh_payload.specs.Outlet.{delivering}
use Rattle.sdh_ringmap.specs.Places.{opposite}
use Rattle.sdh_ringmap.proofs.Sides.{opposite_twice}
use Rattle.sdh_circuits.specs.declared.End.{End}
use Rattle.sdh_circuits.specs.declared.End.TheVariants.{A, B}
use Rattle.sdh_circuits.specs.declared.PortId.{PortId}
use Rattle.sdh_circuits.specs.Provisioned.{Provisioned, customer_at, end_of}
use Rattle.sdh_circuits.specs.Ends.{port_id}
use Rattle.sdh_payload.specs.Customer.{Customer}
use Rattle.sdh_payload.specs.Stream.{stream_from}
use Rattle.sdh_terminal.specs.Passing.{no_input}
use Rattle.sdh_terminal.specs.Lines.{fed_by}
use Rattle.sdh_terminal.specs.Tributaries.{Tributary, sent_in, input_by, added_by, port_of}
use Rattle.sdh_spans.specs.Brought.{BringsDelivery}
use Rattle.sdh_spans.proofs.Ports.{ports_bring}
use Rattle.sdh_sncp.specs.declared.slots.Use.{Use}
use Rattle.sdh_sncp.specs.declared.slots.Use.TheVariants.{Unused, Passed, Ended}
use Rattle.sdh_sncp.specs.Slots.{use_by, use_from, use_of, uses_at}
use Rattle.sdh_sncp.specs.Due as due
use Rattle.sdh_sncp.specs.Node.{fed_for, path_leads, lines_of, path_crossing}
use Rattle.sdh_sncp.specs.Fixed.{AreAlone}
use Rattle.sdh_sncp.specs.Ring.{path_node_at, World}
use Rattle.sdh_sncp.specs.Placed.{IsUnslippedFeed}
use Rattle.sdh_sncp.specs.Laws.{IsWholePathRing}
use Rattle.sdh_terminal.proofs.Found.{found_has, IsPortOf, port-found}
use Rattle.sdh_sncp.proofs.Nodes.{informed, unslipped_plain}
use Rattle.sdh_sncp.proofs.Spans.{crossing_at, sent_at, came_at}

-- ---- the use of a slot

first_use : (at : ℕ) (cs : List Provisioned) (i index : ℕ) (c : Provisioned) → slice_get cs index ≡ Some c
    → ((j : ℕ) (d : Provisioned) → j < index → slice_get cs j ≡ Some d → d.slot.0 ≢ c.slot.0)
    → use_from at c.slot.0 i cs ≡ use_by at (i + index) c
first_use at [] i index c get before = absurd (cc)
first_use at (x ∷ cs) i zero c get before =
    let same : x ≡ c = cc in
    let here : (c.slot.0 == c.slot.0) ≡ true = eq-eqb c.slot.0 c.slot.0 refl in
    ap (λ (y : Provisioned). use_from at c.slot.0 i (y ∷ cs)) same
    ∙ rw here (ap (λ k. use_by at k c) (let e : i ≡ i + 0 = omega arith in e))
first_use at (x ∷ cs) i (suc index) c get before =
    let other : (x.slot.0 == c.slot.0) ≡ false = ne_eqb x.slot.0 c.slot.0 (before 0 x (omega arith) refl) in
    rw other (first_use at cs (i + 1) index c get (λ j d low is. before (suc j) d (omega arith) is)
    ∙ ap (λ k. use_by at k c) (let e : i + 1 + index ≡ i + suc index = omega arith in e))

none_use : (at m i : ℕ) (cs : List Provisioned) → ((j : ℕ) (d : Provisioned) → slice_get cs j ≡ Some d → d.slot.0 ≢ m)
    → use_from at m i cs ≡ Unused
none_use at m i [] none = refl
none_use at m i (x ∷ cs) none = let other : (x.slot.0 == m) ≡ false =
    ne_eqb x.slot.0 m (none 0 x refl) in rw other (none_use at m (i + 1) cs (λ j d is. none (suc j) d is))

-- what a node does with a circuit's slot is what it does for that circuit
pub use_is : (cs : List Provisioned) → AreAlone cs → (at index : ℕ) (c : Provisioned) → slice_get cs index ≡ Some c
    → use_of cs at c.slot.0 ≡ use_by at index c
unfolding use_of
use_is cs alone at index c get =
    first_use at cs 0 index c get (λ j d low is e. (let same = alone j index d c is get e in omega arith))
    ∙ ap (λ k. use_by at k c) (let e : 0 + index ≡ index = omega arith in e)

pub use_none : (cs : List Provisioned) (at m : ℕ) → ((j : ℕ) (d : Provisioned) → slice_get cs j ≡ Some d → d.slot.0 ≢ m)
    → use_of cs at m ≡ Unused
unfolding use_of
use_none cs at m none = none_use at m 0 cs none

pub use_passed : (at i : ℕ) (c : Provisioned) → at ≢ c.from.0 → at ≢ c.to.0 → use_by at i c ≡ Passed
use_passed at i c a b =
    let first : (c.from.0 == at) ≡ false = ne_eqb c.from.0 at (λ e. a (sym e)) in
    let second : (c.to.0 == at) ≡ false = ne_eqb c.to.0 at (λ e. b (sym e)) in
    rw (first, second) refl

pub use_ended : (i : ℕ) (c : Provisioned) (e : End) → c.from.0 ≢ c.to.0 → use_by ((end_of c e).0) i c ≡ Ended (port_id i e)
use_ended i c A apart = let first : (c.from.0 == c.from.0) ≡ true = eq-eqb c.from.0 c.from.0 refl in rw first refl
use_ended i c B apart =
    let first : (c.from.0 == c.to.0) ≡ false = ne_eqb c.from.0 c.to.0 apart in
    let second : (c.to.0 == c.to.0) ≡ true = eq-eqb c.to.0 c.to.0 refl in
    rw (first, second) refl

-- ---- what goes into an AU-4

module _ (w : World) (whole : IsWholePathRing w) (q m : ℕ) (h : q < length w.ring.nodes) (low : 1 ≤ m) (high : m ≤ n_of w.ring.settings.rate) where
  use_there : get_or (informed w q).uses (m - 1) Unused ≡ use_of w.ring.circuits.circuits q m
  unfolding uses_at
  use_there =
      ap (λ us. get_or us (m - 1) Unused) (whole.placed.places q h).uses
      ∙ get_or-cells (λ k. use_of w.ring.circuits.circuits q (k + 1)) (n_of w.ring.settings.rate) (m - 1) Unused (omega arith)
      ∙ ap (use_of w.ring.circuits.circuits q) (let e : m - 1 + 1 ≡ m = omega arith in e)

  lead_is : (d : Side) → path_leads (crossing_at w q) d m ≡ fed_for (use_of w.ring.circuits.circuits q m) d m
  unfolding path_leads path_crossing
  lead_is d = ap (λ u. fed_for u d m) use_there

  pub sends_by : (u : Use) (d : Side) → use_of w.ring.circuits.circuits q m ≡ u
      → sent_at w q d m ≡ fed_by (lines_of (crossing_at w q)) (added_by (path_node_at w.ring.nodes q).ports) (fed_for u d m)
  sends_by u d is =
      ap (fed_by (lines_of (crossing_at w q)) (added_by (path_node_at w.ring.nodes q).ports)) (lead_is d ∙ ap (λ u. fed_for u d m) is)

  pub sends_passed : (d : Side) → use_of w.ring.circuits.circuits q m ≡ Passed → sent_at w q (opposite d) m ≡ came_at w q d m
  sends_passed d is = sends_by Passed (opposite d) is ∙ ap (λ e. came_at w q e m) (opposite_twice d)

  pub sends_ended : (d : Side) (id : PortId) → use_of w.ring.circuits.circuits q m ≡ Ended id
      → sent_at w q d m ≡ added_by (path_node_at w.ring.nodes q).ports id
  sends_ended d id is = sends_by (Ended id) d is

  pub sends_none : (d : Side) → use_of w.ring.circuits.circuits q m ≡ Unused → sent_at w q d m ≡ no_input
  sends_none d is = sends_by Unused d is

-- ---- what a port sends

sends_it : (t : Tributary) (sender : Customer) (rounds : ℕ) → t.feed.port ≡ sender → IsUnslippedFeed rounds t.feed
    → BringsDelivery (input_by (sent_in t.feed)) (due.sends_in sender rounds)
sends_it t sender rounds from is =
    let value : t.feed.clock.value ≡ sender.offset = is.value ∙ ap (λ (s : Customer). s.offset) from in
    let bytes : stream_from t.feed.port t.feed.clock.sent 2349 ≡ stream_from sender (2349 * rounds) 2349 =
    ap (λ p. stream_from t.feed.port p 2349) is.sent ∙ ap (λ s. stream_from s (2349 * rounds) 2349) from in
    subst (λ o. BringsDelivery (input_by (sent_in t.feed)) o) (λ i. delivering (value i) (bytes i))
    (ports_bring t.feed (unslipped_plain rounds t.feed is))

module _ (w : World) (whole : IsWholePathRing w) (index : ℕ) (c : Provisioned) (e : End) (get : slice_get w.ring.circuits.circuits index ≡ Some c)
    (h : (end_of c e).0 < length w.ring.nodes) where
  pub found : IsPortOf c e (port_of (port_id index e) (path_node_at w.ring.nodes ((end_of c e).0)).ports)
  found =
      port-found w.ring.circuits.circuits (path_node_at w.ring.nodes ((end_of c e).0)).ports index c e get
      (whole.placed.places ((end_of c e).0) h).ports

  -- the port sends in the round what its customer sends in it
  pub port_sends : BringsDelivery (added_by (path_node_at w.ring.nodes ((end_of c e).0)).ports (port_id index e))
      (due.sends_in (customer_at c e) w.ring.rounds)
  port_sends =
      let t = found.it in
      let clocks =
      (found_has (λ (t : Tributary). IsUnslippedFeed w.ring.rounds t.feed) (port_id index e) (path_node_at w.ring.nodes ((end_of c e).0)).ports t
      (whole.placed.between ((end_of c e).0) h).run.clocks found.is).0 in
      subst (λ i. BringsDelivery i (due.sends_in (customer_at c e) w.ring.rounds))
      (sym (ap (λ o. option_map_or (λ (t : Tributary). input_by (sent_in t.feed)) o no_input) found.is))
      (sends_it t (customer_at c e) w.ring.rounds found.sender clocks)
