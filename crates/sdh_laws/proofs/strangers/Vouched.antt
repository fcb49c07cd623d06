-- Rings stay vouched for, over changes and rounds, and no port meets a stranger in a round of one.
use Rattle.std.proofs.Common.{◌≡◌, ℕ, zero, suc, ◌+◌, ◌-◌, ◌<◌, ◌≤◌, Bool, true, false, List, [], ◌∷◌, length, Option, Some, None, refl, ap, sym, ◌∙◌, subst, arith, inl}
use Rattle.std.proofs.Common.{inr, ◌⊎◌}
use Rattle.std.specs.Prelude.{slice_get, nat_le, if◌then◌else◌}
use Rattle.std.proofs.lemmas.Bool.{le-leb, cases_lt}
use Rattle.std.specs.Option.{option_map_or}
use Rattle.sdh_frame.specs.Aus.{Au, ones}
use Rattle.sdh_ringmap.specs.Ids.{AreIds}
use Rattle.sdh_ringmap.specs.Places.{opposite, position_of}
use Rattle.sdh_ringmap.specs.declared.Side.{Side}
use Rattle.sdh_circuits.specs.Provisioned.{Provisioned, customer_at}
use Rattle.sdh_circuits.specs.Provisioning.{Provisioning}
use Rattle.sdh_circuits.specs.declared.End.{End}
use Rattle.sdh_circuits.specs.declared.PortId.{PortId}
use Rattle.sdh_squelch.specs.Table.{OnSpan, circuits_at}
use Rattle.sdh_squelch.proofs.LookUps.{entry}
use Rattle.sdh_request.specs.declared.Command.{Command}
use Rattle.sdh_request.specs.declared.settings.Settings.{Settings}
use Rattle.sdh_payload.specs.Clock.{Clock}
use Rattle.sdh_payload.specs.Chunk.{taken}
use Rattle.sdh_payload.specs.declared.chunk.ChunkForm.{ChunkForm}
use Rattle.sdh_payload.specs.Outlet.{Outlet, silent, delivering}
use Rattle.sdh_pointer.specs.declared.word.Form.{Form}
use Rattle.sdh_pointer.specs.declared.word.Form.TheVariants as form
use Rattle.sdh_pointer.specs.declared.reading.Action.{Action}
use Rattle.sdh_pointer.specs.declared.reading.Action.TheVariants as action
use Rattle.sdh_plant.specs.Fibres.{Fibres, IsHonest}
use Rattle.sdh_ringmap.specs.Fibres.{fibre}
use Rattle.sdh_plant.specs.Arrivals.{carried_on}
use Rattle.sdh_terminal.specs.Passing.{Input, no_input, h3_of, au_with}
use Rattle.sdh_terminal.specs.Outlets.{chunk_form, delivered_by, delivered_from}
use Rattle.sdh_terminal.specs.Tributaries.{Tributary, sent_in, input_by, added_by}
use Rattle.sdh_node.specs.Receiving.{commanded_by}
use Rattle.sdh_node.specs.Node.{Node, new_node, at_receiving, held_for, slips_at, is_held, last_word_on}
use Rattle.sdh_node.specs.Node.{node_round}
use Rattle.sdh_node.proofs.Decided.{turns_left, scene_in, state_is}
use Rattle.sdh_nodestate.specs.Rules.{state_after}
use Rattle.sdh_node.specs.Rings.Held.{node_at, AtEach, at_place, outlet_at, place_of_port}
use Rattle.sdh_node.specs.Rings.Rounds.{World, round}
use Rattle.sdh_restoration.specs.Changes.{Change}
use Rattle.sdh_restoration.specs.Changes.{Fibre, Order, Hold, Slip, Now}
use Rattle.sdh_node.specs.Rings.Changes.{changed, new_world}
use Rattle.sdh_node.specs.Rings.Laws.{IsChangeOf}
use Rattle.sdh_rounds.specs.Rounds as any_round
use Rattle.sdh_rounds.proofs.Terms.{terms}
use Rattle.sdh_laws.specs.Hearing.Laws.{IsWhole}
use Rattle.sdh_laws.proofs.hearing.Nodes.{informed, count, nodes_after, length-after}
use Rattle.sdh_laws.proofs.hearing.Rounds.{whole_round}
use Rattle.sdh_laws.proofs.hearing.Changes.{each_new, each_at_place, new_worlds_are_whole, sending_commanded, LeavesSides, held_leaves}
use Rattle.sdh_laws.proofs.hearing.Changes.{slips_leave, with_node, whole_changed}
use Rattle.sdh_laws.specs.Carrying.Windows.{layout_of, slots_of, HasCircuits, value_at}
use Rattle.sdh_terminal.proofs.Found.{port-found}
use Rattle.sdh_laws.proofs.carrying.Connections.{node_of, state_in_turn}
use Rattle.sdh_laws.proofs.carrying.Owed.{found, clock_is, found_arrives, outlet_there, slot_inside}
use Rattle.sdh_signal.specs.Walks.{port_at, stands_in}
use Rattle.sdh_circuits.specs.Ends.{inward, port_id}
use Rattle.sdh_signal.proofs.Views.{AreOnRing, on-ring}
use Rattle.sdh_signal.proofs.Ways.{end_inside}
use Rattle.sdh_laws.specs.Strangers.Owners.{other_port, put_by, HasBytesOf, Holds, nobodys, customers, MeetsNoStranger}
use Rattle.sdh_laws.specs.Strangers.Owners.{ais_comes, bytes_come, NoneMeetsAStranger, AreClocksOf}
use Rattle.sdh_laws.specs.Strangers.Vouched.{streams_to, spoken_of, HoldsAtMost, au_in, IsVouched, IsAside, MissesAside}
use Rattle.sdh_laws.specs.Strangers.Laws.{HoldsNone, HoldsAside}
use Rattle.sdh_laws.proofs.strangers.Content.{IsCarried, Bears, Fine}
use Rattle.sdh_laws.proofs.strangers.Lags.{Lag, working_lag, source_in, spoken_lag, AreLags}
use Rattle.sdh_laws.proofs.strangers.Nodes.{at_port, sent_to}
use Rattle.sdh_laws.proofs.strangers.Worlds.{Vouches, WorksOn, SpeaksOf, HeldStand, HeldWork, HeldSay, vouched_round, delivers_fine}
use Rattle.sdh_laws.proofs.strangers.Worlds.{aside_delivers, aside_says, works_from}

-- ---- what an AU-4 holds is carried

pub bytes_with : (f : Form) (w : ℕ) (from a : Au) → HasBytesOf from a → HasBytesOf from (au_with f w a)
bytes_with form.Normal w from a h = record { payload = h.payload; h3 = inr refl }
bytes_with form.Enabled w from a h = record { payload = h.payload; h3 = inr refl }
bytes_with form.Up w from a h = record { payload = h.payload; h3 = inr refl }
bytes_with form.Down w from a h = record { payload = h.payload; h3 = h.h3 }
bytes_with form.Ais w from a h = record { payload = h.payload; h3 = inr refl }

pub own_bytes : (from a : Au) → a ≡ from → HasBytesOf from a
own_bytes from a e = record { payload = ap (λ (x : Au). x.payload) e; h3 = inl (ap (λ (x : Au). h3_of x.pointers) e) }

module _ (cs : List Provisioned) (clocks : PortId → ℕ → Clock) where
  blank_holds : (t : ℕ) (q : Option PortId) → HoldsAtMost cs clocks t q ones
  blank_holds t None = own_bytes ones ones refl
  blank_holds t (Some q) = nobodys (own_bytes ones ones refl)

  passed_holds : (t : ℕ) (q : Option PortId) (f : Form) (w : ℕ) (a : Au) → HoldsAtMost cs clocks t q a
      → HoldsAtMost cs clocks t q (au_with f w a)
  passed_holds t None f w a h = bytes_with f w ones a h
  passed_holds t (Some q) f w a (nobodys h) = nobodys (bytes_with f w ones a h)
  passed_holds t (Some q) f w a (customers c r get low h) =
      customers c r get low (bytes_with f w (put_by (customer_at c q.end) (clocks q r)) a h)

  pub carried_holds : (t : ℕ) → IsCarried (HoldsAtMost cs clocks t)
  carried_holds t = record { blank = blank_holds t; passes = passed_holds t }

  pub holds_more : (t : ℕ) (q : Option PortId) (a : Au) → HoldsAtMost cs clocks t q a → HoldsAtMost cs clocks (t + 1) q a
  holds_more t None a h = h
  holds_more t (Some q) a (nobodys h) = nobodys h
  holds_more t (Some q) a (customers c r get low h) = customers c r get (omega arith) h

-- ---- changes

pub word_commanded : (d e : Side) (c : Command) (n : Node) → last_word_on e (at_receiving d (commanded_by c) n) ≡ last_word_on e n
word_commanded d e c n = ap (λ x. x.word) (sending_commanded d e c n)

pub word_left : (f : Node → Node) → LeavesSides f → (e : Side) (n : Node) → last_word_on e (f n) ≡ last_word_on e n
word_left f leaves e n = ap (λ x. x.word) (leaves.sending e n)

module _ (Own : Lag → Option PortId → Au → Type 0) where
  -- a change of one node that leaves its words
  vouches_node : (f : Node → Node) → ((d : Side) (n : Node) → last_word_on d (f n) ≡ last_word_on d n) → (p : ℕ) (w : World) → Vouches Own w
      → Vouches Own (with_node p f w)
  vouches_node f leaves p w k = record {
    working = each_at_place (WorksOn Own w) f (λ q n x m d line there low high.
        (let o = circuits_at (length w.ring.ids) w.ring.circuits.circuits q m d in
        subst (λ j. Bears (Own (working_lag (length w.ring.ids) d o (source_in w.ring.ids j) q)) o d (au_in w m line))
        (sym (leaves d n)) (x m d line there low high))) p w.ring.nodes k.working;
    protection = each_at_place (SpeaksOf Own w) f (λ q n x m d line there low high.
        subst (λ j. Bears (Own (spoken_lag w.ring.ids w.ring.circuits.circuits m (opposite d) j q))
        (spoken_of w.ring.ids w.ring.circuits.circuits m (opposite d) j) (opposite d) (au_in w (slots_of (layout_of w) + m) line))
        (sym (leaves d n)) (x m d line there low high)) p w.ring.nodes k.protection;
  }

  -- no change touches a frame or a word
  pub vouches_changed : (c : Change) (w : World) → Vouches Own w → Vouches Own (changed c w)
  unfolding changed
  vouches_changed (Fibre p d condition) w k = record { working = k.working; protection = k.protection }
  vouches_changed (Order p d c) w k = vouches_node (at_receiving d (commanded_by c)) (λ e n. word_commanded d e c n) p w k
  vouches_changed (Hold p turns) w k = vouches_node (held_for turns) (word_left (held_for turns) (held_leaves turns)) p w k
  vouches_changed (Slip id turn count) w k =
      vouches_node (slips_at id turn count) (word_left (slips_at id turn count) (slips_leave id turn count)) (place_of_port w.ring id) w k
  vouches_changed (Now t) w k = record { working = k.working; protection = k.protection }

-- a change that holds no controller leaves each node as few turns to miss
pub held_changed : (most : ℕ) (c : Change) (w : World) → HoldsNone c → AtEach (λ p n. n.held ≤ most) w.ring.nodes
    → AtEach (λ p n. n.held ≤ most) (changed c w).ring.nodes
unfolding changed
held_changed most (Fibre p d condition) w none k = k
held_changed most (Order p d c) w none k =
    each_at_place (λ q n. n.held ≤ most) (at_receiving d (commanded_by c)) (λ q n h. h) p w.ring.nodes k
held_changed most (Hold p turns) w none k =
    each_at_place (λ q n. n.held ≤ most) (held_for turns) (λ q n h. omega (arith, none)) p w.ring.nodes k
held_changed most (Slip id turn count) w none k =
    each_at_place (λ q n. n.held ≤ most) (slips_at id turn count) (λ q n h. h) (place_of_port w.ring id) w.ring.nodes k
held_changed most (Now t) w none k = k

-- what the node at a position gets of a change there
pub each_there : (P : ℕ → Node → Type 0) (f : Node → Node) (p : ℕ) (ns : List Node) → (P p (node_at ns p) → P p (f (node_at ns p)))
    → AtEach P ns → AtEach P (at_place p f ns)
each_there P f p [] keep each q h = absurd (omega arith)
each_there P f zero (n ∷ ns) keep each zero h = keep (each 0 (omega arith))
each_there P f zero (n ∷ ns) keep each (suc q) h = each (suc q) (omega arith)
each_there P f (suc p) (n ∷ ns) keep each zero h = each 0 (omega arith)
each_there P f (suc p) (n ∷ ns) keep each (suc q) h =
    each_there (λ k. P (suc k)) f p ns keep (λ k low. each (suc k) (omega arith)) q (omega arith)

-- a change that holds only where a node stands aside leaves it so that only such nodes miss turns
aside_changed : (c : Change) (w : World) → HoldsAside w c → AtEach (λ p n. MissesAside n) w.ring.nodes
    → AtEach (λ p n. MissesAside n) (changed c w).ring.nodes
unfolding changed
aside_changed (Fibre p d condition) w may k = k
aside_changed (Order p d c) w may k = each_at_place (λ q n. MissesAside n) (at_receiving d (commanded_by c)) (λ q n h. h) p w.ring.nodes k
aside_changed (Hold p turns) w may k = each_there (λ q n. MissesAside n) (held_for turns) p w.ring.nodes (λ h. may) k
aside_changed (Slip id turn count) w may k =
    each_at_place (λ q n. MissesAside n) (slips_at id turn count) (λ q n h. h) (place_of_port w.ring id) w.ring.nodes k
aside_changed (Now t) w may k = k

module _ (clocks : PortId → ℕ → Clock) where
  -- in a ring that is vouched for it doesn't matter how far AU-4s lag
  abbrev pub Anyhow : World → Lag → Option PortId → Au → Type 0
  Anyhow w i = HoldsAtMost w.ring.circuits.circuits clocks w.ring.rounds

  pub vouches_of : (w : World) → IsVouched clocks w → Vouches (Anyhow w) w
  vouches_of w k = record {
    working = λ p h m d line there low high. k.working p m d line h there low high;
    protection = λ p h m d line there low high. k.protection p m d line h there low high;
  }

  vouched_aside : (w : World) → IsWhole w → AtEach (λ p n. MissesAside n) w.ring.nodes → Vouches (Anyhow w) w → IsVouched clocks w
  vouched_aside w whole aside k = record {
    whole = whole;
    aside = aside;
    working = λ p m d line h there low high. k.working p h m d line there low high;
    protection = λ p m d line h there low high. k.protection p h m d line there low high;
  }

  pub vouched_by : (w : World) → IsWhole w → AtEach (λ p n. n.held ≤ 0) w.ring.nodes → Vouches (Anyhow w) w → IsVouched clocks w
  vouched_by w whole free k = vouched_aside w whole (λ p h. inl (let few = free p h in omega arith)) k

  pub vouched_changed : (c : Change) (w : World) → IsChangeOf w c → HoldsAside w c → IsVouched clocks w → IsVouched clocks (changed c w)
  unfolding changed
  vouched_changed (Fibre p d condition) w may aside k =
      vouched_aside (changed (Fibre p d condition) w) (whole_changed (Fibre p d condition) w may k.whole)
      (aside_changed (Fibre p d condition) w aside k.aside) (vouches_changed (Anyhow w) (Fibre p d condition) w (vouches_of w k))
  vouched_changed (Order p d c) w may aside k =
      vouched_aside (changed (Order p d c) w) (whole_changed (Order p d c) w may k.whole) (aside_changed (Order p d c) w aside k.aside)
      (vouches_changed (Anyhow w) (Order p d c) w (vouches_of w k))
  vouched_changed (Hold p turns) w may aside k =
      vouched_aside (changed (Hold p turns) w) (whole_changed (Hold p turns) w may k.whole)
      (aside_changed (Hold p turns) w aside k.aside) (vouches_changed (Anyhow w) (Hold p turns) w (vouches_of w k))
  vouched_changed (Slip id turn count) w may aside k =
      vouched_aside (changed (Slip id turn count) w) (whole_changed (Slip id turn count) w may k.whole)
      (aside_changed (Slip id turn count) w aside k.aside) (vouches_changed (Anyhow w) (Slip id turn count) w (vouches_of w k))
  vouched_changed (Now t) w may aside k =
      vouched_aside (changed (Now t) w) (whole_changed (Now t) w may k.whole) (aside_changed (Now t) w aside k.aside)
      (vouches_changed (Anyhow w) (Now t) w (vouches_of w k))

  -- ---- a new ring

  module _ (s : Settings) (ids : List ℕ) (circuits : Provisioning) (f : Fibres) (are : AreIds ids) (honest : IsHonest f) where
    pub new_free : (p : ℕ) → (new_node s ids circuits.circuits (position_of p)).held ≡ 0
    unfolding new_node
    new_free p = refl

    new_whole : IsWhole (new_world s ids circuits f)
    new_whole = new_worlds_are_whole s ids circuits f are honest

    pub nothing_sent : (line : List ℕ) (p : ℕ) (d : Side) → p < length (new_world s ids circuits f).ring.nodes
        → carried_on (new_world s ids circuits f).fibres (fibre p d) ≡ Some line → ⊥
    nothing_sent line p d h there = no (sym ((new_whole.paired.carried p h).dark d refl) ∙ there)
      where
        no : None ≡ Some line → ⊥
        no z = cc

    pub vouched_new : IsVouched clocks (new_world s ids circuits f)
    vouched_new = record {
      whole = new_whole;
      aside = each_new (λ p n. MissesAside n) s ids circuits.circuits (λ p low. inl (new_free p));
      working = λ p m d line h there low high. absurd (nothing_sent line p d h there);
      protection = λ p m d line h there low high. absurd (nothing_sent line p d h there);
    }

-- ---- a round

pub none_held : (w : World) → AtEach (λ p n. n.held ≤ 0) w.ring.nodes → AtEach (λ p n. is_held n ≡ false) w.ring.nodes
none_held w k p h = (let few = k p h in ap (λ x. nat_le 1 x) (let z : (node_at w.ring.nodes p).held ≡ 0 = omega arith in z))

pub held_aside : (n : Node) → MissesAside n → is_held n ≡ true → IsAside n.state
held_aside n (inl none) held = absurd (no (sym (ap (λ x. nat_le 1 x) none) ∙ held))
  where
    no : false ≡ true → ⊥
    no z = cc
held_aside n (inr aside) held = aside

-- a node whose controller misses its turn keeps its state
pub state_kept : (w : World) → IsWhole w → (p : ℕ) → p < length w.ring.nodes → is_held (node_at w.ring.nodes p) ≡ true
    → (node_at (round w).ring.nodes p).state ≡ (node_at w.ring.nodes p).state
state_kept w whole p low held =
    ap (λ (y : Node). y.state) (nodes_after w whole.placed p low) ∙ state_is w.ring.moment (informed w p)
    ∙ ap (λ (b : Bool). if b then (informed w p).state else state_after (scene_in (node_round w.ring.moment (informed w p)).0)) held

-- after a round only nodes that stand aside miss turns, where that was so before it
aside_after : (w : World) → IsWhole w → AtEach (λ p n. MissesAside n) w.ring.nodes → AtEach (λ p n. MissesAside n) (round w).ring.nodes
unfolding any_round.round any_round.round_with
aside_after w whole k p h =
    let low : p < length w.ring.nodes = omega (arith, length-after w) in
    let left : (node_at (round w).ring.nodes p).held ≡ (node_at w.ring.nodes p).held - 1 =
    ap (λ (n : Node). n.held) (nodes_after w whole.placed p low) ∙ turns_left w.ring.moment (informed w p) in
    elim (cases_lt 0 (node_at w.ring.nodes p).held) [
      | inl some ↦ (
          let held : is_held (node_at w.ring.nodes p) ≡ true = le-leb 1 (node_at w.ring.nodes p).held (omega arith) in
          inr (subst IsAside (sym (state_kept w whole p low held)) (held_aside (node_at w.ring.nodes p) (k p low) held)))
      | inr none ↦ inl (omega arith)
    ]

-- what a port adds to its AU-4 is what it puts in in this round
pub adds_put : (clocks : PortId → ℕ → Clock) (w : World) → IsWhole w → HasCircuits (layout_of w) → AreClocksOf clocks w.ring
    → (i : ℕ) (c : Provisioned) (e : End) → slice_get w.ring.circuits.circuits i ≡ Some c
    → HasBytesOf (put_by (customer_at c e) (clocks (port_id i e) w.ring.rounds))
    (added_by (node_at w.ring.nodes (port_at c e)).ports (port_id i e)).au
adds_put clocks w whole form_is tells i c e get =
    let inside = end_inside (length w.ring.ids) (slots_of (layout_of w)) w.ring.circuits.circuits form_is i c get e in
    let t = w.ring.rounds in
    let f = found w whole i c e get inside in
    let clock : f.it.feed.clock ≡ clocks (port_id i e) t = sym (clock_is w whole i c e get inside) ∙ tells i c get e in
    let added : (added_by (node_at w.ring.nodes (port_at c e)).ports (port_id i e)).au
    ≡ put_by (customer_at c e) (clocks (port_id i e) t) =
    ap (λ o. (option_map_or (λ (t : Tributary). input_by (sent_in t.feed)) o no_input).au) f.is
    ∙ λ j. (input_by (sent_in (record { port = f.sender j; clock = clock j }))).au in
    own_bytes (put_by (customer_at c e) (clocks (port_id i e) t)) _ added

-- so it is its own
pub adds_own : (clocks : PortId → ℕ → Clock) (w : World) → IsWhole w → HasCircuits (layout_of w) → AreClocksOf clocks w.ring
    → (i : ℕ) (c : Provisioned) (e : End) → slice_get w.ring.circuits.circuits i ≡ Some c
    → Holds w.ring.circuits.circuits clocks (w.ring.rounds + 1) (port_id i e)
    (added_by (node_at w.ring.nodes (port_at c e)).ports (port_id i e)).au
adds_own clocks w whole form_is tells i c e get =
    customers c w.ring.rounds get (omega arith) (adds_put clocks w whole form_is tells i c e get)

-- ---- what a round needs

-- each frame of a whole world vouches for what it holds, and what the nodes whose controllers miss the turn take and
-- send is fine
pub record IsReady (clocks : PortId → ℕ → Clock) (w : World) : Type 0 where
  pub whole : IsWhole w
  pub vouches : Vouches (Anyhow clocks w) w
  pub stand : HeldStand (λ i. HoldsAtMost w.ring.circuits.circuits clocks w.ring.rounds) w
  pub say : HeldSay (λ i. HoldsAtMost w.ring.circuits.circuits clocks (w.ring.rounds + 1)) w

module _ (clocks : PortId → ℕ → Clock) (w : World) (form_is : HasCircuits (layout_of w)) where
  open terms w use {cs, t}

  abbrev size : ℕ
  size = length w.ring.ids

  abbrev Own : ℕ → Option PortId → Au → Type 0
  Own r = HoldsAtMost cs clocks r

  ring_is : AreOnRing size cs
  ring_is = on-ring size (slots_of (layout_of w)) cs form_is

  pub lags_now : AreLags (λ i. Own t) (λ i. Own t)
  lags_now = record {
    was = λ i. carried_holds cs clocks t;
    own = λ i. carried_holds cs clocks t;
    later = λ i q a x. x;
    round = λ size spans past i q a some few is x. x;
    fitting = λ i j q a fits x. x;
  }

  pub lags_more : AreLags (λ i. Own t) (λ i. Own (t + 1))
  lags_more = record {
    was = λ i. carried_holds cs clocks t;
    own = λ i. carried_holds cs clocks (t + 1);
    later = λ i q a x. holds_more cs clocks t q a x;
    round = λ size spans past i q a some few is x. holds_more cs clocks t q a x;
    fitting = λ i j q a fits x. x;
  }

  -- what is fine stays so
  pub fine_more : (o : Option OnSpan) (d : Side) (x : Input) → Fine (Own t) o d x → Fine (Own (t + 1)) o d x
  fine_more o d x (inl z) = inl z
  fine_more o d x (inr z) = inr (holds_more cs clocks t (streams_to d o) x.au z)

  -- what the nodes whose controllers miss the turn send in working slots is fine, where what they take is
  pub ready_works : IsReady clocks w → AreClocksOf clocks w.ring → HeldWork (λ i. Own (t + 1)) w
  ready_works k tells p m d h low high held =
      works_from (λ i. Own t) (λ i. Own (t + 1)) lags_more w k.whole p h k.vouches m low high ring_is
      (λ i c e get at. subst (λ y. Own (t + 1) (Some (port_id i e)) (added_by (node_at w.ring.nodes y).ports (port_id i e)).au) at
      (adds_own clocks w k.whole form_is tells i c e get)) (node_at w.ring.nodes p).state d
      (fine_more (circuits_at size cs p m (opposite d)) (opposite (opposite d))
      (value_at w p m (stands_in size cs p (node_at w.ring.nodes p).state (opposite d) m)) (k.stand p m (opposite d) h low high held))

  pub ready_goes : IsReady clocks w → AreClocksOf clocks w.ring → Vouches (λ i. Own (t + 1)) (round w)
  ready_goes k tells =
      vouched_round (λ i. Own t) (λ i. Own (t + 1)) lags_more w k.whole ring_is (ready_works k tells) k.say k.vouches
      (λ i c e get. adds_own clocks w k.whole form_is tells i c e get)

  -- ---- a ring in which only nodes that stand aside miss their turns

  pub ready_aside : IsVouched clocks w → IsReady clocks w
  ready_aside k =
      let now = vouches_of clocks w k in record {
        whole = k.whole;
        vouches = now;
        stand = λ p m d h low high held. aside_delivers (λ i. Own t) (λ i. Own t) lags_now w k.whole p h now m low high ring_is
            (node_at w.ring.nodes p).state (held_aside (node_at w.ring.nodes p) (k.aside p h) held) d;
        say = λ p m d h low high held. aside_says (λ i. Own t) (λ i. Own (t + 1)) lags_more w k.whole p h now m low high ring_is
            (node_at w.ring.nodes p).state (held_aside (node_at w.ring.nodes p) (k.aside p h) held) d (last_word_on d (node_at w.ring.nodes p));
      }

  pub vouched_after : IsVouched clocks w → AreClocksOf clocks w.ring → IsVouched clocks (round w)
  unfolding any_round.round any_round.round_with
  vouched_after k tells =
      let goes = ready_goes (ready_aside k) tells in record {
        whole = whole_round w k.whole;
        aside = aside_after w k.whole k.aside;
        working = λ p m d line h there low high. goes.working p h m d line there low high;
        protection = λ p m d line h there low high. goes.protection p h m d line there low high;
      }

-- ---- deliveries

-- a port delivers AIS, or a chunk of an AU-4 that has this property for the other port
pub data Delivers (P : Option PortId → Au → Type 0) (q : PortId) (o : Outlet) : Type 0 where
  silence_comes : o ≡ silent → Delivers P q o
  chunk_comes : (value : ℕ) (form : ChunkForm) (a : Au) → o ≡ delivering value (taken form a.payload (h3_of a.pointers))
      → P (Some (other_port q)) a → Delivers P q o

module _ (P : Option PortId → Au → Type 0) where
  delivers_by : (q : PortId) (a : Action) (x : Input) (o : Outlet) → o ≡ delivered_by a x
      → (a ≡ action.Ais) ⊎ P (Some (other_port q)) x.au → Delivers P q o
  delivers_by q action.Ais x o is own = silence_comes is
  delivers_by q action.Normal x o is (inl z) = cc
  delivers_by q action.Normal x o is (inr own) = chunk_comes x.value (chunk_form x.action) x.au is own
  delivers_by q action.New x o is (inl z) = cc
  delivers_by q action.New x o is (inr own) = chunk_comes x.value (chunk_form x.action) x.au is own
  delivers_by q action.Up x o is (inl z) = cc
  delivers_by q action.Up x o is (inr own) = chunk_comes x.value (chunk_form x.action) x.au is own
  delivers_by q action.Down x o is (inl z) = cc
  delivers_by q action.Down x o is (inr own) = chunk_comes x.value (chunk_form x.action) x.au is own

  delivers_from : (q : PortId) (x : Input) (o : Outlet) → o ≡ delivered_from x → (x.action ≡ action.Ais) ⊎ P (Some (other_port q)) x.au
      → Delivers P q o
  unfolding delivered_from
  delivers_from q x o is own = delivers_by q x.action x o is own

  own_of : (i : ℕ) (c : Provisioned) (e : End) (x : Input) → Fine P (Some (entry i c)) (opposite (inward e)) x
      → (x.action ≡ action.Ais) ⊎ P (Some (other_port (port_id i e))) x.au
  own_of i c e x (inl ais) = inl ais
  own_of i c e x (inr is) = inr (subst (λ y. P (Some (port_id i y)) x.au) (sent_to e) is)

  module _ (w : World) (form_is : HasCircuits (layout_of w)) (whole : IsWhole w)
      (stands : (i : ℕ) (c : Provisioned) → slice_get w.ring.circuits.circuits i ≡ Some c → (e : End)
      → port_at c e < length w.ring.nodes → 1 ≤ c.slot.0 → c.slot.0 ≤ slots_of (layout_of w)
      → Fine P (circuits_at (length w.ring.ids) w.ring.circuits.circuits (port_at c e) c.slot.0 (inward e)) (opposite (inward e))
      (value_at w (port_at c e) c.slot.0 (stands_in (length w.ring.ids) w.ring.circuits.circuits (port_at c e)
      (node_at (round w).ring.nodes (port_at c e)).state (inward e) c.slot.0))) where
    still_there : (i : ℕ) (c : Provisioned) → slice_get (round w).ring.circuits.circuits i ≡ Some c
        → slice_get w.ring.circuits.circuits i ≡ Some c
    unfolding any_round.round any_round.round_with
    still_there i c get = get

    -- what each port delivers in the round
    pub delivers : (i : ℕ) (c : Provisioned) → slice_get (round w).ring.circuits.circuits i ≡ Some c → (e : End)
        → Delivers P (port_id i e) (outlet_at (round w).ring (port_id i e))
    delivers i c there e =
        let cs = w.ring.circuits.circuits in
        let size = length w.ring.ids in
        let get = still_there i c there in
        let u = round w in
        let hu = whole_round w whole in
        let p = port_at c e in
        let lt = end_inside size (slots_of (layout_of w)) cs form_is i c get e in
        let h : p < length w.ring.nodes = omega (arith, count w whole.placed) in
        let hp : p < length u.ring.nodes = omega (arith, length-after w) in
        let st = (node_at u.ring.nodes p).state in
        let m = c.slot.0 in
        let slot = slot_inside (slots_of (layout_of w)) cs form_is.in_slots i c get in
        let found_at = port-found u.ring.circuits.circuits (node_at u.ring.nodes p).ports i c e there (node_of u hu p hp).ports_are in
        let input = value_at w p m (stands_in size cs p st (inward e) m) in
        let out : outlet_at u.ring (port_id i e) ≡ delivered_from input =
        outlet_there u hu i c e there hp ∙ ap (λ o. option_map_or (λ (t : Tributary). t.outlet) o silent) found_at.is
        ∙ found_arrives w whole i c e h st (state_in_turn w whole p h) found_at in
        let own : Fine P (Some (entry i c)) (opposite (inward e)) input =
        subst (λ o. Fine P o (opposite (inward e)) input)
        (at_port size cs (on-ring size (slots_of (layout_of w)) cs form_is) i c get e) (stands i c get e h slot.from_1 slot.small) in
        delivers_from (port_id i e) input _ out (own_of i c e input own)

module _ (clocks : PortId → ℕ → Clock) (w : World) (form_is : HasCircuits (layout_of w)) where
  meets : (t : ℕ) (q : PortId) (o : Outlet) → Delivers (HoldsAtMost w.ring.circuits.circuits clocks t) q o
      → MeetsNoStranger w.ring.circuits.circuits clocks t q o
  meets t q o (silence_comes is) = ais_comes is
  meets t q o (chunk_comes value form a is own) = bytes_come value form a is own

  ready_delivers : IsReady clocks w → (i : ℕ) (c : Provisioned) → slice_get (round w).ring.circuits.circuits i ≡ Some c → (e : End)
      → Delivers (HoldsAtMost w.ring.circuits.circuits clocks w.ring.rounds) (port_id i e) (outlet_at (round w).ring (port_id i e))
  ready_delivers k =
      delivers (HoldsAtMost w.ring.circuits.circuits clocks w.ring.rounds) w form_is k.whole
      (λ i c get e h low high. delivers_fine (λ i. HoldsAtMost w.ring.circuits.circuits clocks w.ring.rounds)
      (λ i. HoldsAtMost w.ring.circuits.circuits clocks w.ring.rounds) (lags_now clocks w form_is) w k.whole (port_at c e) h k.vouches
      c.slot.0 low high (ring_is clocks w form_is) (λ held d. k.stand (port_at c e) c.slot.0 d h low high held) (inward e))

  pub none_meets : IsReady clocks w → NoneMeetsAStranger clocks (round w).ring
  unfolding any_round.round any_round.round_with
  none_meets k i c get e =
      let t = w.ring.rounds in
      let back : t ≡ t + 1 - 1 = omega arith in
      subst (λ r. MeetsNoStranger w.ring.circuits.circuits clocks r (port_id i e) (outlet_at (round w).ring (port_id i e))) back
      (meets t (port_id i e) _ (ready_delivers k i c get e))
