-- A new ring over prepared fibres, and what happens between two rounds.
use Rattle.std.proofs.Common.{◌≡◌, ◌≢◌, ℕ, zero, suc, ◌*◌, ◌<◌, ◌≤◌, List, [], ◌∷◌, length, map, Some, None, refl, ap}
use Rattle.std.proofs.Common.{sym, subst, ◌∙◌, arith}
use Rattle.std.specs.Prelude.{slice_get}
use Rattle.std.proofs.lemmas.List.{length-replicate}
use Rattle.sdh_ringmap.specs.declared.Side.{Side}
use Rattle.sdh_ringmap.specs.declared.Side.TheVariants.{West, East}
use Rattle.sdh_ringmap.specs.Ids.{AreIds}
use Rattle.sdh_ringmap.specs.Places.{neighbour, position_of}
use Rattle.sdh_ringmap.proofs.Sides.{neighbour_below}
use Rattle.sdh_request.specs.declared.Command.{Command}
use Rattle.sdh_nodestate.specs.Words.{IsMember, first_word}
use Rattle.sdh_kbytes.specs.KBytes.{IsSpellable}
use Rattle.sdh_circuits.specs.Provisioned.{Provisioned}
use Rattle.sdh_circuits.specs.Provisioning.{Provisioning}
use Rattle.sdh_kbytes.specs.declared.K.{K}
use Rattle.sdh_kbytes.specs.declared.Mark.TheVariants as mark
use Rattle.sdh_plant.specs.Fibres.{Fibres}
use Rattle.sdh_ringmap.specs.Fibres.{fibre}
use Rattle.sdh_plant.specs.Arrivals.{carried_on}
use Rattle.sdh_plant.specs.Calls.{prepared}
use Rattle.sdh_plant.proofs.Calling.{stay_prepared, none_at}
use Rattle.sdh_plant.proofs.Calling as plant
use Rattle.sdh_node.specs.Rings.Laws.{IsChangeOf, AreChangesOf}
use Rattle.sdh_node.proofs.RingLaws.Honest.{changes_keep_honest, changes_keep_prepared}
use Rattle.sdh_request.specs.declared.settings.Settings.{Settings}
use Rattle.sdh_node.specs.Receiving.{Receiving, commanded_by, inlet_of}
use Rattle.sdh_ringmap.specs.declared.terms.Rate.{Rate}
use Rattle.sdh_spans.specs.Frames.{CarriesWord, AreCarried}
use Rattle.sdh_spans.specs.Sides.{IsInletAt, IsSenderAt}
use Rattle.sdh_node.specs.Node.{Node, new_node, at_receiving, held_for, slips_at, receiving_on, sending_on, last_word_on}
use Rattle.sdh_node.specs.Rings.Held.{new_nodes, at_place, place_of_port, new_ring, nowhere, AtEach}
use Rattle.sdh_node.specs.Rings.Rounds.{World, world}
use Rattle.sdh_node.specs.Rings.Runs.{run}
use Rattle.sdh_restoration.specs.Changes.{Change, Fibre, Order, Hold, Slip, Now}
use Rattle.sdh_node.specs.Rings.Changes.{changed, all_changed}
use Rattle.sdh_node.proofs.RingLaws.Keeping.{length-new, new_at, all_commanded, all_held, all_slipped}
use Rattle.sdh_laws.specs.Hearing.Placed.{HasSides, IsBetween, IsPlaced}
use Rattle.sdh_laws.specs.Hearing.Paired.{IsSourcedIn, KeepsSourced, IsSpelled, NeverAis, FewWait, IsPaired}
use Rattle.sdh_laws.specs.Hearing.Laws.{IsWhole, NewWorldsAreWhole, StayWhole, StayPlaced}
use Rattle.sdh_node.specs.Rings.Fixed.{fixed}
use Rattle.sdh_payload.specs.declared.clock.Turn.{Turn}
use Rattle.sdh_circuits.specs.declared.PortId.{PortId}
use Rattle.sdh_laws.proofs.hearing.Clocks.{new_gone, new_few, gone_slipped, few_slipped}
use Rattle.sdh_laws.proofs.hearing.Nodes.{placed_round}
use Rattle.sdh_laws.proofs.hearing.Rounds.{whole_round}
use Rattle.sdh_rounds.specs.Runs as any_run

-- ---- a new ring

first_spells : (ids : List ℕ) (p : ℕ) (d : Side) → AreIds ids → p < length ids → IsSpellable (first_word ids p d)
first_spells ids p d is h =
    let below : neighbour (length ids) p d < length ids = neighbour_below (length ids) p d (omega arith) in
    let a = is.small (neighbour (length ids) p d) below in
    let b = is.small p h in
    record { to = omega arith; from = omega arith }

module _ (s : Settings) (ids : List ℕ) (circuits : List Provisioned) (p : ℕ) where
  abbrev one : Node
  one = new_node s ids circuits (position_of p)

  new_sides : HasSides s one
  unfolding new_node
  new_sides = record { receives = receives; sends = sends }
    where
      receives : (d : Side) → IsInletAt s.rate (inlet_of (receiving_on d one))
      receives West = record { rate = refl; readings = length-replicate _ _ }
      receives East = record { rate = refl; readings = length-replicate _ _ }

      sends : (d : Side) → IsSenderAt s.rate (sending_on d one)
      sends West = record { rate = refl; generators = length-replicate _ _; parities = tt }
      sends East = record { rate = refl; generators = length-replicate _ _; parities = tt }

  new_between : IsBetween 0 one
  unfolding new_node
  new_between = record { ran = refl; gone = new_gone (position_of p) circuits; fresh = fresh }
    where
      fresh : (d : Side) → (receiving_on d one).arrived ≡ None
      fresh West = refl
      fresh East = refl

  new_sourced : p < length ids → IsSourcedIn ids one
  unfolding new_node
  new_sourced h West = (p, h, refl)
  new_sourced h East = (p, h, refl)

  new_kept : (d : Side) → KeepsSourced ids (receiving_on d one).brought
  unfolding new_node
  new_kept West = record { last = tt; second = tt; third = tt }
  new_kept East = record { last = tt; second = tt; third = tt }

  new_held : one.held ≤ 100
  unfolding new_node
  new_held = omega arith

  new_slips : FewWait one.ports
  unfolding new_node
  new_slips = new_few (position_of p) circuits

  new_spelled : AreIds ids → p < length ids → IsSpelled one
  unfolding new_node
  new_spelled is h West = first_spells ids p West is h
  new_spelled is h East = first_spells ids p East is h

  new_never_ais : NeverAis one
  unfolding new_node
  new_never_ais West e = cc
  new_never_ais East e = cc

-- what holds of each new node holds at each position
pub each_new : (P : ℕ → Node → Type 0) (s : Settings) (ids : List ℕ) (cs : List Provisioned)
    → ((p : ℕ) → p < length ids → P p (new_node s ids cs (position_of p))) → AtEach P (new_nodes s ids cs (length ids))
each_new P s ids cs each p h =
    let low : p < length ids =
    omega (arith, length-new s ids cs (length ids)) in subst (P p) (sym (new_at s ids cs (length ids) p nowhere low)) (each p low)

pub new_is_placed : (s : Settings) (ids : List ℕ) (circuits : Provisioning) (f : Fibres) → AreIds ids
    → IsPlaced (world (new_ring s ids circuits) f)
new_is_placed s ids circuits f is = record {
  ids = is;
  nodes = refl;
  sides = each_new (λ p n. HasSides s n) s ids circuits.circuits (λ p low. new_sides s ids circuits.circuits p);
  between = each_new (λ p n. IsBetween 0 n) s ids circuits.circuits (λ p low. new_between s ids circuits.circuits p);
}

pub new_worlds_are_whole : NewWorldsAreWhole
new_worlds_are_whole s ids circuits f is honest =
    let n = length ids in
    let cs = circuits.circuits in
    record {
      placed = new_is_placed s ids circuits (prepared s.rate n f) is;
      paired = record {
        honest = plant.stay_honest.prepared s.rate n f honest;
        prepared = stay_prepared.prepared s.rate n f is.enough is.few;
        carried = λ p h. record { dark = λ d e. none_at (2 * n) (fibre p d); frames = λ d some. absurd (omega arith) };
        sourced = each_new (λ p m. IsSourcedIn ids m) s ids cs (λ p low. new_sourced s ids cs p low);
        kept = each_new (λ p m. (d : Side) → KeepsSourced ids (receiving_on d m).brought) s ids cs (λ p low. new_kept s ids cs p);
        spelled = each_new (λ p m. IsSpelled m) s ids cs (λ p low. new_spelled s ids cs p is low);
        never_ais = each_new (λ p m. NeverAis m) s ids cs (λ p low. new_never_ais s ids cs p);
        held = each_new (λ p m. m.held ≤ 100) s ids cs (λ p low. new_held s ids cs p);
        slips = each_new (λ p m. FewWait m.ports) s ids cs (λ p low. new_slips s ids cs p);
      };
    }

-- ---- a command

-- what a change of one node keeps of it stays of all
pub each_at_place : (P : ℕ → Node → Type 0) (f : Node → Node) → ((q : ℕ) (n : Node) → P q n → P q (f n)) → (p : ℕ) (ns : List Node)
    → AtEach P ns → AtEach P (at_place p f ns)
each_at_place P f keep p [] each q h = absurd (omega arith)
each_at_place P f keep zero (n ∷ ns) each zero h = keep 0 n (each 0 (omega arith))
each_at_place P f keep zero (n ∷ ns) each (suc q) h = each (suc q) (omega arith)
each_at_place P f keep (suc p) (n ∷ ns) each zero h = each 0 (omega arith)
each_at_place P f keep (suc p) (n ∷ ns) each (suc q) h =
    each_at_place (λ k. P (suc k)) f (λ k. keep (suc k)) p ns (λ k low. each (suc k) (omega arith)) q (omega arith)

-- what holds of each node holds after one was changed, where the change keeps it
each_changed : (P : ℕ → Node → Type 0) (f : Node → Node) (p : ℕ) (ns : List Node)
    → ((n : Node) → slice_get ns p ≡ Some n → P p n → P p (f n)) → AtEach P ns → AtEach P (at_place p f ns)
each_changed P f p [] keep each q h = absurd (omega arith)
each_changed P f zero (n ∷ ns) keep each zero h = keep n refl (each 0 (omega arith))
each_changed P f zero (n ∷ ns) keep each (suc q) h = each (suc q) (omega arith)
each_changed P f (suc p) (n ∷ ns) keep each zero h = each 0 (omega arith)
each_changed P f (suc p) (n ∷ ns) keep each (suc q) h =
    each_changed (λ k. P (suc k)) f p ns keep (λ k low. each (suc k) (omega arith)) q (omega arith)

-- a command leaves the sides that send
pub sending_commanded : (d e : Side) (c : Command) (n : Node) → sending_on e (at_receiving d (commanded_by c) n) ≡ sending_on e n
sending_commanded d West c n = refl
sending_commanded d East c n = refl

-- a command leaves what interpreters keep
pub readings_commanded : (d e : Side) (x : Command) (y : Node)
    → (receiving_on e (at_receiving d (commanded_by x) y)).readings ≡ (receiving_on e y).readings
readings_commanded West West x y = refl
readings_commanded West East x y = refl
readings_commanded East West x y = refl
readings_commanded East East x y = refl

receiver_commanded : (at : Rate) (c : Command) (d e : Side) (n : Node) → IsInletAt at (inlet_of (receiving_on e n))
    → IsInletAt at (inlet_of (receiving_on e (at_receiving d (commanded_by c) n)))
receiver_commanded at c West West n h = record { rate = h.rate; readings = h.readings }
receiver_commanded at c West East n h = h
receiver_commanded at c East West n h = h
receiver_commanded at c East East n h = record { rate = h.rate; readings = h.readings }

arrived_commanded : (d e : Side) (c : Command) (n : Node) → (receiving_on e (at_receiving d (commanded_by c) n)).arrived
    ≡ (receiving_on e n).arrived
arrived_commanded West West c n = refl
arrived_commanded West East c n = refl
arrived_commanded East West c n = refl
arrived_commanded East East c n = refl

sides_commanded : (s : Settings) (d : Side) (c : Command) (n : Node) → HasSides s n → HasSides s (at_receiving d (commanded_by c) n)
sides_commanded s d c n h = record {
  receives = λ e. receiver_commanded s.rate c d e n (h.receives e);
  sends = λ e. subst (IsSenderAt s.rate) (sym (sending_commanded d e c n)) (h.sends e);
}

between_commanded : (rounds : ℕ) (d : Side) (c : Command) (n : Node) → IsBetween rounds n
    → IsBetween rounds (at_receiving d (commanded_by c) n)
between_commanded rounds d c n h = record { ran = h.ran; gone = h.gone; fresh = λ e. arrived_commanded d e c n ∙ h.fresh e }

-- what holds of a word still holds
word_commanded : (P : K → Type 0) (d e : Side) (c : Command) (n : Node) → P (last_word_on e n)
    → P (last_word_on e (at_receiving d (commanded_by c) n))
word_commanded P d e c n h = subst (λ x. P x.word) (sym (sending_commanded d e c n)) h

-- the fibres that leave a node carry its words
abbrev CarriedFrom : World → ℕ → Node → Type 0
CarriedFrom w p n = AreCarried w.ring.settings.rate w.fibres w.ring.rounds p (λ d. last_word_on d n)

carried_commanded : (w : World) (d : Side) (c : Command) (p : ℕ) (n : Node) → CarriedFrom w p n
    → CarriedFrom w p (at_receiving d (commanded_by c) n)
carried_commanded w d c p n h = record {
  dark = h.dark;
  frames = λ e some. word_commanded
      (λ k. CarriesWord w.ring.settings.rate k (carried_on w.fibres (fibre p e))) d e c n (h.frames e some);
}

kept_commanded : (ids : List ℕ) (d e : Side) (c : Command) (n : Node) → KeepsSourced ids (receiving_on e n).brought
    → KeepsSourced ids (receiving_on e (at_receiving d (commanded_by c) n)).brought
kept_commanded ids West West c n h = h
kept_commanded ids West East c n h = h
kept_commanded ids East West c n h = h
kept_commanded ids East East c n h = h

held_commanded : (d : Side) (c : Command) (n : Node) → (at_receiving d (commanded_by c) n).held ≡ n.held
held_commanded d c n = refl

-- ---- a change that leaves all sides of a node

pub record LeavesSides (f : Node → Node) : Type 0 where
  pub receiving : (e : Side) (n : Node) → receiving_on e (f n) ≡ receiving_on e n
  pub sending : (e : Side) (n : Node) → sending_on e (f n) ≡ sending_on e n

-- a held controller
pub held_leaves : (turns : ℕ) → LeavesSides (held_for turns)
held_leaves turns = record { receiving = received; sending = sent }
  where
    received : (e : Side) (n : Node) → receiving_on e (held_for turns n) ≡ receiving_on e n
    received West n = refl
    received East n = refl

    sent : (e : Side) (n : Node) → sending_on e (held_for turns n) ≡ sending_on e n
    sent West n = refl
    sent East n = refl

-- slips leave the sides
pub slips_leave : (id : PortId) (turn : Turn) (count : ℕ) → LeavesSides (slips_at id turn count)
slips_leave id turn count = record { receiving = received; sending = sent }
  where
    received : (e : Side) (n : Node) → receiving_on e (slips_at id turn count n) ≡ receiving_on e n
    received West n = refl
    received East n = refl

    sent : (e : Side) (n : Node) → sending_on e (slips_at id turn count n) ≡ sending_on e n
    sent West n = refl
    sent East n = refl

-- a world with a change of one node
abbrev pub with_node : ℕ → (Node → Node) → World → World
with_node p f w = record w { ring = record w.ring { nodes = at_place p f w.ring.nodes } }

module _ (f : Node → Node) (leaves : LeavesSides f) where
  sides_left : (s : Settings) (n : Node) → HasSides s n → HasSides s (f n)
  sides_left s n h = record {
    receives = λ e. subst (λ r. IsInletAt s.rate (inlet_of r)) (sym (leaves.receiving e n)) (h.receives e);
    sends = λ e. subst (IsSenderAt s.rate) (sym (leaves.sending e n)) (h.sends e);
  }

  fresh_left : (rounds : ℕ) (n : Node) → IsBetween rounds n → (e : Side) → (receiving_on e (f n)).arrived ≡ None
  fresh_left rounds n h e = ap (λ (r : Receiving). r.arrived) (leaves.receiving e n) ∙ h.fresh e

  -- what holds of a word still holds
  word_left : (P : K → Type 0) (e : Side) (n : Node) → P (last_word_on e n) → P (last_word_on e (f n))
  word_left P e n h = subst (λ x. P x.word) (sym (leaves.sending e n)) h

  carried_left : (w : World) (p : ℕ) (n : Node) → CarriedFrom w p n → CarriedFrom w p (f n)
  carried_left w p n h = record {
    dark = h.dark;
    frames = λ e some. word_left
        (λ k. CarriesWord w.ring.settings.rate k (carried_on w.fibres (fibre p e))) e n (h.frames e some);
  }

  kept_left : (ids : List ℕ) (e : Side) (n : Node) → KeepsSourced ids (receiving_on e n).brought
      → KeepsSourced ids (receiving_on e (f n)).brought
  kept_left ids e n h = subst (λ (r : Receiving). KeepsSourced ids r.brought) (sym (leaves.receiving e n)) h

  placed_left : (p : ℕ) (w : World) → map fixed (at_place p f w.ring.nodes) ≡ map fixed w.ring.nodes
      → ((n : Node) → IsBetween w.ring.rounds n → IsBetween w.ring.rounds (f n)) → IsPlaced w → IsPlaced (with_node p f w)
  placed_left p w same between is = record {
    ids = is.ids;
    nodes = same ∙ is.nodes;
    sides = each_at_place (λ q n. HasSides w.ring.settings n) f (λ q n h. sides_left w.ring.settings n h) p w.ring.nodes is.sides;
    between = each_at_place (λ q n. IsBetween w.ring.rounds n) f (λ q n h. between n h) p w.ring.nodes is.between;
  }

  paired_left : (p : ℕ) (w : World) → AtEach (λ q n. n.held ≤ 100) (at_place p f w.ring.nodes)
      → AtEach (λ q n. FewWait n.ports) (at_place p f w.ring.nodes) → IsPaired w → IsPaired (with_node p f w)
  paired_left p w held slips was =
      let ns = w.ring.nodes in
      record {
        honest = was.honest;
        prepared = was.prepared;
        carried = each_at_place (CarriedFrom w) f (λ q n h. carried_left w q n h) p ns was.carried;
        sourced =
            each_at_place (λ q n. IsSourcedIn w.ring.ids n) f
            (λ q n h e. word_left (λ k. IsMember w.ring.ids k.from) e n (h e)) p ns was.sourced;
        kept =
            each_at_place (λ q n. (e : Side) → KeepsSourced w.ring.ids (receiving_on e n).brought) f
            (λ q n h e. kept_left w.ring.ids e n (h e)) p ns was.kept;
        spelled = each_at_place (λ q n. IsSpelled n) f (λ q n h e. word_left IsSpellable e n (h e)) p ns was.spelled;
        never_ais = each_at_place (λ q n. NeverAis n) f (λ q n h e. word_left (λ k. k.mark ≢ mark.MsAis) e n (h e)) p ns was.never_ais;
        held = held;
        slips = slips;
      }

-- ---- all changes

pub placed_changed : (c : Change) (w : World) → IsPlaced w → IsPlaced (changed c w)
unfolding changed
placed_changed (Fibre p d condition) w is = is
placed_changed (Order p d c) w is = record {
  ids = is.ids;
  nodes = all_commanded p d c w.ring.nodes ∙ is.nodes;
  sides =
      each_at_place (λ q n. HasSides w.ring.settings n) (at_receiving d (commanded_by c))
      (λ q n h. sides_commanded w.ring.settings d c n h) p w.ring.nodes is.sides;
  between =
      each_at_place (λ q n. IsBetween w.ring.rounds n) (at_receiving d (commanded_by c))
      (λ q n h. between_commanded w.ring.rounds d c n h) p w.ring.nodes is.between;
}
placed_changed (Hold p turns) w is =
    placed_left (held_for turns) (held_leaves turns) p w (all_held p turns w.ring.nodes)
    (λ n h. record { ran = h.ran; gone = h.gone; fresh = fresh_left (held_for turns) (held_leaves turns) w.ring.rounds n h }) is
placed_changed (Slip id turn count) w is =
    let f = slips_at id turn count in
    let leaves = slips_leave id turn count in
    let p = place_of_port w.ring id in
    placed_left f leaves p w (all_slipped p id turn count w.ring.nodes)
    (λ n h. record {
      ran = h.ran;
      gone = gone_slipped w.ring.rounds id turn count n.ports h.gone;
      fresh = fresh_left f leaves w.ring.rounds n h;
    }) is
placed_changed (Now t) w is = record { ids = is.ids; nodes = is.nodes; sides = is.sides; between = is.between }

pub stay_placed : StayPlaced
stay_placed = record { new = new_is_placed; round = placed_round; change = placed_changed }

pub whole_changed : (c : Change) (w : World) → IsChangeOf w c → IsWhole w → IsWhole (changed c w)
unfolding changed
whole_changed (Fibre p d condition) w may whole = record {
  placed = whole.placed;
  paired = record {
    honest = changes_keep_honest w (Fibre p d condition) whole.paired.honest;
    prepared = changes_keep_prepared (length w.ring.ids) w (Fibre p d condition) may whole.paired.prepared;
    carried = λ q h. (let is = whole.paired.carried q h in record { dark = is.dark; frames = is.frames });
    sourced = whole.paired.sourced;
    kept = whole.paired.kept;
    spelled = whole.paired.spelled;
    never_ais = whole.paired.never_ais;
    held = whole.paired.held;
    slips = whole.paired.slips;
  };
}
whole_changed (Order p d c) w may whole =
    let change = at_receiving d (commanded_by c) in
    let ns = w.ring.nodes in
    let was = whole.paired in
    record {
      placed = placed_changed (Order p d c) w whole.placed;
      paired = record {
        honest = was.honest;
        prepared = was.prepared;
        carried = each_at_place (CarriedFrom w) change (λ q n h. carried_commanded w d c q n h) p ns was.carried;
        sourced =
            each_at_place (λ q n. IsSourcedIn w.ring.ids n) change
            (λ q n h e. word_commanded (λ k. IsMember w.ring.ids k.from) d e c n (h e)) p ns was.sourced;
        kept =
            each_at_place (λ q n. (e : Side) → KeepsSourced w.ring.ids (receiving_on e n).brought) change
            (λ q n h e. kept_commanded w.ring.ids d e c n (h e)) p ns was.kept;
        spelled = each_at_place (λ q n. IsSpelled n) change (λ q n h e. word_commanded IsSpellable d e c n (h e)) p ns was.spelled;
        never_ais =
            each_at_place (λ q n. NeverAis n) change (λ q n h e. word_commanded (λ k. k.mark ≢ mark.MsAis) d e c n
            (h e)) p ns was.never_ais;
        held = each_at_place (λ q n. n.held ≤ 100) change (λ q n h. let same = held_commanded d c n in omega arith) p ns was.held;
        slips = each_at_place (λ q n. FewWait n.ports) change (λ q n h. h) p ns was.slips;
      };
    }
whole_changed (Hold p turns) w may whole =
    let f = held_for turns in
    let ns = w.ring.nodes in
    record {
      placed = placed_changed (Hold p turns) w whole.placed;
      paired =
          paired_left f (held_leaves turns) p w (each_at_place (λ q n. n.held ≤ 100) f (λ q n h. may) p ns whole.paired.held)
          (each_at_place (λ q n. FewWait n.ports) f (λ q n h. h) p ns whole.paired.slips) whole.paired;
    }
whole_changed (Slip id turn count) w may whole =
    let f = slips_at id turn count in
    let p = place_of_port w.ring id in
    let ns = w.ring.nodes in
    record {
      placed = placed_changed (Slip id turn count) w whole.placed;
      paired = paired_left f (slips_leave id turn count) p w (each_at_place (λ q n. n.held ≤ 100) f (λ q n h. h) p ns whole.paired.held)
          (each_changed (λ q n. FewWait n.ports) f p ns
          (λ n at few. few_slipped w.ring id turn count n may at few) whole.paired.slips) whole.paired;
    }
whole_changed (Now t) w may whole = record {
  placed = placed_changed (Now t) w whole.placed;
  paired =
      (let was = whole.paired in record {
        honest = was.honest;
        prepared = was.prepared;
        carried = was.carried;
        sourced = was.sourced;
        kept = was.kept;
        spelled = was.spelled;
        never_ais = was.never_ais;
        held = was.held;
        slips = was.slips;
      });
}

pub whole_all : (cs : List Change) (w : World) → AreChangesOf w cs → IsWhole w → IsWhole (all_changed cs w)
whole_all [] w may whole = whole
whole_all (c ∷ cs) w may whole = whole_all cs (changed c w) may.1 (whole_changed c w may.0 whole)

pub whole_run : (w : World) (k : ℕ) → IsWhole w → IsWhole (run k w)
unfolding any_run.run
whole_run w zero whole = whole
whole_run w (suc k) whole = whole_round (run k w) (whole_run w k whole)

pub stay_whole : StayWhole
stay_whole = record { round = whole_round; rounds = whole_run; change = whole_changed }
