-- A circuit on whose arc no side is switched, once a round has run: what its spans hold in a round follows from what they
-- held in the round before and from the clock of the port at its start. Nothing else of the ring matters.
use Rattle.std.proofs.Common.{◌≡◌, ℕ, zero, suc, ◌+◌, ◌-◌, ◌*◌, ◌<◌, ◌≤◌, true, false, List, length, get_or, Option, Some, None, refl, ap, ap₂}
use Rattle.std.proofs.Common.{sym, ◌∙◌, subst, arith}
use Rattle.std.specs.Prelude.{slice_get}
use Rattle.std.specs.Option.{option_map_or}
use Rattle.sdh_ringmap.specs.declared.terms.Rate.{Rate}
use Rattle.sdh_ringmap.specs.Rates.{n_of}
use Rattle.sdh_ringmap.specs.Fibres.{fibre, is_cut}
use Rattle.sdh_ringmap.specs.Places.{opposite, neighbour, span_at}
use Rattle.sdh_ringmap.specs.declared.Side.{Side}
use Rattle.sdh_ringmap.specs.Steps.{going}
use Rattle.sdh_ringmap.proofs.Sides.{opposite_twice}
use Rattle.sdh_ringmap.proofs.Going.{going-back, going-inside, way-behind}
use Rattle.sdh_frame.specs.Aus.{Au, au_of}
use Rattle.sdh_parity.specs.Scrambling.{scrambled}
use Rattle.sdh_circuits.specs.Provisioned.{Provisioned, customer_at}
use Rattle.sdh_circuits.specs.Provisioning.{IsInSlots}
use Rattle.sdh_circuits.specs.Ends.{other_end, port_id, inward}
use Rattle.sdh_circuits.specs.declared.End.{End}
use Rattle.sdh_circuits.specs.declared.End.TheVariants.{A, B}
use Rattle.sdh_circuits.specs.declared.PortId.{PortId}
use Rattle.sdh_squelch.specs.Table.{circuit_from}
use Rattle.sdh_squelch.proofs.LookUps.{entry}
use Rattle.sdh_nodestate.specs.declared.NodeState.{NodeState}
use Rattle.sdh_bridge.specs.declared.Origin.TheVariants.{Working}
use Rattle.sdh_pointer.specs.declared.reading.Reading.{Reading}
use Rattle.sdh_pointer.specs.Reading.{start, after_word, action_on}
use Rattle.sdh_pointer.specs.Sending.{next_sending}
use Rattle.sdh_payload.specs.Clock.{Clock, ticked}
use Rattle.sdh_plant.specs.Arrivals.{carried_on}
use Rattle.sdh_terminal.specs.Passing.{Input, no_input, au_sent}
use Rattle.sdh_terminal.specs.Receiving.{pointer_word, pointer_word_at}
use Rattle.sdh_terminal.specs.Lines.{line_on, received}
use Rattle.sdh_terminal.specs.Outlets.{delivered_from}
use Rattle.sdh_terminal.specs.Tributaries.{Tributary, sent_in, input_by}
use Rattle.sdh_node.specs.Node.{Node, receiving_on, sending_on}
use Rattle.sdh_node.specs.Rings.Clocks.{clock_at}
use Rattle.sdh_node.specs.Rings.Held.{node_at, outlet_at, AtEach}
use Rattle.sdh_node.specs.Rings.Rounds.{World, round, arrivals_of}
use Rattle.sdh_node.specs.Rings.Sides.{condition_to}
use Rattle.sdh_node.proofs.RingLaws.Clocks.{clocks_go_on}
use Rattle.sdh_rounds.specs.Rounds as any_round
use Rattle.sdh_rounds.specs.Runs as any_run
use Rattle.sdh_signal.specs.Law.{is_open}
use Rattle.sdh_signal.specs.Walks.{port, port_at, stands_in}
use Rattle.sdh_signal.proofs.OnArcs.{near_at, near_end, seen-on}
use Rattle.sdh_signal.proofs.Passing.{open-stands, leaves-on, leaves-own}
use Rattle.sdh_signal.proofs.Seen.{Seen}
use Rattle.sdh_signal.proofs.Views.{AreOnRing, arc_length, holds}
use Rattle.sdh_spans.specs.Spans.{TakesWord}
use Rattle.sdh_laws.specs.Hearing.Laws.{IsWhole}
use Rattle.sdh_laws.specs.Hearing.Signalling.{lines_at}
use Rattle.sdh_laws.specs.Carrying.Windows.{layout_of, slots_of, value_at, sent_at}
use Rattle.sdh_laws.specs.Strangers.Untouched.{NoneSwitchesOnArc}
use Rattle.sdh_laws.proofs.hearing.Nodes.{count, one_more}
use Rattle.sdh_laws.proofs.hearing.Rounds.{reads, whole_round, neighbour_inside}
use Rattle.sdh_laws.proofs.carrying.Connections.{sends_working}
use Rattle.sdh_laws.proofs.carrying.Owed.{found, clock_is, drops_so, port_is_there}
use Rattle.sdh_laws.proofs.carrying.Spans.{au_left, generator_step, takes_read}
use Rattle.sdh_laws.proofs.converging.Runs.{condition_run}
use Rattle.sdh_laws.proofs.strangers.Arc.{first_at, held_by}
use Rattle.sdh_laws.proofs.strangers.Arrivals.{au_received}

-- What is under way over an arc: the generator before each span, the interpreter after it, and the AU-4 in the frame
-- between them; and the clock of the port at the start.
pub record UnderWay : Type 0 where
  pub generators : ℕ → Option ℕ
  pub readings : ℕ → Reading
  pub aus : ℕ → Au
  pub clock : Clock

same_input : (a b : Input) → a.action ≡ b.action → a.value ≡ b.value → a.au ≡ b.au → a ≡ b
same_input a b x v u = λ j. record { action = x j; value = v j; au = u j }

module _ (i : ℕ) (c : Provisioned) (d : Side) where
  abbrev m : ℕ
  m = c.slot.0

  -- the port at the start of the arc
  abbrev pub first_port : PortId
  first_port = port_id i (near_end d)

  -- what comes over k spans
  pub comes : UnderWay → ℕ → Input
  comes x zero = input_by (sent_in (record { port = customer_at c (near_end d); clock = x.clock }))
  comes x (suc k) =
      (let old = x.readings k in let word = pointer_word (x.aus k).pointers in record {
        action = action_on old word;
        value = (after_word old word).value;
        au = x.aus k;
      })

  -- what is under way a round later
  pub next : UnderWay → UnderWay
  next x = record {
    generators = λ k. next_sending (x.generators k) (comes x k).action (comes x k).value;
    readings = λ k. after_word (x.readings k) (pointer_word (x.aus k).pointers);
    aus = λ k. au_sent (x.generators k) (comes x k);
    clock = ticked x.clock;
  }

  -- the node at place p of a ring of n has its part of it
  pub record HasPart (n : ℕ) (x : UnderWay) (p : ℕ) (y : Node) : Type 0 where
    pub sends : (k : ℕ) → k < arc_length n c → p ≡ going n d (near_at n c d) k
        → get_or (sending_on d y).generators (m - 1) None ≡ x.generators k
    pub reads : (k : ℕ) → k < arc_length n c → p ≡ going n d (near_at n c d) (suc k)
        → get_or (receiving_on (opposite d) y).readings (m - 1) start ≡ x.readings k

  pub record Carries (w : World) (x : UnderWay) : Type 0 where
    pub whole : IsWhole w
    pub ran : 0 < w.ring.rounds
    pub get : slice_get w.ring.circuits.circuits i ≡ Some c
    pub ring : AreOnRing (length w.ring.ids) w.ring.circuits.circuits
    pub slot : IsInSlots (slots_of (layout_of w)) c
    pub nodes : AtEach (HasPart (length w.ring.ids) x) w.ring.nodes
    pub frames : (k : ℕ) (line : List ℕ) → k < arc_length (length w.ring.ids) c
        → carried_on w.fibres (fibre (going (length w.ring.ids) d (near_at (length w.ring.ids) c d) k) d) ≡ Some line
        → au_of (n_of w.ring.settings.rate) m (scrambled (9 * n_of w.ring.settings.rate) line) ≡ x.aus k
    pub clock : clock_at w.ring first_port ≡ x.clock

  module _ (w : World) (x : UnderWay) (u : Carries w x) (free : NoneSwitchesOnArc (round w) c) where
    abbrev n : ℕ
    n = length w.ring.ids

    abbrev cs : List Provisioned
    cs = w.ring.circuits.circuits

    abbrev rate : Rate
    rate = w.ring.settings.rate

    abbrev many : ℕ
    many = arc_length n c

    abbrev at : ℕ → ℕ
    at k = going n d (near_at n c d) k

    whole : IsWhole w
    whole = u.whole

    seen : Seen n cs i c d (near_at n c d) (near_end d) (other_end (near_end d))
    seen = seen-on n cs u.ring i c u.get d

    some : 0 < n
    some = let s = seen.short in omega arith

    inside : (k : ℕ) → at k < n
    inside k = going-inside n some d (near_at n c d) k

    there : (k : ℕ) → at k < length w.ring.nodes
    there k = omega (arith, count w whole.placed, inside k)

    ahead : (k : ℕ) → k < many → circuit_from n (span_at n (at k) d) m 0 cs ≡ Some (entry i c)
    ahead k h = seen.on_arc k h

    held_ahead : (k : ℕ) → k < many → holds n c (span_at n (at k) d) ≡ true
    held_ahead k h = held_by n (span_at n (at k) d) m i cs c u.get (ahead k h)

    held_behind : (k : ℕ) → k < many → holds n c (span_at n (at (suc k)) (opposite d)) ≡ true
    held_behind k h = ap (holds n c) (way-behind n some d (near_at n c d) k) ∙ held_ahead k h

    -- no side towards a span of the arc is switched, and no fibre there is cut
    open_here : (p : ℕ) (e : Side) → p < n → holds n c (span_at n p e) ≡ true → is_open (node_at (round w).ring.nodes p).state e ≡ true
    unfolding any_round.round any_round.round_with
    open_here p e low held = (free p e low held).0

    kept_here : (p : ℕ) (e : Side) → p < n → holds n c (span_at n p e) ≡ true → is_cut (condition_to w p e) ≡ false
    unfolding any_round.round any_run.run any_round.round_with
    kept_here p e low held = ap is_cut (sym (condition_run w 1 p e)) ∙ (free p e low held).1

    low_slot : 1 ≤ m
    low_slot = u.slot.from_1

    au_high : m ≤ n_of rate
    au_high = let s = u.slot.small in omega arith

    small_slot : m ≤ slots_of (layout_of w)
    small_slot = u.slot.small

    back_is : m - 1 + 1 ≡ m
    back_is = omega arith

    -- ---- what comes

    module _ (k : ℕ) (h : k < many) where
      abbrev here : ℕ
      here = at (suc k)

      abbrev side : Side
      side = opposite d

      au_taken : au_of (n_of rate) m (line_on (lines_at w here) side).intake.frame.bytes ≡ x.aus k
      au_taken =
          let q = neighbour n here side in
          let from : q ≡ at k = going-back n some d (near_at n c d) k in
          let facing : opposite side ≡ d = opposite_twice d in
          let carried = (whole.paired.carried q (neighbour_inside w whole here side)).frames (opposite side) u.ran in
          let line = carried.line in
          let sent : carried_on w.fibres (fibre (at k) d) ≡ Some line =
          ap₂ (λ x y. carried_on w.fibres (fibre x y)) (sym from) (sym facing) ∙ carried.there in
          (reads w whole here side (there (suc k))).aus u.ran (kept_here here side (inside (suc k)) (held_behind k h)) line carried.there m low_slot au_high
          ∙ u.frames k line h sent

      takes : TakesWord (get_or (receiving_on side (node_at w.ring.nodes here)).readings (m - 1) start)
          (get_or (receiving_on side (node_at (round w).ring.nodes here)).readings (m - 1) start)
          (received (lines_at w here) side (m - 1 + 1))
          (pointer_word_at (n_of rate) (line_on (lines_at w here) side).intake.frame.bytes (m - 1 + 1))
      takes = takes_read w whole u.ran here side (there (suc k)) (m - 1) (omega (arith, au_high, low_slot))

      word_taken : pointer_word_at (n_of rate) (line_on (lines_at w here) side).intake.frame.bytes (m - 1 + 1)
          ≡ pointer_word (x.aus k).pointers
      word_taken =
          ap (pointer_word_at (n_of rate) (line_on (lines_at w here) side).intake.frame.bytes) back_is
          ∙ ap (λ (a : Au). pointer_word a.pointers) au_taken

      old_is : get_or (receiving_on side (node_at w.ring.nodes here)).readings (m - 1) start ≡ x.readings k
      old_is = (u.nodes here (there (suc k))).reads k h refl

      new_is : get_or (receiving_on side (node_at (round w).ring.nodes here)).readings (m - 1) start
          ≡ after_word (x.readings k) (pointer_word (x.aus k).pointers)
      new_is = takes.reading ∙ ap₂ after_word old_is word_taken

      came : received (lines_at w here) side m ≡ comes x (suc k)
      unfolding comes
      came =
          same_input (received (lines_at w here) side m) (comes x (suc k))
          (ap (λ a. (received (lines_at w here) side a).action) (sym back_is) ∙ takes.action ∙ ap₂ action_on old_is word_taken)
          (ap (λ a. (received (lines_at w here) side a).value) (sym back_is) ∙ takes.value ∙ ap (λ (r : Reading). r.value) new_is)
          (au_received w whole here (there (suc k)) side m u.ran ∙ au_taken)

    -- ---- what goes

    abbrev st : ℕ → NodeState
    st k = (node_at (round w).ring.nodes (at k)).state

    end_low : (e : End) → port_at c e < n
    end_low A = (u.ring.inside i c u.get).0
    end_low B = (u.ring.inside i c u.get).1

    own : value_at w (at 0) m (port i (near_end d)) ≡ comes x 0
    unfolding comes
    own =
        let e = near_end d in
        let lt = end_low e in
        let f = found w whole i c e u.get lt in
        let now : f.it.feed.clock ≡ x.clock = sym (clock_is w whole i c e u.get lt) ∙ u.clock in
        let is : value_at w (port_at c e) m (port i e) ≡ comes x 0 =
        ap (λ o. option_map_or (λ (y : Tributary). input_by (sent_in y.feed)) o no_input) f.is
        ∙ λ j. input_by (sent_in (record { port = f.sender j; clock = now j })) in
        subst (λ p. value_at w p m (port i e) ≡ comes x 0) (first_at n cs u.ring i c u.get d) is

    goes : (k : ℕ) → k < many → sent_at w (at k) d m ≡ comes x k
    goes zero h =
        let o =
        leaves-own n cs (at 0) (st 0) i c (near_end d) d d m (ahead 0 h) (open_here (at 0) d (inside 0) (held_ahead 0 h)) seen.starts in
        sends_working w whole (at 0) m d (st 0) (inside 0) small_slot refl ∙ ap (value_at w (at 0) m) o ∙ own
    goes (suc k) h =
        let p = at (suc k) in
        let o = leaves-on n cs p (st (suc k)) i c d m (ahead (suc k) h) (seen.passes_by (suc k) (omega arith) h)
        ∙ open-stands n cs p (st (suc k)) (opposite d) m (open_here p (opposite d) (inside (suc k)) (held_behind k (omega arith))) in
        sends_working w whole p m d (st (suc k)) (inside (suc k)) small_slot refl ∙ ap (value_at w p m) o ∙ came k (omega arith)

    goes_at : (k : ℕ) → k < many → sent_at w (at k) d (m - 1 + 1) ≡ comes x k
    goes_at k h = ap (sent_at w (at k) d) back_is ∙ goes k h

    sending_next : (k : ℕ) → k < many → get_or (sending_on d (node_at (round w).ring.nodes (at k))).generators (m - 1) None
        ≡ (next x).generators k
    unfolding next
    sending_next k h =
        generator_step w whole (at k) d (there k) (m - 1) (omega (arith, au_high, low_slot))
        ∙ λ j. next_sending ((u.nodes (at k) (there k)).sends k h refl j) (goes_at k h j).action (goes_at k h j).value

    frame_next : (k : ℕ) (line : List ℕ) → k < many → carried_on (round w).fibres (fibre (at k) d) ≡ Some line
        → au_of (n_of rate) m (scrambled (9 * n_of rate) line) ≡ (next x).aus k
    unfolding next
    frame_next k line h there_line =
        ap (λ a. au_of (n_of rate) a (scrambled (9 * n_of rate) line)) (sym back_is)
        ∙ au_left w whole (at k) d (there k) line there_line (m - 1) (omega (arith, au_high, low_slot))
        ∙ λ j. au_sent ((u.nodes (at k) (there k)).sends k h refl j) (goes_at k h j)

    -- ---- what the port at the other end delivers

    arrives : value_at w (at many) m (stands_in n cs (at many) (st many) (opposite d) m) ≡ comes x many
    arrives =
        let last = many - 1 in
        let long = seen.long in
        let one : suc last ≡ many = omega arith in
        let o : stands_in n cs (at (suc last)) (st (suc last)) (opposite d) m ≡ Working (opposite d) =
        open-stands n cs (at (suc last)) (st (suc last)) (opposite d) m
        (open_here (at (suc last)) (opposite d) (inside (suc last)) (held_behind last (omega arith))) in
        subst (λ k. value_at w (at k) m (stands_in n cs (at k) (st k) (opposite d) m) ≡ comes x k) one
        (ap (value_at w (at (suc last)) m) o ∙ came last (omega arith))

    abbrev e : End
    e = other_end (near_end d)

    pub delivers : outlet_at (round w).ring (port_id i e) ≡ delivered_from (comes x many)
    delivers =
        let p = port_at c e in
        let place : at many ≡ p = sym seen.distant_at in
        let input = value_at w p m (stands_in n cs p (node_at (round w).ring.nodes p).state (inward e) m) in
        let come : input ≡ comes x many =
        subst (λ y. value_at w p m (stands_in n cs p (node_at (round w).ring.nodes p).state y m) ≡ comes x many) (sym seen.distant_faces)
        (subst (λ q. value_at w q m (stands_in n cs q (node_at (round w).ring.nodes q).state (opposite d) m) ≡ comes x many) place arrives) in
        drops_so w whole i c e u.get (end_low e) ∙ ap delivered_from come

    -- ---- after the round

    pub carries_on : Carries (round w) (next x)
    unfolding any_round.round any_round.round_with next
    carries_on = record {
      whole = whole_round w whole;
      ran = omega (arith, one_more w);
      get = u.get;
      ring = u.ring;
      slot = u.slot;
      nodes = λ p h. record {
        sends = λ k few is.
            ap (λ q. get_or (sending_on d (node_at (round w).ring.nodes q)).generators (m - 1) None) is ∙ sending_next k few;
        reads = λ k few is.
            ap (λ q. get_or (receiving_on (opposite d) (node_at (round w).ring.nodes q)).readings (m - 1) start) is ∙ new_is k few;
      };
      frames = λ k line few is. frame_next k line few is;
      clock =
          (clocks_go_on.round (arrivals_of w) w first_port (port_is_there w whole i c (near_end d) u.get (end_low (near_end d)))).1
          ∙ ap ticked u.clock;
    }
