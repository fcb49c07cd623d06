-- The spans of a ring: what its nodes send and take, and what was sent into an AU-4 comes out of it one round later.
use Rattle.std.proofs.Common.{◌≡◌, ◌≢◌, ℕ, ◌+◌, ◌-◌, ◌*◌, ◌<◌, ◌≤◌, true, false, List, length, get_or, Option, Some, None, ap, sym, ◌∙◌}
use Rattle.std.proofs.Common.{subst, arith}
use Rattle.sdh_ringmap.specs.Rates.{n_of}
use Rattle.sdh_ringmap.specs.Places.{opposite, neighbour}
use Rattle.sdh_ringmap.specs.declared.Side.{Side}
use Rattle.sdh_ringmap.specs.declared.Side.TheVariants.{West, East}
use Rattle.sdh_kbytes.specs.declared.Mark.TheVariants as mark
use Rattle.sdh_pointer.specs.declared.reading.Reading.{Reading}
use Rattle.sdh_pointer.specs.Reading.{start}
use Rattle.sdh_pointer.specs.Sending.{word_sent, next_sending}
use Rattle.sdh_ringmap.specs.declared.terms.Condition.{Condition}
use Rattle.sdh_ringmap.specs.Fibres.{fibre, is_cut}
use Rattle.sdh_plant.specs.Arrivals.{through, carried_on}
use Rattle.sdh_frame.specs.Aus.{au_of}
use Rattle.sdh_parity.specs.Scrambling.{scrambled}
use Rattle.sdh_payload.specs.Outlet.{Outlet}
use Rattle.sdh_terminal.specs.Passing.{Input, au_sent}
use Rattle.sdh_terminal.specs.Receiving.{Inlet, after_taking, after_frame, pointer_word_at}
use Rattle.sdh_terminal.specs.Lines.{Line, line_on, received}
use Rattle.sdh_terminal.specs.Sending.{Sending, line_frame_from, after_sending}
use Rattle.sdh_terminal.specs.Tributaries.{added_by}
use Rattle.sdh_spans.specs.Brought.{BringsDelivery, HasValue}
use Rattle.sdh_spans.specs.Spans.{IsSpan, TakesWord, word_behind}
use Rattle.sdh_spans.proofs.Sends.{fed_full}
use Rattle.sdh_spans.proofs.Reading.{TookIn, reading_there, side_reads}
use Rattle.sdh_spans.proofs.Spans.{spans_take_words, spans_bring}
use Rattle.sdh_node.specs.Same.{Compared}
use Rattle.sdh_node.specs.Crossing.{lines_of, leads, input_at, is_failed}
use Rattle.sdh_node.specs.Node.{Node, receiving_on, sending_on, crossing, last_word_on, compared}
use Rattle.sdh_node.specs.Rings.Held.{node_at}
use Rattle.sdh_node.specs.Rings.Rounds.{World, round}
use Rattle.sdh_node.specs.Rings.Quiet.{is_calm}
use Rattle.sdh_node.specs.Rings.Sides.{condition_to}
use Rattle.sdh_laws.specs.Hearing.Signalling.{lines_at}
use Rattle.sdh_laws.specs.Hearing.Laws.{IsWhole}
use Rattle.sdh_laws.proofs.hearing.OneNode.{puts, said_on, frame_is, sending_after, said_is, said_sender, node_sends}
use Rattle.sdh_laws.proofs.hearing.Nodes.{told_later, informed, informed_out, count, listening_at, nodes_after, length-after, one_more}
use Rattle.sdh_laws.proofs.hearing.Rounds.{same_line, reads, side_finds, may_at, arrival_is, told_side, inlet_at, line_is, took_is}
use Rattle.sdh_laws.proofs.hearing.Rounds.{carried_after, sends_at, neighbour_inside, whole_round, clear_where_it_works}
use Rattle.sdh_laws.proofs.hearing.Signalling.{same_there}
use Rattle.sdh_laws.specs.Carrying.Windows.{sent_at}
use Rattle.sdh_laws.specs.Carrying.Laws.{ASpanCarries}
use Rattle.sdh_rounds.specs.Rounds as any_round
use Rattle.sdh_rounds.proofs.Terms.{terms}

-- ---- what is compared

pub generators_on : (d : Side) (a b : Node) → compared a ≡ compared b → (sending_on d a).generators ≡ (sending_on d b).generators
generators_on West a b e = ap (λ (c : Compared). c.west_out.generators) e
generators_on East a b e = ap (λ (c : Compared). c.east_out.generators) e

pub readings_on : (d : Side) (a b : Node) → compared a ≡ compared b → (receiving_on d a).readings ≡ (receiving_on d b).readings
readings_on West a b e = ap (λ (c : Compared). c.west.readings) e
readings_on East a b e = ap (λ (c : Compared). c.east.readings) e

-- ---- a node that sends

module _ (w : World) (whole : IsWhole w) (q : ℕ) (d : Side) (h : q < length w.ring.nodes) where
  open terms w use {rate}

  abbrev sender : Node
  sender = informed w q

  -- what goes into its AU-4s, and the side with the word of the round
  abbrev fed : ℕ → Input
  fed = puts w.ring.moment sender d

  abbrev said : Sending
  said = said_on w.ring.moment sender d

  abbrev pub state_at : ℕ → Option ℕ
  state_at k = get_or (sending_on d (node_at w.ring.nodes q)).generators k None

  fed_is : (au : ℕ) → fed au ≡ sent_at w q d au
  fed_is au =
      sym (ap (λ m. input_at (crossing w.ring.moment m) (added_by (node_at w.ring.nodes q).ports) d au) (listening_at w whole.placed q h))

  state_is : (k : ℕ) → get_or said.generators k None ≡ state_at k
  state_is k = ap (λ (s : Sending). get_or s.generators k None) (informed_out w q d)

  state_after : (k : ℕ) → get_or (sending_on d (node_at (round w).ring.nodes q)).generators k None
      ≡ get_or (after_sending fed said).generators k None
  state_after k =
      ap (λ (m : Node). get_or (sending_on d m).generators k None) (nodes_after w whole.placed q h)
      ∙ ap (λ (s : Sending). get_or s.generators k None) (sending_after w.ring.moment sender d)

  -- a generator goes on by what goes into its AU-4
  pub generator_step : (k : ℕ) → k + 1 ≤ n_of rate → get_or (sending_on d (node_at (round w).ring.nodes q)).generators k None
      ≡ next_sending (state_at k) (sent_at w q d (k + 1)).action (sent_at w q d (k + 1)).value
  generator_step k high =
      let s = state_is k in
      let i = fed_is (k + 1) in
      state_after k ∙ (node_sends rate w.ring.moment sender d (sends_at w whole q d h)).goes k high
      ∙ λ t. next_sending (s t) (i t).action (i t).value

  -- an AU-4 in the frame that leaves is what its generator makes of what goes into it
  pub au_left : (line : List ℕ) → carried_on (round w).fibres (fibre q d) ≡ Some line → (k : ℕ) → k + 1 ≤ n_of rate
      → au_of (n_of rate) (k + 1) (scrambled (9 * n_of rate) line) ≡ au_sent (state_at k) (sent_at w q d (k + 1))
  au_left line there k high =
      let full =
      fed_full (lines_of (crossing w.ring.moment sender)) (node_at w.ring.nodes q).ports (leads (crossing w.ring.moment sender) d) in
      let same : line ≡ line_frame_from fed said =
      same_line line _ _ there (carried_after w whole q d h) ∙ frame_is w.ring.moment sender d in
      let s = state_is k in
      let i = fed_is (k + 1) in
      ap (λ l. au_of (n_of rate) (k + 1) (scrambled (9 * n_of rate) l)) same
      ∙ (node_sends rate w.ring.moment sender d (sends_at w whole q d h)).aus full k high
      ∙ λ t. au_sent (s t) (i t)

-- ---- a node that receives, not in round 0

module _ (w : World) (whole : IsWhole w) (ran : 0 < w.ring.rounds) (p : ℕ) (d : Side) (h : p < length w.ring.nodes) where
  abbrev old_readings : List Reading
  old_readings = (receiving_on d (node_at w.ring.nodes p)).readings

  abbrev new_readings : List Reading
  new_readings = (receiving_on d (node_at (round w).ring.nodes p)).readings

  -- the bytes that it takes in
  abbrev pub taken_at : List ℕ
  taken_at = (line_on (lines_at w p) d).intake.frame.bytes

  pub took_in : TookIn w.ring.settings.rate (lines_at w p) d old_readings
  took_in =
      let finds = side_finds w whole p d ran h in
      record {
        rate_is = ap (λ (l : Line). l.intake.frame.rate) (line_is w whole p d h) ∙ finds.rate;
        acts = (reads w whole p d h).acts ran;
        left =
            subst (λ (l : Line). l.readings ≡ after_frame (n_of w.ring.settings.rate) l.intake.frame.bytes old_readings)
            (sym (line_is w whole p d h)) finds.reads;
      }

  -- each interpreter takes the word in its AU-4
  pub takes_read : (k : ℕ) → k + 1 ≤ n_of w.ring.settings.rate
      → TakesWord (get_or old_readings k start) (get_or new_readings k start) (received (lines_at w p) d (k + 1))
      (pointer_word_at (n_of w.ring.settings.rate) taken_at (k + 1))
  takes_read k high =
      let few : k < length old_readings = omega (arith, ((whole.placed.sides p h).receives d).readings) in
      let is = side_reads w.ring.settings.rate (lines_at w p) d old_readings took_in k few in
      let next =
      ap (λ l. get_or l k start) ((reads w whole p d h).reads ran)
      ∙ reading_there (n_of w.ring.settings.rate) taken_at old_readings k few in
      record {
        reading = next;
        action = ap (λ (i : Input). i.action) is;
        value = ap (λ (i : Input). i.value) is
            ∙ ap (λ (r : Reading). r.value) (sym next);
      }

-- ---- one span: the side of a neighbour that sends in the round that begins with w, and the side that takes what comes in the next

module _ (w : World) (whole : IsWhole w) (p : ℕ) (d : Side) (lt : p < length w.ring.nodes) where
  abbrev v : World
  v = round w

  next : IsWhole v
  next = whole_round w whole

  abbrev q : ℕ
  q = neighbour (length w.ring.ids) p d

  abbrev e : Side
  e = opposite d

  qn : q < length w.ring.nodes
  qn = neighbour_inside w whole p d

  pn : p < length v.ring.nodes
  pn = omega (arith, length-after w)

  ran : 0 < v.ring.rounds
  ran = omega (arith, one_more w)

  abbrev c : Condition
  c = condition_to v p d

  abbrev old : Inlet
  old = inlet_at v next p d

  abbrev threshold : ℕ
  threshold = w.ring.settings.threshold

  no_ais : (said w whole q e qn).word.mark ≢ mark.MsAis
  no_ais =
      subst (λ k. k.mark ≢ mark.MsAis) (ap (last_word_on e) (nodes_after w whole.placed q qn) ∙ said_is w.ring.moment (sender w whole q e qn) e)
      (next.paired.never_ais q (let h = qn in omega (arith, length-after w)) e)

  is_span : IsSpan w.ring.settings.rate c (fed w whole q e qn) (said w whole q e qn) old
  unfolding any_round.round any_round.round_with
  is_span = record {
    may = may_at v next p d;
    sender = said_sender w.ring.settings.rate w.ring.moment (sender w whole q e qn) e (sends_at w whole q e qn);
    no_ais = no_ais;
    full =
        fed_full (lines_of (crossing w.ring.moment (sender w whole q e qn))) (node_at w.ring.nodes q).ports
        (leads (crossing w.ring.moment (sender w whole q e qn)) e);
    inlet = (told_side v next p d ran pn).inlet;
    told =
        told_later v p d ran ∙ ap Some (arrival_is v next p d
        ∙ ap (through (n_of w.ring.settings.rate) c) (carried_after w whole q e qn
        ∙ ap Some (frame_is w.ring.moment (sender w whole q e qn) e)));
  }

  left : (receiving_on d (node_at (round v).ring.nodes p)).readings ≡ (after_taking v.ring.settings.threshold old).readings
  left = ap (λ (i : Inlet). i.readings) (took_is v next p d pn).inlet

  module _ (k : ℕ) (high : k + 1 ≤ n_of w.ring.settings.rate) where
    -- the interpreter after a span takes the word that the generator before it sent in the round before
    pub interpreter_step : TakesWord (get_or (receiving_on d (node_at v.ring.nodes p)).readings k start)
        (get_or (receiving_on d (node_at (round v).ring.nodes p)).readings k start) (received (lines_at v p) d (k + 1))
        (word_behind (is_cut c) (word_sent (get_or (sending_on e (node_at w.ring.nodes q)).generators k None) (sent_at w q e (k + 1)).action
        (sent_at w q e (k + 1)).value))
    unfolding any_round.round any_round.round_with
    interpreter_step =
        let took =
        spans_take_words w.ring.settings.rate c (fed w whole q e qn) (said w whole q e qn) old threshold (lines_at v p) d k is_span
        (line_is v next p d pn) high in
        let new = sym (ap (λ rs. get_or rs k start) left) in
        let s = state_is w whole q e qn k in
        let i = fed_is w whole q e qn (k + 1) in
        subst (λ word. TakesWord (get_or (receiving_on d (node_at v.ring.nodes p)).readings k start)
        (get_or (receiving_on d (node_at (round v).ring.nodes p)).readings k start) (received (lines_at v p) d (k + 1))
        (word_behind (is_cut c) word))
        (λ t. word_sent (s t) (i t).action (i t).value)
        (subst (λ r. TakesWord (get_or (receiving_on d (node_at v.ring.nodes p)).readings k start) r (received (lines_at v p) d (k + 1))
        (word_behind (is_cut c) (word_sent (get_or (said w whole q e qn).generators k None) (fed w whole q e qn (k + 1)).action
        (fed w whole q e qn (k + 1)).value))) new took)

    -- where the fibre isn't cut, the AU-4 that comes is the one that the generator sent
    pub au_step : is_cut c ≡ false → (received (lines_at v p) d (k + 1)).au
        ≡ au_sent (get_or (sending_on e (node_at w.ring.nodes q)).generators k None) (sent_at w q e (k + 1))
    unfolding any_round.round any_round.round_with
    au_step clear =
        let there = carried_after w whole q e qn in
        let few : k < length (receiving_on d (node_at v.ring.nodes p)).readings =
        omega (arith, ((next.placed.sides p pn).receives d).readings) in
        ap (λ (i : Input). i.au) (side_reads v.ring.settings.rate (lines_at v p) d (receiving_on d (node_at v.ring.nodes p)).readings
        (took_in v next ran p d pn) k few)
        ∙ (reads v next p d pn).aus ran clear _ there (k + 1) (omega arith) high
        ∙ au_left w whole q e qn _ there k high

    -- in calm rounds
    module _ (calm0 : is_calm v.ring.nodes ≡ true) (calm1 : is_calm (round v).ring.nodes ≡ true) where
      still : (after_taking v.ring.settings.threshold old).readings ≡ old.readings
      still = sym left ∙ readings_on d (node_at (round v).ring.nodes p) (node_at v.ring.nodes p) (same_there v next calm1 p pn)

      kept : get_or (said w whole q e qn).generators k None
          ≡ next_sending (get_or (said w whole q e qn).generators k None) (fed w whole q e qn (k + 1)).action
          (fed w whole q e qn (k + 1)).value
      kept =
          state_is w whole q e qn k
          ∙ sym (ap (λ l. get_or l k None) (generators_on e (node_at v.ring.nodes q) (node_at w.ring.nodes q)
          (same_there w whole calm0 q qn)))
          ∙ state_after w whole q e qn k
          ∙ (node_sends w.ring.settings.rate w.ring.moment (sender w whole q e qn) e (sends_at w whole q e qn)).goes k high

      span_carries : is_failed (receiving_on d (node_at (round v).ring.nodes p)).local.defect ≡ false → (b : Outlet) → HasValue b
          → BringsDelivery (sent_at w q e (k + 1)) b → BringsDelivery (received (lines_at v p) d (k + 1)) b
      unfolding any_round.round any_round.round_with
      span_carries works b small is =
          spans_bring w.ring.settings.rate c (fed w whole q e qn) (said w whole q e qn) old threshold (lines_at v p) d k is_span
          (line_is v next p d pn) high (clear_where_it_works v next p d ran pn works) still kept b small
          (subst (λ i. BringsDelivery i b) (sym (fed_is w whole q e qn (k + 1))) is)

pub span : ASpanCarries
span w whole calm0 calm1 p d au b lt low high small works is =
    let q = neighbour (length w.ring.ids) p d in
    let k = au - 1 in
    let back : k + 1 ≡ au = omega arith in
    subst (λ a. BringsDelivery (received (lines_at (round w) p) d a) b) back
    (span_carries w whole p d (omega (arith, count w whole.placed)) k (omega arith) calm0 calm1 works b small
    (subst (λ a. BringsDelivery (sent_at w q (opposite d) a) b) (sym back) is))
