-- The spans of a path ring: what was sent into an AU-4 comes out of it one round later, or AIS where its fibre is cut.
use Rattle.std.proofs.Common.{◌≡◌, ◌≢◌, ℕ, ◌+◌, ◌<◌, ◌≤◌, true, false, length, get_or, Option, Some, None, ap, sym, ◌∙◌, subst, arith}
use Rattle.sdh_ringmap.specs.Rates.{n_of}
use Rattle.sdh_ringmap.specs.Places.{opposite, neighbour}
use Rattle.sdh_ringmap.specs.declared.Side.{Side}
use Rattle.sdh_kbytes.specs.declared.Mark.TheVariants as mark
use Rattle.sdh_payload.specs.Outlet.{Outlet, silent}
use Rattle.sdh_pointer.specs.Reading.{start}
use Rattle.sdh_pointer.specs.Sending.{word_sent, next_sending}
use Rattle.sdh_ringmap.specs.declared.terms.Condition.{Condition}
use Rattle.sdh_ringmap.specs.Fibres.{is_cut}
use Rattle.sdh_plant.specs.Arrivals.{through}
use Rattle.sdh_terminal.specs.Passing.{Input}
use Rattle.sdh_terminal.specs.Receiving.{Inlet, after_taking}
use Rattle.sdh_terminal.specs.Lines.{received}
use Rattle.sdh_terminal.specs.Sending.{Sending}
use Rattle.sdh_rounds.specs.Rounds as any_round
use Rattle.sdh_rounds.proofs.Terms.{terms}
use Rattle.sdh_spans.specs.Brought.{BringsDelivery, HasValue}
use Rattle.sdh_spans.specs.Spans.{IsSpan, TakesWord, word_behind}
use Rattle.sdh_spans.proofs.Sends.{fed_full}
use Rattle.sdh_spans.proofs.Spans.{spans_take_words, spans_bring, cut_spans_bring_ais}
use Rattle.sdh_sncp.specs.Node.{PathNode, PathCross, lines_of, path_leads, path_crossing, inlet_on, path_sending_on}
use Rattle.sdh_sncp.specs.Ring.{path_node_at, World, round, is_calm}
use Rattle.sdh_sncp.specs.Laws.{IsWholePathRing, path_condition_to, cut_in}
use Rattle.sdh_sncp.proofs.Nodes.{puts, informed, informed_out, told_later, nodes_after, length-after, one_more, frame_is, sending_after}
use Rattle.sdh_sncp.proofs.Nodes.{node_sends}
use Rattle.sdh_sncp.proofs.Rounds.{neighbour_inside, may_at, arrival_is, inlet_at, threshold_at, told_side, side_is, line_is, carried_after}
use Rattle.sdh_sncp.proofs.Rounds.{sends_at, word_is, whole_round}
use Rattle.sdh_sncp.proofs.Calm.{same_there}

-- ---- in the round that begins with this world

-- the cross-connect of the node at position p, and what goes into AU-4 number au that leaves it on side d
abbrev pub crossing_at : World → ℕ → PathCross
crossing_at w p = path_crossing (informed w p)

abbrev pub sent_at : World → ℕ → Side → ℕ → Input
sent_at w p d au = puts (informed w p) d au

-- what comes in AU-4 number au at position p on side d
abbrev pub came_at : World → ℕ → Side → ℕ → Input
came_at w p d au = received (lines_of (crossing_at w p)) d au

-- the state of a generator before the round
abbrev pub state_at : World → ℕ → Side → ℕ → Option ℕ
state_at w q d k = get_or (path_sending_on d (path_node_at w.ring.nodes q)).generators k None

-- ---- a node that sends

module _ (w : World) (whole : IsWholePathRing w) (q : ℕ) (d : Side) (h : q < length w.ring.nodes) where
  state_is : (k : ℕ) → get_or (path_sending_on d (informed w q)).generators k None ≡ state_at w q d k
  state_is k = ap (λ (s : Sending). get_or s.generators k None) (informed_out w q d)

  -- a generator goes on by what goes into its AU-4
  pub generator_step : (k : ℕ) → k + 1 ≤ n_of w.ring.settings.rate
      → get_or (path_sending_on d (path_node_at (round w).ring.nodes q)).generators k None
      ≡ next_sending (state_at w q d k) (sent_at w q d (k + 1)).action (sent_at w q d (k + 1)).value
  generator_step k high =
      ap (λ (m : PathNode). get_or (path_sending_on d m).generators k None) (nodes_after w whole.placed q h)
      ∙ ap (λ (s : Sending). get_or s.generators k None) (sending_after (informed w q) d)
      ∙ (node_sends (informed w q) w.ring.settings.rate d (sends_at w whole q d h)).goes k high
      ∙ ap (λ s. next_sending s (sent_at w q d (k + 1)).action (sent_at w q d (k + 1)).value) (state_is k)

-- ---- one span: the side of a neighbour that sends in the round that begins with w, and the side that takes what comes in the next

module _ (w : World) (whole : IsWholePathRing w) (p : ℕ) (d : Side) (lt : p < length w.ring.nodes) where
  abbrev v : World
  v = round w

  next : IsWholePathRing v
  next = whole_round w whole

  abbrev q : ℕ
  q = neighbour (length w.ring.ids) p d

  abbrev e : Side
  e = opposite d

  qn : q < length w.ring.nodes
  qn = neighbour_inside w whole p d

  pn : p < length v.ring.nodes
  pn = omega (arith, length-after w)

  ran : 0 < v.ring.rounds
  ran = omega (arith, one_more w)

  open terms w use {rate}

  abbrev c : Condition
  c = path_condition_to v p d

  abbrev sender : Sending
  sender = path_sending_on e (informed w q)

  abbrev old : Inlet
  old = inlet_at v next p d

  abbrev threshold : ℕ
  threshold = threshold_at v next p

  no_ais : sender.word.mark ≢ mark.MsAis
  no_ais = subst (λ k. k.mark ≢ mark.MsAis) (sym (word_is w whole q e qn)) (λ x. cc)

  is_span : IsSpan rate c (puts (informed w q) e) sender old
  unfolding any_round.round any_round.round_with
  is_span = record {
    may = may_at v next p d;
    sender = sends_at w whole q e qn;
    no_ais = no_ais;
    full = fed_full (lines_of (crossing_at w q)) (path_node_at w.ring.nodes q).ports (path_leads (crossing_at w q) e);
    inlet = (told_side v next p d ran pn).inlet;
    told =
        told_later v p d ran ∙ ap Some (arrival_is v next p d
        ∙ ap (through (n_of rate) c) (carried_after w whole q e qn ∙ ap Some (frame_is (informed w q) e)));
  }

  left : (inlet_on d (path_node_at (round v).ring.nodes p)).readings ≡ (after_taking threshold old).readings
  left = ap (λ (i : Inlet). i.readings) (side_is v next p d pn)

  module _ (k : ℕ) (high : k + 1 ≤ n_of w.ring.settings.rate) where
    -- the interpreter after a span takes the word that the generator before it sent in the round before
    pub interpreter_step : TakesWord (get_or (inlet_on d (path_node_at v.ring.nodes p)).readings k start)
        (get_or (inlet_on d (path_node_at (round v).ring.nodes p)).readings k start) (came_at v p d (k + 1))
        (word_behind (cut_in v p d) (word_sent (state_at w q e k) (sent_at w q e (k + 1)).action (sent_at w q e (k + 1)).value))
    interpreter_step =
        let took =
        spans_take_words rate c (puts (informed w q) e) sender old threshold (lines_of (crossing_at v p)) d k is_span
        (line_is v next p d) high in
        let new = sym (ap (λ rs. get_or rs k start) left) in
        subst (λ s. TakesWord (get_or (inlet_on d (path_node_at v.ring.nodes p)).readings k start)
        (get_or (inlet_on d (path_node_at (round v).ring.nodes p)).readings k start) (came_at v p d (k + 1))
        (word_behind (is_cut c) (word_sent s (sent_at w q e (k + 1)).action (sent_at w q e (k + 1)).value)))
        (state_is w whole q e qn k)
        (subst (λ r. TakesWord (get_or (inlet_on d (path_node_at v.ring.nodes p)).readings k start) r (came_at v p d (k + 1))
        (word_behind (is_cut c) (word_sent (get_or sender.generators k None) (sent_at w q e (k + 1)).action
        (sent_at w q e (k + 1)).value))) new took)

    -- in calm rounds
    module _ (calm0 : is_calm v.ring.nodes ≡ true) (calm1 : is_calm (round v).ring.nodes ≡ true) where
      still : (after_taking threshold old).readings ≡ old.readings
      still = sym left ∙ (same_there v next calm1 p pn).readings d

      kept : get_or sender.generators k None ≡ next_sending (get_or sender.generators k None) (sent_at w q e (k + 1)).action
          (sent_at w q e (k + 1)).value
      kept =
          state_is w whole q e qn k
          ∙ sym (ap (λ l. get_or l k None) ((same_there w whole calm0 q qn).generators e))
          ∙ generator_step w whole q e qn k high
          ∙ ap (λ s. next_sending s (sent_at w q e (k + 1)).action (sent_at w q e (k + 1)).value) (sym (state_is w whole q e qn k))

      -- over a fibre that isn't cut an AU-4 brings what the neighbour sent in the round before
      pub span_brings : cut_in v p d ≡ false → (b : Outlet) → HasValue b → BringsDelivery (sent_at w q e (k + 1)) b
          → BringsDelivery (came_at v p d (k + 1)) b
      span_brings clear b small is =
          spans_bring rate c (puts (informed w q) e) sender old threshold (lines_of (crossing_at v p)) d k is_span
          (line_is v next p d) high clear still kept b small is

-- after a span that is cut AIS comes
module _ (v : World) (whole : IsWholePathRing v) (ran : 0 < v.ring.rounds) (p : ℕ) (d : Side) (h : p < length v.ring.nodes) (k : ℕ)
    (high : k + 1 ≤ n_of v.ring.settings.rate) where
  pub span_silent : is_calm (round v).ring.nodes ≡ true → cut_in v p d ≡ true → BringsDelivery (came_at v p d (k + 1)) silent
  span_silent calm cut =
      let left = ap (λ (i : Inlet). i.readings) (side_is v whole p d h) in
      cut_spans_bring_ais v.ring.settings.rate (path_condition_to v p d) _ _ (inlet_at v whole p d) (threshold_at v whole p)
      (lines_of (crossing_at v p)) d k (told_side v whole p d ran h) (line_is v whole p d) high cut
      (sym left ∙ (same_there v whole calm p h).readings d)
