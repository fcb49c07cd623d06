-- The nodes of a path ring, one at a time, and what stays of them whatever arrives.
use Rattle.std.proofs.Common.{◌≡◌, ℕ, zero, suc, ◌+◌, ◌<◌, Bool, true, false, List, [], ◌∷◌, length, map, Option, Some, None, refl, ap, sym}
use Rattle.std.proofs.Common.{subst, ◌∙◌, arith}
use Rattle.std.specs.Prelude.{All, ◌==◌, if◌then◌else◌}
use Rattle.std.proofs.lemmas.Bool.{ne_eqb}
use Rattle.std.proofs.lemmas.List.{get_or-map}
use Rattle.sdh_basics.specs.Indexed.{map_from}
use Rattle.sdh_ringmap.specs.declared.terms.Rate.{Rate}
use Rattle.sdh_ringmap.specs.declared.Side.{Side}
use Rattle.sdh_ringmap.specs.declared.Side.TheVariants.{West, East}
use Rattle.sdh_payload.specs.declared.chunk.ChunkForm.{ChunkForm}
use Rattle.sdh_payload.specs.declared.chunk.ChunkForm.TheVariants.{Plain}
use Rattle.sdh_payload.specs.Clock.{next_form, after_form, ticked}
use Rattle.sdh_payload.specs.Feed.{Fed, next_feed}
use Rattle.sdh_payload.proofs.Clocking.{goes_plain}
use Rattle.sdh_plant.specs.Fibres.{Arrival, Fibres}
use Rattle.sdh_nodestate.specs.Words.{first_word}
use Rattle.sdh_terminal.specs.Receiving.{Inlet, after_taking}
use Rattle.sdh_terminal.specs.Passing.{Input}
use Rattle.sdh_terminal.specs.Lines.{line_on}
use Rattle.sdh_terminal.specs.Sending.{line_frame_from, after_sending}
use Rattle.sdh_terminal.specs.Tributaries.{Tributary, fed, all_fed, delivered_with}
use Rattle.sdh_rounds.specs.Rounds as any_round
use Rattle.sdh_rounds.specs.Rounds.{arrival_at, arrivals_from, receivers_in}
use Rattle.sdh_rounds.proofs.Runs.{length-heard, count_round}
use Rattle.sdh_spans.specs.Sides.{IsInletAt, IsSenderAt, SendsSo}
use Rattle.sdh_spans.specs.Spans.{line_after}
use Rattle.sdh_spans.proofs.Finding.{inlets_stay}
use Rattle.sdh_spans.proofs.Sends.{sides_send_so}
use Rattle.sdh_sncp.specs.Node.{PathNode, PathCross, lines_of, path_input_at, path_crossing, path_ports_after, path_dropped_to, after_path_crossing, path_with_calm}
use Rattle.sdh_sncp.specs.Node.{path_node_frames, path_node_round, inlet_on, path_sending_on}
use Rattle.sdh_sncp.specs.Stations.{path_node}
use Rattle.sdh_sncp.specs.Ring.{nowhere, path_node_at, AtEach, World, with_arrivals, all_with_arrivals, path_node_after, path_sent_on, arrivals_of}
use Rattle.sdh_sncp.specs.Ring.{nodes_with, round_with, round}
use Rattle.sdh_terminal.specs.Fixed.{fixed_port}
use Rattle.sdh_sncp.specs.Placed.{HasPlace, IsUnslippedFeed, HasRun, IsPathBetween, IsPlaced}
use Rattle.sdh_terminal.proofs.Found.{ports_mapped}

-- ---- lists

node_map : (f : PathNode → PathNode) (ns : List PathNode) (p : ℕ) → p < length ns → path_node_at (map f ns) p ≡ f (path_node_at ns p)
node_map f ns p h = get_or-map f ns p nowhere nowhere h

each_map : (P Q : ℕ → PathNode → Type 0) (f : PathNode → PathNode) → ((p : ℕ) (n : PathNode) → P p n → Q p (f n)) → (ns : List PathNode)
    → AtEach P ns → AtEach Q (map f ns)
each_map P Q f to [] each p h = absurd (omega arith)
each_map P Q f to (n ∷ ns) each zero h = to 0 n (each 0 (omega arith))
each_map P Q f to (n ∷ ns) each (suc p) h =
    each_map (λ q. P (suc q)) (λ q. Q (suc q)) f (λ q. to (suc q)) ns (λ q low. each (suc q) (omega arith)) p (omega arith)

each_heard : (P : ℕ → PathNode → Type 0) → ((p : ℕ) (a b : Arrival) (n : PathNode) → P p n → P p (with_arrivals a b n))
    → (xs : List Arrival) (ns : List PathNode) → AtEach P ns → AtEach P (all_with_arrivals xs ns)
each_heard P keep [] ns each p h = each p h
each_heard P keep (a ∷ []) ns each p h = each p h
each_heard P keep (a ∷ b ∷ later) [] each p h = absurd (omega arith)
each_heard P keep (a ∷ b ∷ later) (n ∷ ns) each zero h = keep 0 a b n (each 0 (omega arith))
each_heard P keep (a ∷ b ∷ later) (n ∷ ns) each (suc p) h =
    each_heard (λ q. P (suc q)) (λ q. keep (suc q)) later ns (λ q low. each (suc q) (omega arith)) p (omega arith)

-- ---- one node in its round

-- what goes into the AU-4s that leave a node on a side
abbrev pub puts : PathNode → Side → ℕ → Input
puts n d = path_input_at (path_crossing n) n.ports d

module _ (n : PathNode) where
  pub inlet_after : (d : Side) → inlet_on d (path_node_after n) ≡ after_taking n.threshold (inlet_on d n)
  unfolding path_node_round path_with_calm after_path_crossing path_crossing
  inlet_after West = refl
  inlet_after East = refl

  -- what a side is in the cross-connect of the round
  pub line_taken : (d : Side) → line_on (lines_of (path_crossing n)) d ≡ line_after n.threshold (inlet_on d n)
  unfolding path_crossing
  line_taken West = refl
  line_taken East = refl

  pub rounds_after : (path_node_after n).rounds ≡ n.rounds + 1
  unfolding path_node_round path_with_calm after_path_crossing
  rounds_after = refl

  pub uses_after : (path_node_after n).uses ≡ n.uses
  unfolding path_node_round path_with_calm after_path_crossing
  uses_after = refl

  pub sending_after : (d : Side) → path_sending_on d (path_node_after n) ≡ after_sending (puts n d) (path_sending_on d n)
  unfolding path_node_round path_with_calm after_path_crossing
  sending_after West = refl
  sending_after East = refl

  pub word_after : (d : Side) → (path_sending_on d (path_node_after n)).word ≡ (path_sending_on d n).word
  unfolding path_node_round path_with_calm after_path_crossing after_sending
  word_after West = refl
  word_after East = refl

  -- the frame that goes out on a side
  pub frame_is : (d : Side) → path_sent_on d n ≡ line_frame_from (puts n d) (path_sending_on d n)
  unfolding path_node_round path_node_frames
  frame_is West = refl
  frame_is East = refl

  pub node_sends : (at : Rate) (d : Side) → IsSenderAt at (path_sending_on d n) → SendsSo at (puts n d) (path_sending_on d n)
  node_sends at d is = sides_send_so at (puts n d) (path_sending_on d n) is

  sender_after : (at : Rate) (d : Side) → IsSenderAt at (path_sending_on d n) → IsSenderAt at (path_sending_on d (path_node_after n))
  sender_after at d is = subst (IsSenderAt at) (sym (sending_after d)) (node_sends at d is).stays

-- ---- its sides between rounds

inlet_met : (at : Rate) (d : Side) (a b : Arrival) (n : PathNode) → IsInletAt at (inlet_on d n)
    → IsInletAt at (inlet_on d (with_arrivals a b n))
unfolding any_round.with_arrivals
inlet_met at West a b n is = record { rate = is.rate; readings = is.readings }
inlet_met at East a b n is = record { rate = is.rate; readings = is.readings }

sender_met : (at : Rate) (d : Side) (a b : Arrival) (n : PathNode) → IsSenderAt at (path_sending_on d n)
    → IsSenderAt at (path_sending_on d (with_arrivals a b n))
unfolding any_round.with_arrivals
sender_met at West a b n is = is
sender_met at East a b n is = is

-- ---- its ports

ports_kept : (x : PathCross) (ports : List Tributary) → map fixed_port (path_ports_after x ports) ≡ map fixed_port ports
unfolding path_ports_after all_fed
ports_kept x ports =
    ports_mapped (λ i t. fed t) 0 (map_from (λ i t. delivered_with (path_dropped_to x) t) 0 ports) (λ k t. refl)
    ∙ ports_mapped (λ i t. delivered_with (path_dropped_to x) t) 0 ports (λ k t. refl)

pub fixed_ports_after : (n : PathNode) → map fixed_port (path_node_after n).ports ≡ map fixed_port n.ports
unfolding path_node_round path_with_calm after_path_crossing
fixed_ports_after n = ports_kept (path_crossing n) n.ports

-- Q holds of each port's feed after a round, if P held before it and the round makes Q of P
feeds_after : (P Q : Fed → Type 0) → ((f : Fed) → P f → Q (next_feed f)) → (x : PathCross) (i j : ℕ) (ts : List Tributary)
    → All (λ (t : Tributary). P t.feed) ts
    → All (λ (t : Tributary). Q t.feed) (map_from (λ i t. fed t) i (map_from (λ i t. delivered_with (path_dropped_to x) t) j ts))
feeds_after P Q to x i j [] all m d lt = absurd (omega arith)
feeds_after P Q to x i j (t ∷ ts) all zero d lt = to t.feed (all 0 d (omega arith))
feeds_after P Q to x i j (t ∷ ts) all (suc m) d lt =
    feeds_after P Q to x (i + 1) (j + 1) ts (λ a e low. all (suc a) e (omega arith)) m d (omega arith)

feeds_next : (P Q : Fed → Type 0) → ((f : Fed) → P f → Q (next_feed f)) → (n : PathNode) → All (λ (t : Tributary). P t.feed) n.ports
    → All (λ (t : Tributary). Q t.feed) (path_node_after n).ports
unfolding path_node_round path_with_calm after_path_crossing path_ports_after all_fed
feeds_next P Q to n all = feeds_after P Q to (path_crossing n) 0 0 n.ports all

plain_after : (rounds : ℕ) (feed : Fed) (form : ChunkForm) → form ≡ Plain → IsUnslippedFeed rounds feed
    → IsUnslippedFeed (rounds + 1) (record feed { clock = after_form form feed.clock })
plain_after rounds feed form e is =
    subst (λ f. IsUnslippedFeed (rounds + 1) (record feed { clock = after_form f feed.clock })) (sym e)
    (record { ups = is.ups; downs = is.downs; sent = (let s = is.sent in omega arith); value = is.value })

pub unslipped_plain : (rounds : ℕ) (feed : Fed) → IsUnslippedFeed rounds feed → next_form feed.clock ≡ Plain
unslipped_plain rounds feed is = goes_plain feed.clock (let a = is.ups in let b = is.downs in omega arith)

unslipped_next : (rounds : ℕ) (feed : Fed) → IsUnslippedFeed rounds feed → IsUnslippedFeed (rounds + 1) (next_feed feed)
unfolding ticked
unslipped_next rounds feed is = plain_after rounds feed (next_form feed.clock) (unslipped_plain rounds feed is) is

-- ---- what stays of each

module _ (w : World) where
  place_met : (p : ℕ) (a b : Arrival) (n : PathNode) → HasPlace w.ring p n → HasPlace w.ring p (with_arrivals a b n)
  unfolding any_round.with_arrivals
  place_met p a b n is = record {
    uses = is.uses;
    ports = is.ports;
    inlets = λ d. inlet_met w.ring.settings.rate d a b n (is.inlets d);
    senders = λ d. sender_met w.ring.settings.rate d a b n (is.senders d);
    words = word_met;
  }
    where
      word_met : (d : Side) → (path_sending_on d (with_arrivals a b n)).word ≡ first_word w.ring.ids p d
      word_met West = is.words West
      word_met East = is.words East

  place_next : (p : ℕ) (n : PathNode) → HasPlace w.ring p n → HasPlace w.ring p (path_node_after n)
  place_next p n is = record {
    uses = uses_after n ∙ is.uses;
    ports = fixed_ports_after n ∙ is.ports;
    inlets =
        λ d. subst (IsInletAt w.ring.settings.rate) (sym (inlet_after n d))
        (inlets_stay w.ring.settings.rate n.threshold (inlet_on d n) (is.inlets d));
    senders = λ d. sender_after n w.ring.settings.rate d (is.senders d);
    words = λ d. word_after n d ∙ is.words d;
  }

  run_met : (rounds p : ℕ) (a b : Arrival) (n : PathNode) → HasRun rounds n → HasRun rounds (with_arrivals a b n)
  unfolding any_round.with_arrivals
  run_met rounds p a b n is = record { ran = is.ran; clocks = is.clocks }

  between_next : (rounds p : ℕ) (n : PathNode) → HasRun rounds n → IsPathBetween (rounds + 1) (path_node_after n)
  unfolding after_taking
  between_next rounds p n is = record {
    run = record {
      ran = rounds_after n ∙ ap (λ k. k + 1) is.ran;
      clocks = feeds_next (IsUnslippedFeed rounds) (IsUnslippedFeed (rounds + 1)) (unslipped_next rounds) n is.clocks;
    };
    fresh = λ d. ap (λ (i : Inlet). i.arrived) (inlet_after n d) ∙ fresh_of n.threshold (inlet_on d n);
  }
    where
      fresh_of : (threshold : ℕ) (i : Inlet) → (after_taking threshold i).arrived ≡ None
      fresh_of threshold i = refl

  pub placed_round : (xs : List Arrival) → IsPlaced w → IsPlaced (round_with xs w)
  unfolding any_round.round_with
  placed_round xs placed =
      let ns = w.ring.nodes in
      let t = w.ring.rounds in
      record {
        ids = placed.ids;
        size = count_round path_node xs w ∙ placed.size;
        places =
            λ p h. (let is = each_map (HasPlace w.ring) (HasPlace w.ring) path_node_after place_next (nodes_with xs w)
            (each_heard (HasPlace w.ring) place_met xs ns placed.places) p h in
            record { uses = is.uses; ports = is.ports; inlets = is.inlets; senders = is.senders; words = is.words });
        between =
            each_map (λ p n. HasRun t n) (λ p n. IsPathBetween (t + 1) n) path_node_after (between_next t) (nodes_with xs w)
            (each_heard (λ p n. HasRun t n) (run_met t) xs ns (λ p h. (placed.between p h).run));
      }

-- ---- what arrives at a node

-- what arrives on a side before the round that begins with this world: nothing in round 0
abbrev pub told_to : World → ℕ → Side → Option Arrival
told_to w p d = if w.ring.rounds == 0 then None else Some (arrival_at w.fibres p d)

abbrev told_both : Option Arrival → Option Arrival → PathNode → PathNode
told_both a b n = record n { west = record n.west { arrived = a }; east = record n.east { arrived = b } }

-- the node at position p with what arrives there
abbrev pub informed : World → ℕ → PathNode
informed w p = told_both (told_to w p West) (told_to w p East) (path_node_at w.ring.nodes p)

pub informed_on : (w : World) (p : ℕ) (d : Side) → inlet_on d (informed w p)
    ≡ record (inlet_on d (path_node_at w.ring.nodes p)) { arrived = told_to w p d }
informed_on w p West = refl
informed_on w p East = refl

pub informed_out : (w : World) (p : ℕ) (d : Side) → path_sending_on d (informed w p) ≡ path_sending_on d (path_node_at w.ring.nodes p)
informed_out w p West = refl
informed_out w p East = refl

heard_at : (f : Fibres) (q k : ℕ) (ns : List PathNode) (p : ℕ) → p < k → p < length ns
    → path_node_at (all_with_arrivals (arrivals_from f q k) ns) p
    ≡ told_both (Some (arrival_at f (q + p) West)) (Some (arrival_at f (q + p) East)) (path_node_at ns p)
unfolding any_round.with_arrivals
heard_at f q zero ns p h low = absurd (omega arith)
heard_at f q (suc k) [] p h low = absurd (omega arith)
heard_at f q (suc k) (n ∷ ns) zero h low =
    ap (λ i. told_both (Some (arrival_at f i West)) (Some (arrival_at f i East)) n) (let e : q ≡ q + 0 = omega arith in e)
heard_at f q (suc k) (n ∷ ns) (suc p) h low =
    heard_at f (q + 1) k ns p (omega arith) (omega arith)
    ∙ ap (λ i. told_both (Some (arrival_at f i West)) (Some (arrival_at f i East)) (path_node_at ns p))
    (let e : q + 1 + p ≡ q + suc p = omega arith in e)

told_none : (n : PathNode) → n.west.arrived ≡ None → n.east.arrived ≡ None → n ≡ told_both None None n
told_none n west east = ap (λ a. told_both a n.east.arrived n) west ∙ ap (λ b. told_both None b n) east

module _ (w : World) (placed : IsPlaced w) where
  pub listening_at : (p : ℕ) → p < length w.ring.nodes → path_node_at (nodes_with (arrivals_of w) w) p ≡ informed w p
  unfolding any_round.arrivals_of receivers_in
  listening_at p h = by_test (w.ring.rounds == 0)
    where
      by_test : (b : Bool) → path_node_at (all_with_arrivals (arrivals_from w.fibres 0 (if b then 0 else length w.ring.ids)) w.ring.nodes) p
          ≡ told_both (if b then None else Some (arrival_at w.fibres p West)) (if b then None else Some (arrival_at w.fibres p East))
          (path_node_at w.ring.nodes p)
      by_test true = let is = placed.between p h in told_none (path_node_at w.ring.nodes p) (is.fresh West) (is.fresh East)
      by_test false =
          heard_at w.fibres 0 (length w.ring.ids) w.ring.nodes p (let e = placed.size in omega arith) h
          ∙ ap (λ i. told_both (Some (arrival_at w.fibres i West)) (Some (arrival_at w.fibres i East)) (path_node_at w.ring.nodes p))
          (let e : 0 + p ≡ p = omega arith in e)

  pub nodes_after : (p : ℕ) → p < length w.ring.nodes → path_node_at (round w).ring.nodes p ≡ path_node_after (informed w p)
  unfolding any_round.round any_round.round_with
  nodes_after p h =
      node_map path_node_after (nodes_with (arrivals_of w) w) p (let e = length-heard path_node (arrivals_of w) w.ring.nodes in omega arith)
      ∙ ap path_node_after (listening_at p h)

pub told_later : (w : World) (p : ℕ) (d : Side) → 0 < w.ring.rounds → told_to w p d ≡ Some (arrival_at w.fibres p d)
told_later w p d h = ap (λ (b : Bool). if b then None else Some (arrival_at w.fibres p d)) (ne_eqb w.ring.rounds 0 (λ z. omega arith))

pub length-after : (w : World) → length (round w).ring.nodes ≡ length w.ring.nodes
unfolding any_round.round
length-after w = count_round path_node (arrivals_of w) w

pub one_more : (w : World) → (round w).ring.rounds ≡ w.ring.rounds + 1
unfolding any_round.round any_round.round_with
one_more w = refl
