-- A round of a path ring whose nodes are in their places and whose fibres carry what they sent.
use Rattle.std.proofs.Common.{◌≡◌, ℕ, zero, suc, ◌+◌, ◌*◌, ◌<◌, List, [], ◌∷◌, length, get_or, map, Some, None, refl, ap, sym, subst, ◌∙◌}
use Rattle.std.proofs.Common.{arith, inl, inr}
use Rattle.std.proofs.lemmas.Bool.{cases_lt}
use Rattle.std.proofs.lemmas.List.{get_or_past}
use Rattle.sdh_ringmap.specs.Rates.{n_of}
use Rattle.sdh_ringmap.specs.declared.Side.{Side}
use Rattle.sdh_ringmap.specs.declared.Side.TheVariants.{West, East}
use Rattle.sdh_ringmap.specs.Places.{neighbour, opposite}
use Rattle.sdh_ringmap.proofs.Sides.{neighbour_below}
use Rattle.sdh_kbytes.specs.declared.K.{K}
use Rattle.sdh_nodestate.specs.Words.{first_word}
use Rattle.sdh_plant.specs.Fibres.{IsPrepared, IsHonest}
use Rattle.sdh_ringmap.specs.Fibres.{IsConditionAt, fibre, fibre_to}
use Rattle.sdh_ringmap.specs.declared.terms.Condition.TheVariants.{Clear}
use Rattle.sdh_plant.specs.Arrivals.{through, carried_on, condition_of}
use Rattle.sdh_terminal.specs.Receiving.{Inlet, after_taking}
use Rattle.sdh_terminal.specs.Lines.{line_on}
use Rattle.sdh_terminal.specs.Sending.{Sending}
use Rattle.sdh_rounds.specs.Rounds as any_round
use Rattle.sdh_rounds.specs.Rounds.{arrival_at, sent_all}
use Rattle.sdh_rounds.specs.Runs as any_run
use Rattle.sdh_rounds.proofs.Runs.{length-heard, prepared_round, count_round, held_round, conditions_round}
use Rattle.sdh_rounds.proofs.Honest.{honest_rounds}
use Rattle.sdh_rounds.proofs.Terms.{terms}
use Rattle.sdh_spans.specs.Frames.{SaysWord, CarriesWord}
use Rattle.sdh_spans.specs.Sides.{IsSenderAt, IsTold}
use Rattle.sdh_spans.specs.Spans.{line_after}
use Rattle.sdh_sncp.specs.Node.{PathNode, lines_of, path_crossing, inlet_on, path_sending_on}
use Rattle.sdh_sncp.specs.Stations.{path_node}
use Rattle.sdh_sncp.specs.Ring.{HeldPath, path_node_at, World, path_sent_on, frames_of, nodes_with, arrivals_of, round, run}
use Rattle.sdh_sncp.specs.Laws.{IsPairedPathRing, IsWholePathRing, path_condition_to}
use Rattle.sdh_sncp.proofs.Nodes.{placed_round, told_to, told_later, informed, informed_on, informed_out, listening_at, nodes_after}
use Rattle.sdh_sncp.proofs.Nodes.{length-after, inlet_after, line_taken, frame_is, node_sends}

module _ (w : World) (whole : IsWholePathRing w) where
  abbrev size : ℕ
  size = length w.ring.ids

  open terms w use {rate, t}

  abbrev old_on : ℕ → Side → Inlet
  old_on p d = inlet_on d (path_node_at w.ring.nodes p)

  abbrev new_on : ℕ → Side → Inlet
  new_on p d = inlet_on d (path_node_at (round w).ring.nodes p)

  -- the word that the neighbour on a side of position p sends towards p
  abbrev pub word_to : ℕ → Side → K
  word_to p d = first_word w.ring.ids (neighbour size p d) (opposite d)

  pub neighbour_inside : (p : ℕ) (d : Side) → neighbour size p d < length w.ring.nodes
  neighbour_inside p d =
      let below : neighbour size p d < size = neighbour_below size p d (let e = whole.placed.ids.enough in omega arith) in let e =
      whole.placed.size in omega arith

  -- ---- what arrives

  pub may_at : (p : ℕ) (d : Side) → IsConditionAt rate (path_condition_to w p d)
  may_at p d =
      let cs = w.fibres.conditions in
      let i = fibre_to size p d in
      elim (cases_lt i (length cs)) [
        | inl lt ↦ whole.paired.prepared.each i Clear lt
        | inr past ↦ subst (IsConditionAt rate) (sym (get_or_past cs i Clear past)) tt
      ]

  pub arrival_is : (p : ℕ) (d : Side) → arrival_at w.fibres p d
      ≡ through (n_of rate) (path_condition_to w p d) (carried_on w.fibres (fibre_to size p d))
  arrival_is p d =
      let f = w.fibres in
      (honest_rounds path_node).arrives f p d whole.paired.honest
      ∙ ap (λ r. through (n_of r) (condition_of f (fibre_to f.nodes p d)) (carried_on f (fibre_to f.nodes p d))) whole.paired.prepared.rate
      ∙ ap (λ n. through (n_of rate) (condition_of f (fibre_to n p d)) (carried_on f (fibre_to n p d))) whole.paired.prepared.nodes

  -- the frame that was sent to a side
  pub sent_to : (p : ℕ) (d : Side) → 0 < t → CarriesWord rate (word_to p d) (carried_on w.fibres (fibre_to size p d))
  sent_to p d some = (whole.paired.carried (neighbour size p d) (neighbour_inside p d)).frames (opposite d) some

  -- ---- a side

  -- side d of position p with what arrives there
  abbrev pub inlet_at : ℕ → Side → Inlet
  inlet_at p d = record (old_on p d) { arrived = told_to w p d }

  abbrev pub threshold_at : ℕ → ℕ
  threshold_at p = (informed w p).threshold

  pub told_side : (p : ℕ) (d : Side) (some : 0 < t) → p < length w.ring.nodes
      → IsTold rate (path_condition_to w p d) (word_to p d) (sent_to p d some).line (inlet_at p d)
  told_side p d some h =
      let sent = sent_to p d some in
      record {
        may = may_at p d;
        says = sent.says;
        no_ais = λ e. cc;
        inlet = (let r = (whole.placed.places p h).inlets d in record { rate = r.rate; readings = r.readings });
        told = told_later w p d some ∙ ap Some (arrival_is p d ∙ ap (through (n_of rate) (path_condition_to w p d)) sent.there);
      }

  -- what the round leaves of the side
  pub side_is : (p : ℕ) (d : Side) → p < length w.ring.nodes → new_on p d ≡ after_taking (threshold_at p) (inlet_at p d)
  side_is p d h =
      ap (inlet_on d) (nodes_after w whole.placed p h) ∙ inlet_after (informed w p) d
      ∙ ap (after_taking (threshold_at p)) (informed_on w p d)

  -- what the side is in the cross-connect of the round
  pub line_is : (p : ℕ) (d : Side) → line_on (lines_of (path_crossing (informed w p))) d ≡ line_after (threshold_at p) (inlet_at p d)
  line_is p d = line_taken (informed w p) d ∙ ap (line_after (threshold_at p)) (informed_on w p d)

  -- ---- what the fibres carry after the round

  frame_there : (ns : List PathNode) (p : ℕ) (d : Side) → p < length ns
      → get_or (map Some (frames_of w.ring.moment ns)) (fibre p d) None ≡ Some (path_sent_on d (path_node_at ns p))
  frame_there [] p d h = absurd (omega arith)
  frame_there (n ∷ ns) zero West h = refl
  frame_there (n ∷ ns) zero East h = refl
  frame_there (n ∷ ns) (suc p) West h =
      let i : 2 * suc p ≡ suc (suc (2 * p)) = omega arith in
      ap (λ k. get_or (map Some (frames_of w.ring.moment (n ∷ ns))) k None) i ∙ frame_there ns p West (omega arith)
  frame_there (n ∷ ns) (suc p) East h =
      let i : 2 * suc p + 1 ≡ suc (suc (2 * p + 1)) = omega arith in
      ap (λ k. get_or (map Some (frames_of w.ring.moment (n ∷ ns))) k None) i ∙ frame_there ns p East (omega arith)

  pub carried_after : (p : ℕ) (d : Side) → p < length w.ring.nodes
      → carried_on (round w).fibres (fibre p d) ≡ Some (path_sent_on d (informed w p))
  unfolding any_round.round any_round.round_with sent_all
  carried_after p d h =
      frame_there (nodes_with (arrivals_of w) w) p d (let e = length-heard path_node (arrivals_of w) w.ring.nodes in omega arith)
      ∙ ap (λ n. Some (path_sent_on d n)) (listening_at w whole.placed p h)

  pub sends_at : (p : ℕ) (d : Side) → p < length w.ring.nodes → IsSenderAt rate (path_sending_on d (informed w p))
  sends_at p d h = subst (IsSenderAt rate) (sym (informed_out w p d)) ((whole.placed.places p h).senders d)

  -- the word that a node says
  pub word_is : (p : ℕ) (d : Side) → p < length w.ring.nodes → (path_sending_on d (informed w p)).word ≡ first_word w.ring.ids p d
  word_is p d h = ap (λ (x : Sending). x.word) (informed_out w p d) ∙ (whole.placed.places p h).words d

  frame_says : (p : ℕ) (d : Side) → p < length w.ring.nodes → SaysWord rate (first_word w.ring.ids p d) (path_sent_on d (informed w p))
  frame_says p d h =
      subst (λ k. SaysWord rate k (path_sent_on d (informed w p))) (word_is p d h)
      (subst (SaysWord rate (path_sending_on d (informed w p)).word) (sym (frame_is (informed w p) d))
      (node_sends (informed w p) rate d (sends_at p d h)).says)

  prepared_after : IsPrepared rate size (round w).fibres
  unfolding any_round.round
  prepared_after =
      let c = whole.placed.size in
      subst (λ n. IsPrepared rate n (round w).fibres) c (prepared_round path_node rate (arrivals_of w) w
      (subst (λ n. IsPrepared rate n w.fibres) (sym c) whole.paired.prepared))

  honest_after : IsHonest (round w).fibres
  unfolding any_round.round
  honest_after = (honest_rounds path_node).round w (arrivals_of w) whole.paired.honest

  pub paired_after : IsPairedPathRing (round w)
  unfolding any_round.round any_round.round_with
  paired_after = record {
    honest = honest_after;
    prepared = prepared_after;
    carried = λ p h. (let low : p < length w.ring.nodes = omega (arith, length-after w) in record {
      dark = λ d e. absurd (omega arith);
      frames = λ d some. record { line = path_sent_on d (informed w p); there = carried_after p d low; says = frame_says p d low };
    });
  }

pub whole_round : (w : World) → IsWholePathRing w → IsWholePathRing (round w)
unfolding any_round.round
whole_round w whole = record { placed = placed_round w (arrivals_of w) whole.placed; paired = paired_after w whole }

pub whole_run : (w : World) (k : ℕ) → IsWholePathRing w → IsWholePathRing (run k w)
unfolding any_run.run
whole_run w zero whole = whole
whole_run w (suc k) whole = whole_round (run k w) (whole_run w k whole)

-- ---- what a run leaves

pub record IsLeft (w v : World) (k : ℕ) : Type 0 where
  pub settings : v.ring.settings ≡ w.ring.settings
  pub ids : v.ring.ids ≡ w.ring.ids
  pub circuits : v.ring.circuits ≡ w.ring.circuits
  pub conditions : v.fibres.conditions ≡ w.fibres.conditions
  pub rounds : v.ring.rounds ≡ w.ring.rounds + k
  pub nodes : length v.ring.nodes ≡ length w.ring.nodes

left_round : (w v : World) (k : ℕ) → IsLeft w v k → IsLeft w (round v) (suc k)
unfolding any_round.round
left_round w v k is =
    let held = held_round path_node (arrivals_of v) v in
    record {
      settings = ap (λ (r : HeldPath). r.settings) held ∙ is.settings;
      ids = ap (λ (r : HeldPath). r.ids) held ∙ is.ids;
      circuits = ap (λ (r : HeldPath). r.circuits) held ∙ is.circuits;
      conditions = conditions_round path_node (arrivals_of v) v ∙ is.conditions;
      rounds = let e = is.rounds in let f : (round v).ring.rounds ≡ v.ring.rounds + 1 = ap (λ (r : HeldPath). r.rounds) held in omega arith;
      nodes = count_round path_node (arrivals_of v) v ∙ is.nodes;
    }

pub left_run : (k : ℕ) (w : World) → IsLeft w (run k w) k
unfolding any_run.run
left_run zero w = record { settings = refl; ids = refl; circuits = refl; conditions = refl; rounds = omega arith; nodes = refl }
left_run (suc k) w = left_round w (run k w) k (left_run k w)
