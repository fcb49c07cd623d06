-- The violations that a side finds in a frame, and those that the next frame will show it.
use Rattle.std.proofs.Common.{◌≡◌, ℕ, ◌+◌, ◌*◌, ◌<◌, false, List, length, Option, Some, ap, sym, ◌∙◌}
use Rattle.std.specs.Prelude.{nat_le, if◌then◌else◌}
use Rattle.sdh_ringmap.specs.declared.terms.Rate.{Rate}
use Rattle.sdh_ringmap.specs.Rates.{n_of}
use Rattle.sdh_ringmap.specs.declared.Side.{Side}
use Rattle.sdh_ringmap.specs.Places.{neighbour, opposite}
use Rattle.sdh_request.specs.declared.Defect.TheVariants as defect
use Rattle.sdh_parity.specs.Scrambling.{scrambled}
use Rattle.sdh_overhead.specs.Sections.{Parities, placed_after, parities_of, b2_in, b2_violations}
use Rattle.sdh_ringmap.specs.declared.terms.Condition.{Condition}
use Rattle.sdh_plant.specs.Fibres.{Arrival}
use Rattle.sdh_ringmap.specs.Fibres.{fibre, is_cut}
use Rattle.sdh_plant.specs.Arrivals.{carried_on}
use Rattle.sdh_request.specs.declared.settings.Settings.{Settings}
use Rattle.sdh_terminal.specs.Receiving.{Inlet, after_taking}
use Rattle.sdh_terminal.specs.Sending.{Sending}
use Rattle.sdh_node.specs.Receiving.{Receiving}
use Rattle.sdh_node.specs.Node.{Node, receiving_on, sending_on}
use Rattle.sdh_node.specs.Rings.Rounds.{World, round}
use Rattle.sdh_spans.specs.Frames.{violations_shown}
use Rattle.sdh_laws.specs.Hearing.Laws.{IsWhole}
use Rattle.sdh_laws.proofs.hearing.OneNode.{frame_on, frame_is, sending_after, node_sends}
use Rattle.sdh_laws.proofs.hearing.Nodes.{informed, informed_out, nodes_after}
use Rattle.sdh_laws.proofs.hearing.Rounds.{same_line, neighbour_inside, sent_to, inlet_at, made, nothing_found, side_finds, defect_clear}
use Rattle.sdh_laws.proofs.hearing.Rounds.{took_is, sends_at, carried_after}
use Rattle.sdh_node.specs.Rings.Held.{node_at}
use Rattle.sdh_node.specs.Rings.Sides.{condition_to}
use Rattle.sdh_rounds.proofs.Terms.{terms}

-- the sending section keeps the parities of the frame on its fibre
abbrev pub KeepsParities : Rate → ℕ → Arrival → Option Parities → Type 0
KeepsParities rate rounds a last =
    (line : List ℕ) → 0 < rounds → a ≡ Some line → last ≡ Some (parities_of (n_of rate) (scrambled (9 * n_of rate) line) line)

-- the frame on a fibre shows `shown` violations to a section that receives it
abbrev pub ShowsSo : Rate → ℕ → ℕ → Arrival → Option Parities → Type 0
ShowsSo rate shown rounds a last =
    (line : List ℕ) → 0 < rounds → a ≡ Some line → b2_violations (n_of rate) last (scrambled (9 * n_of rate) line) ≡ shown

module _ (w : World) (whole : IsWhole w) (p : ℕ) (d : Side) (h : p < length w.ring.nodes) where
  abbrev s : Settings
  s = w.ring.settings

  abbrev rate : Rate
  rate = s.rate

  abbrev n : ℕ
  n = n_of rate

  open terms w use {t}

  -- the neighbour, and the fibre that it sends on
  abbrev q : ℕ
  q = neighbour (length w.ring.ids) p d

  abbrev beside : q < length w.ring.nodes
  beside = neighbour_inside w whole p d

  abbrev c : Condition
  c = condition_to w p d

  abbrev r : Receiving
  r = receiving_on d (node_at w.ring.nodes p)

  -- the defect on a fibre that isn't cut, by what the frame on it shows
  pub defect_shown : (some : 0 < t) → is_cut c ≡ false → (shown : ℕ)
      → ShowsSo rate shown t (carried_on w.fibres (fibre q (opposite d))) r.section.last
      → (made w whole p d).defect ≡ (if nat_le s.threshold shown then defect.Sd else defect.None)
  defect_shown some clear shown shows =
      let sent = sent_to w whole p d some in
      defect_clear w whole p d some h clear ∙ ap (λ b. if nat_le s.threshold b then defect.Sd else defect.None)
      (shows sent.line some sent.there)

  -- ---- after the round

  abbrev after : Receiving
  after = receiving_on d (node_at (round w).ring.nodes p)

  abbrev sender : Node
  sender = informed w q

  -- the frame that the neighbour sends in the round
  abbrev sent : List ℕ
  sent = frame_on (opposite d) w.ring.moment sender

  sent_is : carried_on (round w).fibres (fibre q (opposite d)) ≡ Some sent
  sent_is = carried_after w whole q (opposite d) beside

  sent_b2 : b2_in n (scrambled (9 * n) sent) ≡ (placed_after n (sending_on (opposite d) (node_at w.ring.nodes q)).section.last).b2
  sent_b2 =
      ap (λ y. b2_in n (scrambled (9 * n) y)) (frame_is w.ring.moment sender (opposite d))
      ∙ (node_sends rate w.ring.moment sender (opposite d) (sends_at w whole q (opposite d) beside)).b2
      ∙ ap (λ y. (placed_after n y.section.last).b2) (informed_out w q (opposite d))

  violated : b2_violations n after.section.last (scrambled (9 * n) sent)
      ≡ b2_violations n (after_taking s.threshold (inlet_at w whole p d)).section.last (scrambled (9 * n) sent)
  violated = ap (λ (i : Inlet). b2_violations n i.section.last (scrambled (9 * n) sent)) (took_is w whole p d h).inlet

  -- where the side that sends kept the parities of the frame before
  violated_later : (some : 0 < t) → KeepsParities rate t (carried_on w.fibres (fibre q (opposite d)))
      (sending_on (opposite d) (node_at w.ring.nodes q)).section.last
      → b2_violations n after.section.last (scrambled (9 * n) sent) ≡ violations_shown c
  unfolding parities_of
  violated_later some kept =
      let before = sent_to w whole p d some in
      violated ∙ (side_finds w whole p d some h).shows sent (sent_b2 ∙ ap (λ l. (placed_after n l).b2) (kept before.line some before.there))

  -- what the next frame shows after round 0, and after a later round
  pub shows_first : t ≡ 0 → ShowsSo rate 0 (t + 1) (carried_on (round w).fibres (fibre q (opposite d))) after.section.last
  shows_first z l some there =
      ap (λ y. b2_violations n after.section.last (scrambled (9 * n) y)) (sym (same_line sent l _ sent_is there))
      ∙ violated ∙ ap (λ k. b2_violations n k (scrambled (9 * n) sent)) (nothing_found w whole p d z).last

  pub shows_later : 0 < t → KeepsParities rate t (carried_on w.fibres (fibre q (opposite d)))
      (sending_on (opposite d) (node_at w.ring.nodes q)).section.last
      → ShowsSo rate (violations_shown c) (t + 1) (carried_on (round w).fibres (fibre q (opposite d))) after.section.last
  shows_later some kept l more there =
      ap (λ y. b2_violations n after.section.last (scrambled (9 * n) y)) (sym (same_line sent l _ sent_is there)) ∙ violated_later some kept

  -- what the side that sends keeps
  pub keeps_after : KeepsParities rate (t + 1) (carried_on (round w).fibres (fibre p d))
      (sending_on d (node_at (round w).ring.nodes p)).section.last
  keeps_after l more there =
      let mine = frame_on d w.ring.moment (informed w p) in
      ap (λ m. (sending_on d m).section.last) (nodes_after w whole.placed p h)
      ∙ ap (λ (y : Sending). y.section.last) (sending_after w.ring.moment (informed w p) d)
      ∙ (node_sends rate w.ring.moment (informed w p) d (sends_at w whole p d h)).keeps
      ∙ ap (λ y. Some (parities_of n (scrambled (9 * n) y) y)) (sym (frame_is w.ring.moment (informed w p) d))
      ∙ ap (λ y. Some (parities_of n (scrambled (9 * n) y) y)) (same_line mine l _ (carried_after w whole p d h) there)
