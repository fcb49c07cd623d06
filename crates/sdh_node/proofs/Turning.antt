-- A round of a node, from the results of the calls that it makes.
use Rattle.std.proofs.Common.{◌≡◌, ℕ, ◌+◌, ◌-◌, Bool, List, ap, ◌∙◌}
use Rattle.std.specs.Prelude.{◌&&◌, not, nat_le}
use Rattle.sdh_frame.specs.Sizes.{Frame}
use Rattle.sdh_kbytes.specs.declared.K.{K}
use Rattle.sdh_ringmap.specs.declared.Side.{Side}
use Rattle.sdh_ringmap.specs.declared.Side.TheVariants.{West, East}
use Rattle.sdh_request.specs.declared.settings.Settings.{Settings}
use Rattle.sdh_kbytes.specs.Same.{same_word}
use Rattle.sdh_nodestate.specs.Shapes.{same_state}
use Rattle.sdh_terminal.specs.Same.{same_generators}
use Rattle.sdh_node.specs.Same.{same_in, same_compared}
use Rattle.sdh_terminal.specs.Tributaries.{Tributary, added_by, added_last, all_fed}
use Rattle.sdh_node.specs.Crossing.{Cross, after_intakes, scene_of, after_decision, next_word, dropped_at, dropped_to, all_delivered, input_at}
use Rattle.sdh_terminal.specs.Sending.{Sending, with_word, frame_from, after_sending}
use Rattle.sdh_terminal.proofs.Waiting.{round-waiting, adds-waiting}
use Rattle.sdh_node.specs.Node.{Node, crossing, ports_after, with_next_word, after_crossing, node_frames, compared, compared_in}
use Rattle.sdh_node.specs.Node.{may_be_calm, with_calm, node_round}

-- the node that holds these
abbrev pub node_of : Settings → ℕ → ℕ → Cross → List Tributary → Sending → Sending → Bool → Node
node_of s rounds turns x ports west east calm = record {
  settings = s;
  ids = x.ids;
  at = x.at;
  circuits = x.circuits;
  rounds = rounds;
  west = x.west;
  east = x.east;
  state = x.state;
  ports = ports;
  west_out = west;
  east_out = east;
  held = turns;
  calm = calm;
}

-- a node, and what the calls of its round made of its parts
module _ (now : ℕ) (s : Settings) (rounds turns : ℕ) (x0 : Cross) (kept : List Tributary) (wo eo : Sending) (was : Bool) where
  -- the ports, which deliver what the round before left to them
  abbrev ports : List Tributary
  ports = all_delivered x0 kept

  abbrev n : Node
  n = node_of s rounds turns x0 ports wo eo was

  abbrev held : Bool
  held = nat_le 1 turns

  module _ (tk x : Cross) (fs : List Tributary) (take : tk ≡ after_intakes s.threshold now x0) (decide : x ≡ after_decision held tk)
      (feed : fs ≡ all_fed kept) where
    cross_is : x ≡ crossing now n
    unfolding crossing after_intakes
    cross_is = decide ∙ ap (after_decision held) take

    ports_is : all_delivered x fs ≡ ports_after (crossing now n) ports
    unfolding ports_after all_delivered
    ports_is =
        (λ i. all_delivered (cross_is i) (feed i)) ∙ round-waiting (dropped_at (crossing now n)) (dropped_to x0) kept

    added_is : (qs : List Tributary) → qs ≡ fs → added_last qs ≡ added_by ports
    unfolding all_delivered
    added_is qs same = ap added_last (same ∙ feed) ∙ adds-waiting (dropped_to x0) kept

    -- what a side that sends says
    said_is : (side : Side) (k : K) (o said : Sending) → k ≡ next_word held tk side o.word → said ≡ with_word k o
        → said ≡ with_next_word held (crossing now n) side o
    unfolding crossing after_intakes after_decision next_word scene_of
    said_is side k o said word_is say = say ∙ ap (λ w. with_word w o) (word_is ∙ ap (λ y. next_word held y side o.word) take)

    -- what a side that sends leaves for the next round
    sent_is : (side : Side) (k : K) (o said after : Sending) (qs : List Tributary) → k ≡ next_word held tk side o.word
        → said ≡ with_word k o → qs ≡ fs → after ≡ after_sending (input_at x (added_last qs) side) said
        → after ≡ after_sending (input_at (crossing now n) (added_by ports) side) (with_next_word held (crossing now n) side o)
    sent_is side k o said after qs word_is say same send =
        let p = said_is side k o said word_is say in
        send ∙ λ i. after_sending (input_at (cross_is i) (added_is qs same i) side) (p i)

    frame_is : (side : Side) (k : K) (o said : Sending) (qs : List Tributary) (frame : Frame) → k ≡ next_word held tk side o.word
        → said ≡ with_word k o → qs ≡ fs → frame ≡ frame_from (input_at x (added_last qs) side) said
        → frame ≡ frame_from (input_at (crossing now n) (added_by ports) side) (with_next_word held (crossing now n) side o)
    frame_is side k o said qs frame word_is say same send =
        let p = said_is side k o said word_is say in
        send ∙ λ i. frame_from (input_at (cross_is i) (added_is qs same i) side) (p i)

    module _ (ww we : K) (ws es wa ea : Sending) (wq eq : List Tributary) (west_word : ww ≡ next_word held tk West wo.word)
        (east_word : we ≡ next_word held tk East eo.word) (west_say : ws ≡ with_word ww wo) (east_say : es ≡ with_word we eo)
        (west_ports : wq ≡ fs) (east_ports : eq ≡ fs) where
      pub west_frame_is : (frame : Frame) → frame ≡ frame_from (input_at x (added_last wq) West) ws → frame ≡ (node_round now n).1.west
      unfolding node_round node_frames
      west_frame_is frame send = frame_is West ww wo ws wq frame west_word west_say west_ports send

      pub east_frame_is : (frame : Frame) → frame ≡ frame_from (input_at x (added_last eq) East) es → frame ≡ (node_round now n).1.east
      unfolding node_round node_frames
      east_frame_is frame send = frame_is East we eo es eq frame east_word east_say east_ports send

      module _ (west_send : wa ≡ after_sending (input_at x (added_last wq) West) ws)
          (east_send : ea ≡ after_sending (input_at x (added_last eq) East) es) where
        -- the results of the calls together show whether the round is calm
        pub calm_is : (ran taken kept wsaid wmade esaid emade : Bool) → ran ≡ (nat_le 1 rounds && not held)
            → taken ≡ (same_in (compared_in tk.west) (compared_in x0.west) && same_in (compared_in tk.east) (compared_in x0.east))
            → kept ≡ same_state x.state tk.state
            → wsaid ≡ same_word ws.word wo.word → wmade ≡ same_generators wa.generators ws.generators → esaid ≡ same_word es.word eo.word
            → emade ≡ same_generators ea.generators es.generators
            → (ran && (taken && kept && (wsaid && wmade) && (esaid && emade)))
            ≡ (may_be_calm n && same_compared (compared (after_crossing (crossing now n) n)) (compared n))
        unfolding same_compared after_crossing crossing after_intakes after_decision after_sending
        calm_is ran taken kept wsaid wmade esaid emade r t k wsa wma esa ema =
            let wp = said_is West ww wo ws west_word west_say in
            let ep = said_is East we eo es east_word east_say in
            let ws_ = sent_is West ww wo ws wa wq west_word west_say west_ports west_send in
            let es_ = sent_is East we eo es ea eq east_word east_say east_ports east_send in
            let taken_is =
            t ∙ (λ i. same_in (compared_in (take i).west) (compared_in x0.west)
            && same_in (compared_in (take i).east) (compared_in x0.east)) in
            let kept_is = k ∙ (λ i. same_state (cross_is i).state (take i).state) in
            let wsaid_is = wsa ∙ (λ i. same_word (wp i).word wo.word) in
            let esaid_is = esa ∙ (λ i. same_word (ep i).word eo.word) in
            let wmade_is = wma ∙ (λ i. same_generators (ws_ i).generators (wp i).generators) in
            let emade_is = ema ∙ (λ i. same_generators (es_ i).generators (ep i).generators) in
            λ i. r i && (taken_is i && kept_is i && (wsaid_is i && wmade_is i) && (esaid_is i && emade_is i))

        pub node_is : (calm : Bool) → calm ≡ (may_be_calm n && same_compared (compared (after_crossing (crossing now n) n)) (compared n))
            → node_of s (rounds + 1) (turns - 1) x (all_delivered x fs) wa ea calm ≡ (node_round now n).0
        unfolding node_round with_calm after_crossing crossing after_decision
        node_is calm told =
            let west = sent_is West ww wo ws wa wq west_word west_say west_ports west_send in
            let east = sent_is East we eo es ea eq east_word east_say east_ports east_send in
            λ i. node_of s (rounds + 1) (turns - 1) (cross_is i) (ports_is i) (west i) (east i) (told i)
