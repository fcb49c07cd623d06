-- A round, by what each call of it made.
use Rattle.std.proofs.Common.{◌≡◌, ℕ, ◌+◌, Bool, List, refl, ap, ◌∙◌}
use Rattle.std.specs.Prelude.{◌&&◌, nat_le}
use Rattle.sdh_frame.specs.Sizes.{Frame}
use Rattle.sdh_ringmap.specs.declared.Side.{Side}
use Rattle.sdh_ringmap.specs.declared.Side.TheVariants.{West, East}
use Rattle.sdh_terminal.specs.Same.{same_readings, same_generators}
use Rattle.sdh_terminal.specs.Receiving.{after_taking}
use Rattle.sdh_terminal.specs.Lines.{all_fed_by, dropped_by}
use Rattle.sdh_terminal.specs.Tributaries.{Tributary, added_by, added_last, all_fed, all_delivered_with}
use Rattle.sdh_terminal.specs.Sending.{Sending, frame_from, after_sending}
use Rattle.sdh_terminal.proofs.Waiting.{round-waiting, adds-waiting}
use Rattle.sdh_sncp.specs.Node.{PathCross, PathNode, after_taken, lines_of, path_leads, path_drops, path_crossing, path_dropped_to, path_input_at, path_ports_after, unchanged}
use Rattle.sdh_sncp.specs.Node.{after_path_crossing, path_node_frames, path_with_calm, path_node_round, GoesOn}

-- the node with these parts
abbrev pub node_of : ℕ → ℕ → PathCross → List Tributary → Sending → Sending → Bool → PathNode
node_of threshold rounds x ports west east calm = record {
  threshold = threshold;
  uses = x.uses;
  rounds = rounds;
  west = x.west;
  east = x.east;
  ports = ports;
  west_out = west;
  east_out = east;
  calm = calm;
}

-- a node, and what the calls of its round made of its parts
module _ (threshold rounds : ℕ) (x0 : PathCross) (kept : List Tributary) (wo eo : Sending) (was : Bool) where
  -- the ports, which deliver what the round before left to them
  abbrev ports : List Tributary
  ports = all_delivered_with (path_dropped_to x0) kept

  abbrev n : PathNode
  n = node_of threshold rounds x0 ports wo eo was

  module _ (x : PathCross) (fs : List Tributary) (take : x ≡ after_taken threshold x0) (feed : fs ≡ all_fed kept) where
    cross_is : x ≡ path_crossing n
    unfolding path_crossing after_taken
    cross_is = take

    ports_is : all_delivered_with (path_dropped_to x) fs ≡ path_ports_after (path_crossing n) ports
    unfolding path_ports_after
    ports_is =
        (λ i. all_delivered_with (path_dropped_to (cross_is i)) (feed i))
        ∙ round-waiting (λ side m. dropped_by (lines_of (path_crossing n)) (path_drops (path_crossing n) side m)) (path_dropped_to x0) kept

    added_is : added_last fs ≡ added_by ports
    added_is = ap added_last feed ∙ adds-waiting (path_dropped_to x0) kept

    sent_is : (side : Side) (o after : Sending) → after ≡ after_sending (all_fed_by (lines_of x) (added_last fs) (path_leads x side)) o
        → after ≡ after_sending (path_input_at (path_crossing n) ports side) o
    sent_is side o after send = send ∙ λ i. after_sending (all_fed_by (lines_of (cross_is i)) (added_is i) (path_leads (cross_is i) side)) o

    frame_is : (side : Side) (o : Sending) (frame : Frame) → frame ≡ frame_from (all_fed_by (lines_of x) (added_last fs) (path_leads x side)) o
        → frame ≡ frame_from (path_input_at (path_crossing n) ports side) o
    frame_is side o frame send = send ∙ λ i. frame_from (all_fed_by (lines_of (cross_is i)) (added_is i) (path_leads (cross_is i) side)) o

    pub west_frame_is : (frame : Frame) → frame ≡ frame_from (all_fed_by (lines_of x) (added_last fs) (path_leads x West)) wo
        → frame ≡ (path_node_round n).1.west
    unfolding path_node_round path_node_frames
    west_frame_is frame send = frame_is West wo frame send

    pub east_frame_is : (frame : Frame) → frame ≡ frame_from (all_fed_by (lines_of x) (added_last fs) (path_leads x East)) eo
        → frame ≡ (path_node_round n).1.east
    unfolding path_node_round path_node_frames
    east_frame_is frame send = frame_is East eo frame send

    module _ (wa ea : Sending) (west_send : wa ≡ after_sending (all_fed_by (lines_of x) (added_last fs) (path_leads x West)) wo)
        (east_send : ea ≡ after_sending (all_fed_by (lines_of x) (added_last fs) (path_leads x East)) eo) where
      -- what the calls of a round return says together whether the round was calm
      pub calm_is : (ran taken west_made east_made : Bool) → ran ≡ nat_le 1 rounds
          → taken ≡ (same_readings x.west.readings x0.west.readings && same_readings x.east.readings x0.east.readings)
          → west_made ≡ same_generators wa.generators wo.generators → east_made ≡ same_generators ea.generators eo.generators
          → (ran && (taken && (west_made && east_made))) ≡ (nat_le 1 rounds && unchanged (after_path_crossing (path_crossing n) n) n)
      unfolding after_path_crossing
      calm_is ran taken west_made east_made r t w e =
          let taken_is =
          t ∙ (λ i. same_readings (cross_is i).west.readings x0.west.readings
          && same_readings (cross_is i).east.readings x0.east.readings) in
          let west_is = w ∙ (λ i. same_generators (sent_is West wo wa west_send i).generators wo.generators) in
          let east_is = e ∙ (λ i. same_generators (sent_is East eo ea east_send i).generators eo.generators) in
          λ i. r i && (taken_is i && (west_is i && east_is i))

      pub node_is : (calm : Bool) → calm ≡ (nat_le 1 rounds && unchanged (after_path_crossing (path_crossing n) n) n)
          → node_of threshold (rounds + 1) x (all_delivered_with (path_dropped_to x) fs) wa ea calm ≡ (path_node_round n).0
      unfolding path_node_round path_with_calm after_path_crossing path_crossing
      node_is calm told =
          λ i. node_of threshold (rounds + 1) (cross_is i) (ports_is i) (sent_is West wo wa west_send i) (sent_is East eo ea east_send i)
          (told i)

pub round_goes_on : (n : PathNode) → GoesOn n (path_node_round n).0
unfolding path_node_round path_with_calm after_path_crossing path_crossing after_taking
round_goes_on n = record { rate = refl; rounds = refl }
