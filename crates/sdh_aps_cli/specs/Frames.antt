-- The frames that nodes sent, round by round. What a fibre carries after a round is the frame that was sent on it in
-- the round, scrambled as on the line.
use Rattle.std.specs.Prelude.{ℕ, zero, suc, ◌≡◌, ◌+◌, ◌-◌, ◌&&◌, Bool, nat_le, nat_lt, if◌then◌else◌, List, [], ◌∷◌, ◌++◌, Some, None}
use Rattle.std.specs.Prelude.{map, slice_index_or}
use Rattle.std.specs.List.{flat_map}
use Rattle.std.specs.Option.{option_map_or}
use Rattle.sdh_ringmap.specs.Fibres.{fibre}
use Rattle.sdh_plant.specs.Fibres.{Arrival}
use Rattle.sdh_node.specs.Stations.{adm}
use Rattle.sdh_rounds.specs.Rounds.{frames_with, round_with}
use Rattle.sdh_node.specs.Rings.Rounds.{World}
use Rattle.sdh_aps_cli.specs.declared.window.FrameWindow.{FrameWindow}

-- ---- a settle step

-- the frames of a round, by the number of the fibre on which each was sent
pub record Sent : Type 0 where
  pub round : ℕ
  pub frames : List Arrival

-- the frames of the last round of a world
abbrev pub sent_last : World → Sent
sent_last w = record { round = w.ring.rounds - 1; frames = w.fibres.carried }

-- the frames of the first k rounds of a course, which gives the world after each number of rounds
abbrev pub frames_sent_in : ℕ → (ℕ → World) → List Sent
frames_sent_in zero at = []
frames_sent_in (suc k) at = frames_sent_in k at ++ sent_last (at (suc k)) ∷ []

-- ---- the frames that are asked for

-- whether a round is one of those that are asked for
abbrev pub is_wanted : FrameWindow → ℕ → Bool
is_wanted ask round = nat_le ask.first round && nat_lt round (ask.first + ask.count)

-- the frame that the node sent on the side in a round, where the round is asked for
abbrev pub frame_of : FrameWindow → Sent → List (List ℕ)
frame_of ask s =
    if is_wanted ask s.round
    then option_map_or (λ (bytes : List ℕ). bytes ∷ []) (slice_index_or s.frames (fibre ask.at.0 ask.side) None) [] else []

abbrev pub frames_of : FrameWindow → List Sent → List (List ℕ)
frames_of ask rounds = flat_map (frame_of ask) rounds

-- the bytes of the frames that are asked for, whole and in order
abbrev pub frames_bytes : FrameWindow → List Sent → List ℕ
frames_bytes ask rounds = flat_map (λ (frame : List ℕ). frame) (frames_of ask rounds)

-- ---- what they are

-- what fibres carry after a round are the frames that the nodes sent in it, by position, west before east
abbrev pub FramesAreSent : Type 0
FramesAreSent = (w : World) (arrivals : List Arrival)
    → (sent_last (round_with adm arrivals w)).frames ≡ map Some (frames_with adm arrivals w)
