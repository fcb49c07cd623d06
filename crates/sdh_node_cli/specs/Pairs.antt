-- The frames of both sides in a round, and what is written before them.
use Rattle.std.specs.Prelude.{ℕ, List, ◌++◌}
use Rattle.sdh_ringmap.specs.declared.Side.{Side}
use Rattle.sdh_ringmap.specs.declared.Side.TheVariants.{West, East}
use Rattle.sdh_ringmap.specs.declared.terms.Rate.{Rate}
use Rattle.sdh_frame.specs.Sizes.{Frame}
use Rattle.sdh_node.specs.Node.{Frames}
use Rattle.sdh_node_cli.specs.declared.words.Mode.{Mode}
use Rattle.sdh_node_cli.specs.declared.words.Mode.TheVariants as mode

-- the bytes of the frames of both sides, of a rate, and the lines that are written before them
pub record FramePair : Type 0 where
  pub rate : Rate
  pub lines : List ℕ
  pub west : List ℕ
  pub east : List ℕ

-- the frame of a side
abbrev pub frame_on : Side → FramePair → Frame
frame_on West p = record { rate = p.rate; bytes = p.west }
frame_on East p = record { rate = p.rate; bytes = p.east }

-- both frames
abbrev pub frames_of : FramePair → Frames
frames_of p = record { west = frame_on West p; east = frame_on East p }

-- the bytes of both frames, that of the west first
abbrev pub both_in : FramePair → List ℕ
both_in p = p.west ++ p.east

-- the lines, and then both frames
abbrev pub whole : FramePair → List ℕ
whole p = p.lines ++ both_in p

-- what is written of an answer with these lines and these frames
abbrev pub written : Mode → List ℕ → FramePair → List ℕ
written mode.Lines lines p = lines
written mode.Frames lines p = whole p
