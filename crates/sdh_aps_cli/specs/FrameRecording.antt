-- What is recorded of the frames of a settle step.
use Rattle.std.specs.Prelude.{ℕ, suc, ◌≡◌, ◌<◌, List, [], ◌∷◌, Option}
use Rattle.std.specs.Io.KnownBytes.{Appends}
use Rattle.sdh_node.specs.Rings.Rounds.{World}
use Rattle.sdh_scripts.specs.Tellers.{CutIn}
use Rattle.sdh_aps_cli.specs.Frames.{sent_last, frames_sent_in, frames_bytes}
use Rattle.sdh_aps_cli.specs.declared.window.FrameWindow.{FrameWindow}

-- the node that is asked for is one of the ring's
abbrev pub HasAskedNode : FrameWindow → World → Type 0
HasAskedNode ask w = ask.at.0 < w.fibres.nodes

-- after k rounds of a settle step the frames of these rounds that are asked for were written
pub record FramesAreWritten (ask : FrameWindow) (at : ℕ → World) (k : ℕ) (old new : Option (List ℕ)) : Type 0 where
  pub place : HasAskedNode ask (at k)
  pub written : Appends old new (frames_bytes ask (frames_sent_in k at))

-- a write failed in the k-th round of a settle step: the frames that are asked for of the rounds before it were written,
-- and of its own only the first bytes
abbrev pub AreCut : FrameWindow → (ℕ → World) → ℕ → Option (List ℕ) → Option (List ℕ) → Type 0
AreCut ask at k old new =
    (j : ℕ) × (k ≡ suc j)
    × CutIn old new (frames_bytes ask (frames_sent_in j at)) (frames_bytes ask (sent_last (at (suc j)) ∷ []))
