-- What is recorded of frames depends only on the rounds that have run.
use Rattle.std.specs.Prelude.{◌≡◌, ℕ, zero, suc, ◌≤◌, [], ◌∷◌, ◌++◌, List, Option}
use Rattle.std.specs.Io.KnownBytes.{Appends}
use mathlib.Core.Path.{refl, subst}
use native.Mathlib.Nat.{le_refl, le_step}
use Rattle.sdh_node.specs.Rings.Rounds.{World}
use Rattle.sdh_aps_cli.specs.Frames.{Sent, sent_last, frames_sent_in, frames_bytes}
use Rattle.sdh_aps_cli.specs.FrameRecording.{HasAskedNode, FramesAreWritten}
use Rattle.sdh_aps_cli.specs.declared.window.FrameWindow.{FrameWindow}

pub sent_same : (k : ℕ) (at bt : ℕ → World) → ((j : ℕ) → j ≤ k → at j ≡ bt j) → frames_sent_in k at ≡ frames_sent_in k bt
sent_same zero at bt same = refl
sent_same (suc k) at bt same =
    let past = sent_same k at bt (λ j low. same j (le_step low)) in
    let now = same (suc k) (le_refl (suc k)) in
    λ i. past i ++ sent_last (now i) ∷ []

-- what is recorded of the frames of one course is recorded of those of an equal course
pub written_same : (ask : FrameWindow) (at bt : ℕ → World) (k : ℕ) (old new : Option (List ℕ)) → ((j : ℕ) → j ≤ k → at j ≡ bt j)
    → FramesAreWritten ask at k old new → FramesAreWritten ask bt k old new
written_same ask at bt k old new same x = record {
  place = subst (HasAskedNode ask) (same k (le_refl k)) x.place;
  written = subst (λ (rounds : List Sent). Appends old new (frames_bytes ask rounds)) (sent_same k at bt same) x.written;
}
