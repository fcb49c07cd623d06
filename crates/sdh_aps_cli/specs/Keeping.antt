-- What is recorded depends only on the rounds that have run.
use Rattle.std.specs.Prelude.{◌≡◌, ℕ, zero, suc, ◌≤◌, List, ◌++◌, Option}
use Rattle.std.specs.Io.KnownBytes.{Appends}
use mathlib.Core.Path.{refl, subst}
use native.Mathlib.Nat.{le_refl, le_step}
use Rattle.sdh_node.specs.Rings.Rounds.{World}
use Rattle.sdh_report.specs.Written.{Written}
use Rattle.sdh_aps.specs.declared.shown.Shown.{Shown}
use Rattle.sdh_aps_cli.specs.Signalled.{shown_at, shown_changes, changes_shown_in}
use Rattle.sdh_aps_cli.specs.Listing.{changes_text}
use Rattle.sdh_aps_cli.specs.Recording.{AreShown, IsReady, IsRecorded}
use Rattle.sdh_aps_cli.specs.declared.listing.SignalListing.{SignalListing}

pub changes_same : (k : ℕ) (at bt : ℕ → World) → ((j : ℕ) → j ≤ k → at j ≡ bt j) → changes_shown_in k at ≡ changes_shown_in k bt
changes_same zero at bt same = refl
changes_same (suc k) at bt same =
    let past = changes_same k at bt (λ j low. same j (le_step low)) in
    let before = same k (le_step (le_refl k)) in
    let now = same (suc k) (le_refl (suc k)) in
    λ i. past i ++ shown_changes (before i).ring (now i).ring

-- what is recorded of one course is recorded of an equal course
pub recorded_same : (listing : SignalListing) (at bt : ℕ → World) (k : ℕ) (items : List Shown) (text : Written) (old new : Option (List ℕ))
    → ((j : ℕ) → j ≤ k → at j ≡ bt j) → IsRecorded listing at k items text old new → IsRecorded listing bt k items text old new
recorded_same listing at bt k items text old new same x =
    let last = same k (le_refl k) in
    record {
      ready = subst (λ (v : World). IsReady v.ring items text) last x.ready;
      shown = subst (λ (v : World). AreShown (shown_at v.ring) items) last x.shown;
      written = subst (λ changes. Appends old new (changes_text listing changes)) (changes_same k at bt same) x.written;
    }
