-- What is recorded of the rounds of a settle step.
use Rattle.std.specs.Prelude.{ℕ, suc, ◌≡◌, ◌*◌, ◌≤◌, Bool, true, List, length, Option, Some, slice_get}
use Rattle.std.specs.Io.KnownBytes.{Appends}
use Rattle.sdh_basics.specs.Causes.{Rose, one_more}
use Rattle.sdh_node.specs.Rings.Held.{HeldRing}
use Rattle.sdh_node.specs.Rings.Rounds.{World}
use Rattle.sdh_report.specs.Written.{Written}
use Rattle.sdh_report.specs.Written.{room_in}
use Rattle.sdh_scripts.specs.Tellers.{CutIn}
use Rattle.sdh_aps.specs.declared.shown.Shown.{Shown}
use Rattle.sdh_aps_cli.specs.Signalled.{shown_at, shown_changes, changes_shown_in}
use Rattle.sdh_aps_cli.specs.Listing.{changes_text}
use Rattle.sdh_aps_cli.specs.declared.listing.SignalListing.{SignalListing}

-- ---- what is kept from one round to the next

-- these are what nodes showed, by position
abbrev pub AreShown : (ℕ → Shown) → List Shown → Type 0
AreShown was items = (j : ℕ) (s : Shown) → slice_get items j ≡ Some s → s ≡ was j

-- there is a place for what each node of a ring shows, and room for a line of each
pub record IsReady (r : HeldRing) (items : List Shown) (text : Written) : Type 0 where
  pub many : length items ≡ length r.ids
  pub room : 128 * length r.ids ≤ room_in text

-- ---- a settle step, whose course gives the world after each number of rounds

-- after k rounds of a settle step their lines were written, and what the nodes showed in the last of them is kept
pub record IsRecorded (listing : SignalListing) (at : ℕ → World) (k : ℕ) (items : List Shown) (text : Written)
    (old new : Option (List ℕ)) : Type 0 where
  pub ready : IsReady (at k).ring items text
  pub shown : AreShown (shown_at (at k).ring) items
  pub written : Appends old new (changes_text listing (changes_shown_in k at))

-- a write failed in the k-th round of a settle step: the lines of the rounds before it were written, and of its own only
-- the first bytes
abbrev pub IsCut : SignalListing → (ℕ → World) → ℕ → Option (List ℕ) → Option (List ℕ) → Type 0
IsCut listing at k old new =
    (j : ℕ) × (k ≡ suc j)
    × CutIn old new (changes_text listing (changes_shown_in j at)) (changes_text listing (shown_changes (at j).ring (at (suc j)).ring))

-- ---- writes that failed, by a count of faults, which is exact where `exact` holds

-- no write failed between these two counts of faults
pub record NoneFailed (exact : Bool) (before after : ℕ) : Type 0 where
  pub later : before ≤ after
  pub none : exact ≡ true → after ≡ before

-- one write failed between these two counts of faults
pub record OneFailed (exact : Bool) (before after : ℕ) : Type 0 where
  pub later : before ≤ after
  pub rose : Rose before after
  pub one : exact ≡ true → after ≡ one_more before
