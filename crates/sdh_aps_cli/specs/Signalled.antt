-- What is shown of how a ring signals, round by round. In the first round every node is shown. In each later one a node
-- is shown where it shows something else than in the round before.
use Rattle.std.specs.Prelude.{ℕ, zero, suc, ◌-◌, ◌==◌, ◌||◌, Bool, not, List, [], ◌∷◌, ◌++◌, length, get_or}
use Rattle.std.specs.Prelude.{if◌then◌else◌}
use Rattle.std.specs.List.{flat_map}
use Rattle.sdh_basics.specs.Cells.{cells}
use Rattle.sdh_node.specs.Rings.Held.{HeldRing, node_at}
use Rattle.sdh_node.specs.Rings.Rounds.{World}
use Rattle.sdh_aps.specs.declared.shown.Shown.{Shown}
use Rattle.sdh_aps.specs.Shown.{same_shown}
use Rattle.sdh_aps.specs.Showing.{shown_of}
use Rattle.sdh_aps_cli.specs.Frames.{Sent, frames_sent_in}

-- ---- a node in a round

-- what the node at a position shows
abbrev pub shown_at : HeldRing → ℕ → Shown
shown_at r p = shown_of (node_at r.nodes p)

-- ---- a round

-- in a round the node of this identifier showed this
pub record ShownChange : Type 0 where
  pub round : ℕ
  pub id : ℕ
  pub shown : Shown

-- in the last round of a ring the node at a position showed something else than this, or it was the first round of all
unfoldable pub is_changed : Shown → HeldRing → ℕ → Bool
is_changed was r p = (r.rounds == 1) || not (same_shown was (shown_at r p))

-- what the node at a position showed in the last round of a ring
abbrev pub change_of : HeldRing → ℕ → ShownChange
change_of r p = record { round = r.rounds - 1; id = get_or r.ids p 0; shown = shown_at r p }

-- the change of the node at a position, where it is shown; `was` is what each node showed before that round
abbrev pub change_at : (ℕ → Shown) → HeldRing → ℕ → List ShownChange
change_at was r p = if is_changed (was p) r p then change_of r p ∷ [] else []

-- the changes of the nodes at the first k positions, in ring order
abbrev pub changes_to : (ℕ → Shown) → HeldRing → ℕ → List ShownChange
changes_to was r k = flat_map (change_at was r) (cells (λ p. p) k)

-- the changes of all nodes, in the round that led from one ring to the other
abbrev pub shown_changes : HeldRing → HeldRing → List ShownChange
shown_changes before after = changes_to (shown_at before) after (length after.ids)

-- ---- a settle step

-- the changes in the first k rounds of a course, which gives the world after each number of rounds
abbrev pub changes_shown_in : ℕ → (ℕ → World) → List ShownChange
changes_shown_in zero at = []
changes_shown_in (suc k) at = changes_shown_in k at ++ shown_changes (at k).ring (at (suc k)).ring

-- what is shown of a settle step: its number, counted from 1; how many rounds had run in all when it ended; and all
-- changes of its own rounds, and the frames that were sent in them
pub record Signalled : Type 0 where
  pub number : ℕ
  pub rounds : ℕ
  pub changes : List ShownChange
  pub sent : List Sent

-- what is shown of settle step `number`, where k rounds of a course ran in it
abbrev pub signalled_in : ℕ → (ℕ → World) → ℕ → Signalled
signalled_in number at k = record { number = number; rounds = (at k).ring.rounds; changes = changes_shown_in k at; sent = frames_sent_in k at }
