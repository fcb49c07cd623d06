-- The laws of how a ring comes to rest. They are promised by the functions of this crate, which have no work to do.
use Rattle.std.specs.Prelude.{ℕ, ◌≡◌, ◌<◌, ◌≤◌, ◌+◌, ◌*◌, Some, List, length}
use Rattle.sdh_rounds.specs.Quiet.{enough_for}
use Rattle.sdh_ringmap.specs.declared.Side.{Side}
use Rattle.sdh_ringmap.specs.Places.{neighbour, opposite}
use Rattle.sdh_ringmap.specs.Rates.{n_of}
use Rattle.sdh_circuits.specs.Provisioning.{Provisioning}
use Rattle.sdh_plant.specs.Fibres.{Fibres}
use Rattle.sdh_request.specs.declared.settings.Settings.{Settings}
use Rattle.sdh_node.specs.Rings.Rounds.{World}
use Rattle.sdh_node.specs.Rings.Runs.{course}
use Rattle.sdh_node.specs.Rings.Quiet.{IsCalm, EndsWindow, NeverSettles, settles_in, Unsettles}
use Rattle.sdh_restoration.specs.Changes.{Stretch}
use Rattle.sdh_node.specs.Rings.Changes.{after_stretches, new_world}
use Rattle.sdh_node.specs.Rings.Laws.{MayHappen}
use Rattle.sdh_laws.specs.Hearing.Laws.{IsWhole, MayStart}
use Rattle.sdh_laws.specs.Carrying.Windows.{layout_of, HasCircuits}
use Rattle.sdh_spans.specs.Spans.{IsConstant}
use Rattle.sdh_laws.specs.Converging.Steady.{went, brought_to, StaysSettled, HasStillPointers}

-- An AU-4 that leaves a node with one action and one value from round k on comes in at the other end of the span with
-- one action and one value from round k + 9 on. Where the fibre is cut, AIS comes in. That is so whatever the AU-4's
-- generator and interpreter kept.
abbrev pub ASpanIsSteady : Type 0
ASpanIsSteady = (w : World) → IsWhole w → (p : ℕ) (d : Side) (au k : ℕ) → p < length w.ring.ids → 1 ≤ au → au ≤ n_of w.ring.settings.rate
    → IsConstant (went w (neighbour (length w.ring.ids) p d) (opposite d) au) k → IsConstant (brought_to w p d au) (k + 9)

-- Where the nodes stay in settled states, no pointer changes after 27n + 18 rounds: nine rounds for each span of the
-- longest walk, and nine for one span more.
abbrev pub PointersRest : Type 0
PointersRest =
    (w : World) (rs : List ℕ) → IsWhole w → HasCircuits (layout_of w) → StaysSettled w rs → (j : ℕ) → 27 * length w.ring.ids + 18 ≤ j
    → HasStillPointers w j

-- a window ends within `most` rounds
pub record WindowBy (w : World) (most : ℕ) : Type 0 where
  pub ends : ℕ
  pub soon : ends ≤ most
  pub window : EndsWindow (course w) ends

-- where all rounds are calm from some round on, a window ends at most 3n + 128 rounds later
abbrev pub CalmEndsWindows : Type 0
CalmEndsWindows = (w : World) (first : ℕ) → ((j : ℕ) → first ≤ j → IsCalm (course w) j) → WindowBy w (first + 3 * length w.ring.ids + 128)

-- From every whole ring on, where nothing happens but rounds, all rounds are calm from the (31n + 128)-th on.
-- Interpreters, generators, parities, words and filters may be whatever they were before. Any controllers may be held,
-- any slips may wait, and any fibres may be cut or degraded.
abbrev pub RoundsGetCalm : Type 0
RoundsGetCalm = (w : World) → IsWhole w → HasCircuits (layout_of w) → (j : ℕ) → 31 * length w.ring.ids + 128 ≤ j → IsCalm (course w) j

-- a quiet window always comes, within 34n + 256 rounds: 31n + 128 until all rounds are calm, and 3n + 128 until a
-- window ends
abbrev pub WindowsComeSoon : Type 0
WindowsComeSoon = (w : World) → IsWhole w → HasCircuits (layout_of w) → WindowBy w (34 * length w.ring.ids + 256)

-- a window ends within a limit that is always enough, and a step with this limit or a larger one ends with a window
pub record Converges (w : World) : Type 0 where
  pub window : WindowBy w (enough_for (length w.ring.ids))
  pub answers : (limit : ℕ) → enough_for (length w.ring.ids) ≤ limit → (k : ℕ) × (settles_in w limit ≡ Some k)
  pub never : (limit : ℕ) → enough_for (length w.ring.ids) ≤ limit → NeverSettles (course w) limit → ⊥

abbrev pub RingsConverge : Type 0
RingsConverge = (w : World) → IsWhole w → HasCircuits (layout_of w) → Converges w

-- no settle step of a whole ring with a limit that is enough is unsettled
abbrev pub Answers : World → ℕ → World → Type 0
Answers w limit left = IsWhole w → enough_for (length w.ring.ids) ≤ limit → Unsettles w limit left → ⊥

abbrev pub StepsAnswer : Type 0
StepsAnswer = (w left : World) (limit : ℕ) → HasCircuits (layout_of w) → Answers w limit left

-- a window ends after any stretches of changes and rounds, from a new ring over new honest fibres on
abbrev pub StretchesConverge : Type 0
StretchesConverge =
    (s : Settings) (ids : List ℕ) (circuits : Provisioning) (f : Fibres) (ss : List Stretch) → MayStart s ids f
    → MayHappen (new_world s ids circuits f) ss → HasCircuits (layout_of (new_world s ids circuits f))
    → Converges (after_stretches ss (new_world s ids circuits f))
