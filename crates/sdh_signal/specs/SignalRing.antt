-- A ring of signals as its callers see it, round by round.
use Rattle.std.specs.Prelude.{ℕ, zero, suc, ◌≡◌, ◌≤◌, ◌-◌, ⊤, Bool, true, false, nat_lt, List, length, All, IsTrue}
use Rattle.sdh_basics.specs.Cells.{cells}
use Rattle.sdh_ringmap.specs.Ids.{AreIds}
use Rattle.sdh_nodestate.specs.declared.Needs.{Needs}
use Rattle.sdh_nodestate.specs.declared.Sent.{Sent}
use Rattle.sdh_nodestate.specs.declared.NodeState.{NodeState}
use Rattle.sdh_nodestate.specs.declared.NodeState.TheVariants.{Idle}
use Rattle.sdh_nodestate.specs.Words.{first_words, IsSourced}
use Rattle.sdh_signal.specs.Signals.{Filters, no_filters, Signals, free_round}
use Rattle.sdh_signal.specs.Laws.{ChangesNoWord}

-- A ring, and what is counted of its rounds. `rounds` have run, a count that goes no further than 2 ^ 64 - 1.
-- `unchanged` of the last rounds, counted up to 3, came after another round, held no node and changed no word. `steady`
-- says whether the last round changed no state.
pub record Signalling : Type 0 where
  pub ring : Signals
  pub rounds : ℕ
  pub unchanged : ℕ
  pub steady : Bool

-- a ring by its parts, after a number of rounds
abbrev pub ring_of : List ℕ → List NodeState → List Sent → List Filters → ℕ → Signals
ring_of ids states words filters rounds = record { ids = ids; states = states; words = words; filters = filters; running = nat_lt 0 rounds }

-- a ring in which no round has run: all nodes are idle, have the words of new nodes, and nothing was brought to them
abbrev pub new_ring : List ℕ → Signalling
new_ring ids = record {
  ring = ring_of ids (cells (λ p. Idle tt) (length ids)) (cells (first_words ids) (length ids))
      (cells (λ p. no_filters) (length ids)) 0;
  rounds = 0;
  unchanged = 0;
  steady = false;
}

-- no node is held
abbrev pub NoneHeld : List Bool → Type 0
NoneHeld held = All (λ b. b ≡ false) held

-- a round came after another one, held no node and changed no word
pub record LeavesWords (held : List Bool) (before after : Signals) : Type 0 where
  pub later : before.running ≡ true
  pub free : NoneHeld held
  pub words : after.words ≡ before.words

-- A ring is still. At least four rounds have run, none of the last three held a node or changed a word, and the last
-- one changed no state.
pub record IsStill (s : Signalling) : Type 0 where
  pub four : 4 ≤ s.rounds
  pub words : s.unchanged ≡ 3
  pub states : IsTrue s.steady

-- each of the last k rounds came after another one, held no node and changed no word
abbrev pub WereUnchanged : ℕ → Signals → Type 0
WereUnchanged zero now = ⊤
WereUnchanged (suc k) now =
    (before : Signals) × (needs : List Needs) × ChangesNoWord needs before × (now ≡ free_round needs before) × WereUnchanged k before

-- What is true of every ring of signals: the identifiers are those of a ring, each position has a state, words and
-- filters, and each word that was sent has its source in the ring. The last `unchanged` rounds, fewer than all, left
-- the words as they were.
pub record IsRing (ring : Signals) (rounds unchanged : ℕ) : Type 0 where
  pub ids_ok : AreIds ring.ids
  pub states_len : length ring.states ≡ length ring.ids
  pub words_len : length ring.words ≡ length ring.ids
  pub filters_len : length ring.filters ≡ length ring.ids
  pub sourced : All (IsSourced ring.ids) ring.words
  pub few : unchanged ≤ 3
  pub ran : unchanged ≤ rounds - 1
  pub were : WereUnchanged unchanged ring
