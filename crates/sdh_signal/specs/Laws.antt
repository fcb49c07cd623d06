-- The laws of signalling. They are promised by the functions of this crate, which have no work to do.
use Rattle.std.specs.Prelude.{ℕ, suc, ◌≡◌, ◌≢◌, ◌+◌, ◌*◌, ◌<◌, ◌≤◌, Bool, true, false, List, length, slice_index, All}
use Rattle.sdh_ringmap.specs.Places.{opposite}
use Rattle.sdh_ringmap.specs.declared.Side.{Side}
use Rattle.sdh_kbytes.specs.declared.K.{K}
use Rattle.sdh_nodestate.specs.declared.Needs.{Needs}
use Rattle.sdh_nodestate.specs.declared.NodeState.TheVariants as state
use Rattle.sdh_nodestate.specs.Rules.{word, chosen, relay, state_after}
use Rattle.sdh_signal.specs.Settled.{settled, settled_states}
use Rattle.sdh_signal.specs.Signals.{Signals, round, free_round, unheld_rounds, MaySignal, requests_in}
use Rattle.sdh_signal.specs.Runs.{Run, at_round, IsRun, run_requests}
use Rattle.sdh_ringmap.specs.Steps.{going}

-- The fixpoint law, for runs: from round 4n + 7 on each node of a run is in the settled state of its position, with its
-- far end, under the requests of the spans.
abbrev pub RunsSettle : Type 0
RunsSettle =
    (run : Run) → IsRun run → (t p : ℕ) → 4 * length run.ids + 7 ≤ t → p < length run.ids
    → state_after (at_round run t p) ≡ settled (run_requests run) p

-- From round 5n + 7 on no node of a run sends another word than in the round before.
abbrev pub WordsStay : Type 0
WordsStay =
    (run : Run) → IsRun run → (t p : ℕ) (d : Side) → 5 * length run.ids + 7 ≤ t → p < length run.ids
    → word (at_round run (suc t) p) d ≡ word (at_round run t p) d

-- a round in which no node is held, which isn't the first one, and which changes no word
pub record ChangesNoWord (needs : List Needs) (s : Signals) : Type 0 where
  pub running : s.running ≡ true
  pub may : MaySignal needs s
  pub words : (free_round needs s).words ≡ s.words

-- The fixpoint law, for a ring of signals. After three rounds, one after the other, that hold no node and change no
-- word, each node is in the settled state of its position, with its far end. The requests are those of the needs in the
-- last of these rounds.
abbrev pub StillRingsAreSettled : Type 0
StillRingsAreSettled =
    (first second third : List Needs) (s : Signals) → ChangesNoWord first s → ChangesNoWord second (free_round first s)
    → ChangesNoWord third (free_round second (free_round first s))
    → (free_round third (free_round second (free_round first s))).states ≡ settled_states (requests_in third)

-- a round with a list of held nodes that holds none is the round without such a list
abbrev pub FreeRounds : Type 0
FreeRounds = (needs : List Needs) (held : List Bool) (s : Signals) → All (λ b. b ≡ false) held → round needs held s ≡ free_round needs s

-- Convergence. A ring of signals whose needs stay and in which no node is held is in the settled states after 4n + 8
-- rounds, and changes no word and no state after 5n + 8 rounds. That is so whatever its filters kept and whatever its
-- words were, as long as each word had a source in the ring.
pub record Settles (needs : List Needs) (s : Signals) : Type 0 where
  pub settled : (t : ℕ) → 4 * length s.ids + 8 ≤ t → (unheld_rounds needs t s).states ≡ settled_states (requests_in needs)
  pub words : (t : ℕ) → 5 * length s.ids + 8 ≤ t → (unheld_rounds needs (suc t) s).words ≡ (unheld_rounds needs t s).words

-- every ring of signals that may go converges
abbrev pub RingsSettle : Type 0
RingsSettle = (needs : List Needs) (s : Signals) → MaySignal needs s → Settles needs s

-- no node of the run sends another word in round t + 1 than in round t
abbrev pub IsStillAfter : Run → ℕ → Type 0
IsStillAfter run t = (p : ℕ) (d : Side) → p < length run.ids → word (at_round run (suc t) p) d ≡ word (at_round run t p) d

-- in round t, p relays to its other side the long word that it hears on side d
abbrev pub Relays : Run → ℕ → ℕ → Side → Type 0
Relays run t p d = chosen (at_round run t p) (opposite d) ≡ relay

-- the word that p sends in round t on the side opposite to d
abbrev pub passed : Run → ℕ → ℕ → Side → K
passed run t p d = word (at_round run t p) (opposite d)

-- The word that p relays from its side d leads back, node by node on that side, to a node that sends it as its own in
-- the same round. That node is `steps` steps away, which are fewer than n.
pub record LeadsBack (run : Run) (t p : ℕ) (d : Side) : Type 0 where
  pub steps : ℕ
  pub some : 0 < steps
  pub few : steps < length run.ids
  pub between : (j : ℕ) → j < steps → Relays run t (going (length run.ids) d p j) d
  pub same : (j : ℕ) → j ≤ steps → passed run t (going (length run.ids) d p j) d ≡ passed run t p d
  pub own : (passed run t p d).from ≡ slice_index run.ids (going (length run.ids) d p steps)

-- Where no node of a run sends another word in round t + 1 than in round t, no word is relayed that nobody sends: each
-- word that is relayed in round t + 1 leads back to a node that sends it in that round.
abbrev pub RelayedWordsLeadBack : Type 0
RelayedWordsLeadBack =
    (run : Run) → IsRun run → (t : ℕ) → IsStillAfter run t → (p : ℕ) (d : Side) → p < length run.ids → Relays run (suc t) p d
    → LeadsBack run (suc t) p d

-- a node that doesn't pass through in round t
pub record HasOneNotPassing (run : Run) (t : ℕ) : Type 0 where
  pub at : ℕ
  pub inside : at < length run.ids
  pub differs : state_after (at_round run t at) ≢ state.PassThrough tt

-- Where no node of a run sends another word in round t + 1 than in round t, not all nodes pass through in round t + 1.
abbrev pub NotAllPassThrough : Type 0
NotAllPassThrough = (run : Run) → IsRun run → (t : ℕ) → IsStillAfter run t → HasOneNotPassing run (suc t)
