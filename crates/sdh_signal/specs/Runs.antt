-- Runs of a ring of signals, round by round, however its nodes come to hear what was sent: at once, or only after
-- several rounds have brought the same word. Rounds are counted from the first one with the present needs.
use Rattle.std.specs.Prelude.{ℕ, suc, ◌≡◌, ◌<◌, true, false, Some, None, option_map, List, length}
use Rattle.sdh_ringmap.specs.Ids.{AreIds}
use Rattle.sdh_ringmap.specs.Places.{opposite, neighbour}
use Rattle.sdh_ringmap.specs.declared.Side.{Side}
use Rattle.sdh_kbytes.specs.declared.K.{K}
use Rattle.sdh_kbytes.specs.declared.Mark.TheVariants as mark
use Rattle.sdh_nodestate.specs.declared.Needs.{Needs}
use Rattle.sdh_nodestate.specs.declared.Heard.{Heard}
use Rattle.sdh_nodestate.specs.Rules.{Scene, scene, word, word_on}
use Rattle.sdh_nodestate.specs.Conditions.{MayNeed}
use Rattle.sdh_nodestate.specs.Words.{IsMember}
use Rattle.sdh_restoration.specs.Applied.{span_requests}
use Rattle.sdh_signal.specs.Signals.{request_on, fails_on}

-- the identifiers of the ring, the needs of each position, which stay the same, and what each position hears in each
-- round
pub record Run : Type 0 where
  pub ids : List ℕ
  pub need : ℕ → Needs
  pub heard : ℕ → ℕ → Heard

-- the node at position p in round t
abbrev pub at_round : Run → ℕ → ℕ → Scene
at_round run t p = scene run.ids p (run.need p) (run.heard t p)

-- the word that is sent this way, in round t, by the neighbour of p on side d
abbrev pub sent_here : Run → ℕ → ℕ → Side → K
sent_here run t p d = word (at_round run t (neighbour (length run.ids) p d)) (opposite d)

-- the word without its mark
abbrev pub bare : K → K
bare k = record { code = k.code; to = k.to; from = k.from; path = k.path; mark = mark.Idle }

-- what makes needs and heard words, round by round, a run of a ring
pub record IsRun (run : Run) : Type 0 where
  pub ids_ok : AreIds run.ids
  pub sound : (p : ℕ) → p < length run.ids → MayNeed (run.need p)
  -- a word that is heard was sent in the round before
  pub past : (t p : ℕ) (d : Side) (k : K) → p < length run.ids → word_on (at_round run (suc t) p) d ≡ Some k → k ≡ sent_here run t p d
  -- a failing side hears nothing
  pub silent : (t p : ℕ) (d : Side) → p < length run.ids → fails_on (run.need p) d ≡ true → word_on (at_round run (suc t) p) d ≡ None
  -- a word that is sent in three rounds, the same but for its mark, is heard where the side doesn't fail
  pub future : (t p : ℕ) (d : Side) (k : K) → p < length run.ids → fails_on (run.need p) d ≡ false
      → bare (sent_here run t p d) ≡ k → bare (sent_here run (suc t) p d) ≡ k → bare (sent_here run (suc (suc t)) p d) ≡ k
      → option_map bare (word_on (at_round run (suc (suc (suc t))) p) d) ≡ Some k
  -- each word that is sent has its source in the ring
  pub sources : (t p : ℕ) (d : Side) → p < length run.ids → IsMember run.ids (word (at_round run t p) d).from

-- the requests of the ring's spans
abbrev pub run_requests : Run → List ℕ
run_requests run = span_requests (length run.ids) (λ p d. request_on (run.need p) d)
