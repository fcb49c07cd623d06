-- The terms in which the proofs on runs speak of them.
use Rattle.std.proofs.Common.{ℕ, Bool, max, length}
use Rattle.std.specs.Prelude.{slice_index, nat_lt, not, ◌&&◌, if◌then◌else◌}
use Rattle.sdh_kbytes.specs.declared.K.{K}
use Rattle.sdh_kbytes.specs.declared.Path.{Path}
use Rattle.sdh_kbytes.specs.declared.Mark.TheVariants as mark
use Rattle.sdh_ringmap.specs.declared.terms.Code.{Code}
use Rattle.sdh_ringmap.specs.declared.terms.Code.TheVariants.{Rr}
use Rattle.sdh_ringmap.specs.Requests.{code_number}
use Rattle.sdh_ringmap.specs.Places.{neighbour, opposite}
use Rattle.sdh_ringmap.specs.declared.Side.{Side}
use Rattle.sdh_nodestate.specs.Rules.{Scene, weight, word}
use Rattle.sdh_signal.specs.Signals.{request_on, fails_on}
use Rattle.sdh_signal.specs.Runs.{Run, at_round}

module _ (run : Run) where
  -- the local request on side d of p
  abbrev code_on : ℕ → Side → Code
  code_on p d = request_on (run.need p) d

  abbrev number_on : ℕ → Side → ℕ
  number_on p d = code_number (code_on p d)

  abbrev next_of : ℕ → Side → ℕ
  next_of p d = neighbour (length run.ids) p d

  -- the stronger request of the other end is heard
  abbrev is_outdone : ℕ → Side → Bool
  is_outdone p d = not (fails_on (run.need p) d) && nat_lt (number_on p d) (number_on (next_of p d) (opposite d))

pub record Terms : Type 0 where
  pub n : ℕ
  -- position p in round t, and its identifier
  pub at : ℕ → ℕ → Scene
  pub id : ℕ → ℕ
  -- its neighbour on side d
  pub next : ℕ → Side → ℕ
  -- the local request on side d of p, and its number
  pub code : ℕ → Side → Code
  pub asks : ℕ → Side → ℕ
  -- the request of the span on side d of p
  pub request : ℕ → Side → ℕ
  -- the weight of side d, and the word sent there
  pub weight_at : ℕ → ℕ → Side → ℕ
  pub word_at : ℕ → ℕ → Side → K
  -- the word that p sends away from its side e
  pub away : ℕ → ℕ → Side → K
  -- the word of code c from p to its neighbour on d, without its mark
  pub plain : ℕ → Side → Code → Path → K
  -- the stronger request of the other end is heard; what is answered then, and what the span asks for
  pub outdone : ℕ → Side → Bool
  pub answer_code : ℕ → Side → Code
  pub top_code : ℕ → Side → Code

abbrev pub terms : Run → Terms
terms run = record {
  n = length run.ids;
  at = at_round run;
  id = slice_index run.ids;
  next = next_of run;
  code = code_on run;
  asks = number_on run;
  request = λ p d. max (number_on run p d) (number_on run (next_of run p d) (opposite d));
  weight_at = λ t p d. weight (at_round run t p) d;
  word_at = λ t p d. word (at_round run t p) d;
  away = λ t p e. word (at_round run t p) (opposite e);
  plain = λ p d c path. record {
    code = c;
    to = slice_index run.ids (next_of run p d);
    from = slice_index run.ids p;
    path = path;
    mark = mark.Idle;
  };
  outdone = is_outdone run;
  answer_code = λ p d. if is_outdone run p d then Rr else code_on run p d;
  top_code = λ p d. if is_outdone run p d then code_on run (next_of run p d) (opposite d) else code_on run p d;
}
