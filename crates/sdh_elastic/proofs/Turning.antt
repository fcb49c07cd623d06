-- The store after a turn, made field by field.
use Rattle.std.proofs.Common.{◌≡◌, ℕ, Bool, List, ◌++◌, length, take, drop}
use Rattle.std.specs.Prelude.{◌&&◌}
use Rattle.sdh_pointer.specs.declared.reading.Action.{Action}
use Rattle.sdh_elastic.specs.declared.stage.Stage.{Stage}
use Rattle.sdh_elastic.specs.declared.lengths.Lengths.{Lengths}
use Rattle.sdh_elastic.specs.Turns.{given, value_after, word_for}
use Rattle.sdh_elastic.specs.Lengths.{with_length, keeps_steady}
use Rattle.sdh_elastic.specs.Store.{Store, action_at, stage_after, given_at, after_turn}

pub record IsTurn (s : Store) (input : List ℕ) (a : Action) (out : List ℕ) (new : Store) : Type 0 where
  pub action : a ≡ action_at s
  pub given : out ≡ given_at s input
  pub store : new ≡ after_turn s input

pub made : (s : Store) (input : List ℕ) (a : Action) (k : ℕ) (out h : List ℕ) (st : Stage) (v w : ℕ) (ls : Lengths) (b : Bool)
    → a ≡ action_at s → k ≡ given a → out ≡ take k (s.held ++ input) → h ≡ drop k (s.held ++ input) → st ≡ stage_after s.stage a
    → v ≡ value_after a s.value → w ≡ word_for a s.value
    → ls ≡ with_length (length input) s.lengths → b ≡ (s.steady && keeps_steady (length input) s.lengths)
    → IsTurn s input a out (record { held = h; stage = st; value = v; word = w; lengths = ls; steady = b })
unfolding after_turn
made s input a k out h st v w ls b is count given held stage value word lengths steady = record { action = is; given = cc; store = cc }
