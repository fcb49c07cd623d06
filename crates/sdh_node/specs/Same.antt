-- What is compared between a round and the round before, and when the two are equal.
use Rattle.std.specs.Prelude.{ℕ, Bool, ◌&&◌, Option, List}
use Rattle.sdh_kbytes.specs.Same.{same_code, same_word, same_heard}
use Rattle.sdh_ringmap.specs.declared.terms.Code.{Code}
use Rattle.sdh_kbytes.specs.declared.K.{K}
use Rattle.sdh_nodestate.specs.declared.NodeState.{NodeState}
use Rattle.sdh_nodestate.specs.Shapes.{same_state}
use Rattle.sdh_pointer.specs.declared.reading.Reading.{Reading}
use Rattle.sdh_terminal.specs.Same.{same_readings, same_generators}

-- ---- what is compared

-- what is compared of the receiving half of a side: the local request, the word heard, and what the interpreters keep,
-- AU-4 by AU-4
pub record ComparedIn : Type 0 where
  pub request : Code
  pub heard : Option K
  pub readings : List Reading

-- what is compared of the sending half of a side: the word, and the states of the generators, AU-4 by AU-4
pub record ComparedOut : Type 0 where
  pub word : K
  pub generators : List (Option ℕ)

pub record Compared : Type 0 where
  pub west : ComparedIn
  pub east : ComparedIn
  -- the node's state, with the far end
  pub state : NodeState
  pub west_out : ComparedOut
  pub east_out : ComparedOut

abbrev pub same_in : ComparedIn → ComparedIn → Bool
same_in a b = same_code a.request b.request && same_heard a.heard b.heard && same_readings a.readings b.readings

abbrev pub same_out : ComparedOut → ComparedOut → Bool
same_out a b = same_word a.word b.word && same_generators a.generators b.generators

-- all that is compared is equal
unfoldable pub same_compared : Compared → Compared → Bool
same_compared a b =
    same_in a.west b.west && same_in a.east b.east && same_state a.state b.state && same_out a.west_out b.west_out
    && same_out a.east_out b.east_out
