-- Which word is sent on a side, by the urgency of the words that may be sent there. The order is this project's own,
-- after ITU-T G.841.
use Rattle.std.specs.Prelude.{ℕ, ◌≡◌, ◌≢◌, ◌<◌, ◌≤◌, ◌⊎◌}
use Rattle.sdh_ringmap.specs.Places.{opposite}
use Rattle.sdh_ringmap.specs.declared.Side.{Side}
use Rattle.sdh_nodestate.specs.Rules.{Scene, weight, weight_of, relayed, Choice, own_short, own_long, relay, rest, chosen}

-- the weight of a word that may be sent on d; 0 where there is no such word
abbrev pub weight_on : Scene → Side → Choice → ℕ
weight_on s d own_short = weight s d
weight_on s d own_long = weight s (opposite d)
weight_on s d relay = weight_of (relayed s d)
weight_on s d rest = 0

-- a word of weight a is at least as urgent as one of weight b: all from SF up are equally urgent
abbrev pub IsAsUrgent : ℕ → ℕ → Type 0
IsAsUrgent a b = (11 ≤ a) ⊎ (b ≤ a)

-- the order of words that are equally urgent: the own short one, the own long one, the relayed one
abbrev pub place : Choice → ℕ
place own_short = 0
place own_long = 1
place relay = 2
place rest = 3

-- of words with these weights, c is the one to be sent
pub record IsFirst (weight : Choice → ℕ) (c : Choice) : Type 0 where
  -- a word other than rest is sent only where its weight isn't 0, and rest only where all weights are 0
  pub there : c ≢ rest → 0 < weight c
  pub nothing : c ≡ rest → (other : Choice) → weight other ≡ 0
  -- no word is more urgent than the one that is sent, which stands first among those that are as urgent
  pub urgent : (other : Choice) → IsAsUrgent (weight c) (weight other)
  pub before : (other : Choice) → 0 < weight other → IsAsUrgent (weight other) (weight c) → place c ≤ place other

-- in every scene the word sent on a side is the one that comes first by the weights
abbrev pub FirstWordsAreSent : Type 0
FirstWordsAreSent = (s : Scene) (d : Side) → IsFirst (weight_on s d) (chosen s d)
