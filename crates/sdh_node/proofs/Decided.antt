-- What a node decided in its last round, by what it needed and heard, and by whether the round was held.
use Rattle.std.proofs.Common.{◌≡◌, ℕ, ◌-◌, Bool, refl, ap, sym, ◌∙◌}
use Rattle.std.specs.Prelude.{if◌then◌else◌}
use Rattle.sdh_ringmap.specs.declared.Side.{Side}
use Rattle.sdh_ringmap.specs.declared.Side.TheVariants.{West, East}
use Rattle.sdh_kbytes.specs.declared.K.{K}
use Rattle.sdh_nodestate.specs.Rules.{Scene, scene, state_after, word}
use Rattle.sdh_node.specs.Crossing.{scene_of, after_decision, next_word}
use Rattle.sdh_terminal.specs.Sending.{after_sending}
use Rattle.sdh_node.specs.Node.{Node, is_held, crossing, after_crossing, with_calm, node_round, needed, heard_by, last_word_on}

-- the scene of the last round
unfoldable pub scene_in : Node → Scene
scene_in n = scene n.ids n.at.0 (needed n) (heard_by n)

scene_is : (now : ℕ) (n : Node) → scene_in (node_round now n).0 ≡ scene_of (crossing now n)
unfolding node_round with_calm after_crossing crossing after_decision scene_of scene_in
scene_is now n = refl

pub state_is : (now : ℕ) (n : Node) → (node_round now n).0.state
    ≡ (if is_held n then n.state else state_after (scene_in (node_round now n).0))
unfolding node_round with_calm after_crossing crossing after_decision scene_of scene_in
state_is now n = refl

-- the word of the round
abbrev pub word_next : ℕ → Node → Side → K
word_next now n d = next_word (is_held n) (crossing now n) d (last_word_on d n)

pub word_turned : (now : ℕ) (n : Node) (d : Side) → last_word_on d (node_round now n).0 ≡ word_next now n d
unfolding node_round with_calm after_crossing after_sending
word_turned now n West = refl
word_turned now n East = refl

by_turn : (b : Bool) (s t : Scene) (d : Side) (k : K) → s ≡ t → (if b then k else word s d) ≡ (if b then k else word t d)
by_turn b s t d k same = ap (λ x. if b then k else word x d) same

pub word_is : (now : ℕ) (n : Node) (d : Side) → last_word_on d (node_round now n).0
    ≡ (if is_held n then last_word_on d n else word (scene_in (node_round now n).0) d)
unfolding next_word
word_is now n d =
    word_turned now n d ∙ by_turn (is_held n) (scene_of (crossing now n)) (scene_in (node_round now n).0) d (last_word_on d n)
    (sym (scene_is now n))

pub turns_left : (now : ℕ) (n : Node) → (node_round now n).0.held ≡ n.held - 1
unfolding node_round with_calm after_crossing
turns_left now n = refl
