-- One node's part of a round, by the lists of all positions: first it takes what comes in, then it steps, if it isn't
-- held.
use Rattle.std.specs.Prelude.{ℕ, ◌≡◌, true, Bool, if◌then◌else◌, None, List, get_or}
use Rattle.sdh_ringmap.specs.declared.Side.TheVariants.{West, East}
use Rattle.sdh_nodestate.specs.declared.Needs.{Needs}
use Rattle.sdh_nodestate.specs.declared.Sent.{Sent}
use Rattle.sdh_nodestate.specs.declared.NodeState.{NodeState}
use Rattle.sdh_nodestate.specs.declared.NodeState.TheVariants.{Idle}
use Rattle.sdh_nodestate.specs.Filtering.{with_brought}
use Rattle.sdh_nodestate.specs.Rules.{Scene, scene, state_after, sent_after}
use Rattle.sdh_signal.specs.Signals.{Filters, no_filters, incoming, heard_through, is_held, unsaid}

-- what the last three rounds brought to position p of a ring of n, after one more round, where these words are on their
-- way
abbrev pub filters_with : List Sent → ℕ → ℕ → Needs → Filters → Filters
filters_with words n p x f = record {
  west = with_brought (incoming words n p x West) f.west;
  east = with_brought (incoming words n p x East) f.east;
}

-- the scene of the node at position p, which hears through these filters
abbrev pub scene_through : List ℕ → ℕ → Needs → Filters → Scene
scene_through ids p x f = scene ids p x (heard_through f)

-- the state of the node at position p after a round with these filters: the state before it where the node is held
abbrev pub next_state : List ℕ → List Filters → List Bool → List NodeState → ℕ → Needs → NodeState
next_state ids filters held states p x =
    if is_held held p then get_or states p (Idle tt) else state_after (scene_through ids p x (get_or filters p no_filters))

-- the words of the node at position p after a round with these filters: the words before it where the node is held
abbrev pub next_sent : List ℕ → List Filters → List Bool → List Sent → ℕ → Needs → Sent
next_sent ids filters held words p x =
    if is_held held p then get_or words p (record { west = unsaid; east = unsaid })
    else sent_after (scene_through ids p x (get_or filters p no_filters))

-- the last round brought nothing on a failing side
pub record IsSilent (x : Needs) (f : Filters) : Type 0 where
  pub west : x.west_fails ≡ true → f.west.last ≡ None
  pub east : x.east_fails ≡ true → f.east.last ≡ None
