-- A ring of signals: nodes that send each other K words, one on each side in each round, without frames. All nodes take
-- what comes in first, and then all send. A word comes in one round after it was sent, and is heard where three rounds
-- in a row brought it. The controller of a node may miss a round: the node is held.
use Rattle.std.specs.Prelude.{ℕ, zero, suc, ◌≡◌, Bool, true, false, if◌then◌else◌, Option, None, option_map, List, [], length, slice_get}
use Rattle.std.specs.Prelude.{get_or, All}
use Rattle.sdh_basics.specs.Indexed.{map_from}
use Rattle.sdh_ringmap.specs.Ids.{AreIds}
use Rattle.sdh_ringmap.specs.Places.{opposite, neighbour}
use Rattle.sdh_ringmap.specs.declared.Side.{Side}
use Rattle.sdh_ringmap.specs.declared.Side.TheVariants.{West, East}
use Rattle.sdh_ringmap.specs.declared.terms.Code.{Code}
use Rattle.sdh_ringmap.specs.declared.terms.Code.TheVariants.{Nr}
use Rattle.sdh_kbytes.specs.declared.Path.TheVariants.{Short}
use Rattle.sdh_kbytes.specs.declared.Mark.TheVariants as mark
use Rattle.sdh_kbytes.specs.declared.K.{K}
use Rattle.sdh_nodestate.specs.declared.Needs.{Needs}
use Rattle.sdh_nodestate.specs.declared.Heard.{Heard}
use Rattle.sdh_nodestate.specs.declared.Sent.{Sent}
use Rattle.sdh_nodestate.specs.declared.NodeState.{NodeState}
use Rattle.sdh_nodestate.specs.declared.NodeState.TheVariants as state
use Rattle.sdh_nodestate.specs.Filtering.{Brought, nothing_brought, with_brought, hears}
use Rattle.sdh_nodestate.specs.Rules.{Scene, scene, state_after, sent_after}
use Rattle.sdh_nodestate.specs.Conditions.{MayNeed}
use Rattle.sdh_nodestate.specs.Words.{IsSourced}
use Rattle.sdh_restoration.specs.Applied.{span_requests}

-- the local request on a side
abbrev pub request_on : Needs → Side → Code
request_on x West = x.west
request_on x East = x.east

-- a side fails
abbrev pub fails_on : Needs → Side → Bool
fails_on x West = x.west_fails
fails_on x East = x.east_fails

-- the word that a node sent on a side
abbrev pub sent_on : Sent → Side → K
sent_on s West = s.west
sent_on s East = s.east

-- what the last three rounds brought to a node, on each side
pub record Filters : Type 0 where
  pub west : Brought
  pub east : Brought

-- filters to which no round has brought a word
abbrev pub no_filters : Filters
no_filters = record { west = nothing_brought; east = nothing_brought }

-- The nodes of a ring after some rounds, by position: their identifiers, their states, the words that they sent in the
-- last round (before the first round those that they start with), and what the last three rounds brought them.
pub record Signals : Type 0 where
  pub ids : List ℕ
  pub states : List NodeState
  pub words : List Sent
  pub filters : List Filters
  -- a round has run
  pub running : Bool

-- the words that are on their way: those of the round before, and none before the first round
abbrev pub on_their_way : Signals → List Sent
on_their_way s = if s.running then s.words else []

-- what comes in on side d of position p with needs x, in a ring of n whose nodes sent these words in the round before:
-- nothing where the side fails, or where no round was before; else the word that the neighbour sent this way
abbrev pub incoming : List Sent → ℕ → ℕ → Needs → Side → Option K
incoming words n p x d = if fails_on x d then None else option_map (λ s. sent_on s (opposite d)) (slice_get words (neighbour n p d))

-- what the last three rounds brought to position p, after one more round
unfoldable pub filters_after : Signals → ℕ → Needs → Filters
filters_after s p x = record {
  west = with_brought (incoming (on_their_way s) (length s.ids) p x West) (get_or s.filters p no_filters).west;
  east = with_brought (incoming (on_their_way s) (length s.ids) p x East) (get_or s.filters p no_filters).east;
}

-- the words that are heard, by what the last three rounds brought
abbrev pub heard_through : Filters → Heard
heard_through f = record { west = hears f.west; east = hears f.east }

-- the scene of the node at position p in the next round: its ring, its needs and what it hears
unfoldable pub scene_at : Signals → ℕ → Needs → Scene
scene_at s p x = scene s.ids p x (heard_through (filters_after s p x))

-- the node at a position is held in a round
abbrev pub is_held : List Bool → ℕ → Bool
is_held held p = get_or held p false

-- a word in place of one that isn't there
abbrev pub unsaid : K
unsaid = record { code = Nr; to = 0; from = 0; path = Short; mark = mark.Idle }

-- the state of the node at position p
abbrev pub state_in : Signals → ℕ → NodeState
state_in s p = get_or s.states p (state.Idle tt)

-- the words that the node at position p sent in the last round
abbrev pub words_in : Signals → ℕ → Sent
words_in s p = get_or s.words p (record { west = unsaid; east = unsaid })

-- One round. Each node takes what comes in. Then each node, by its position, goes into the state and sends the words
-- that the rules give. A node that is held keeps its state and its words.
unfoldable pub round : List Needs → List Bool → Signals → Signals
round needs held s = record {
  ids = s.ids;
  states = map_from (λ p x. if is_held held p then state_in s p else state_after (scene_at s p x)) 0 needs;
  words = map_from (λ p x. if is_held held p then words_in s p else sent_after (scene_at s p x)) 0 needs;
  filters = map_from (λ p x. filters_after s p x) 0 needs;
  running = true;
}

-- a round in which no node is held
abbrev pub free_round : List Needs → Signals → Signals
free_round needs s = round needs [] s

-- t rounds in which no node is held, all with these needs
abbrev pub unheld_rounds : List Needs → ℕ → Signals → Signals
unheld_rounds needs zero s = s
unheld_rounds needs (suc t) s = free_round needs (unheld_rounds needs t s)

-- A ring of signals with needs for each of its nodes: its identifiers are those of a ring, and the words that were sent
-- have their sources in it. Its states may be any, since the rules look at no old state.
pub record MaySignal (needs : List Needs) (s : Signals) : Type 0 where
  pub ids_ok : AreIds s.ids
  pub size : length needs ≡ length s.ids
  pub sound : All MayNeed needs
  pub said : length s.words ≡ length s.ids
  pub sourced : All (IsSourced s.ids) s.words

-- no requests and no failing side
abbrev pub no_needs : Needs
no_needs = record { west = Nr; east = Nr; west_fails = false; east_fails = false }

-- the requests of the ring's spans, from the needs of its nodes by position
abbrev pub requests_in : List Needs → List ℕ
requests_in needs = span_requests (length needs) (λ p d. request_on (get_or needs p no_needs) d)
