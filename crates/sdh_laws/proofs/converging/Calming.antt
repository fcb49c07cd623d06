-- A round that changes nothing of what is compared is calm.
use Rattle.std.proofs.Common.{◌≡◌, ℕ, ◌<◌, true, false, length}
use Rattle.sdh_ringmap.specs.declared.Side.{Side}
use Rattle.sdh_ringmap.specs.declared.Side.TheVariants.{West, East}
use Rattle.sdh_nodestate.specs.Filtering.{hears}
use Rattle.sdh_node.specs.Node.{Node, receiving_on, sending_on, is_held, compared, last_word_on}
use Rattle.sdh_node.specs.Rings.Rounds.{World, round}
use Rattle.sdh_node.specs.Rings.Quiet.{is_calm}
use Rattle.sdh_laws.specs.Hearing.Laws.{IsWhole}
use Rattle.sdh_laws.proofs.hearing.Signalling.{calm_where_same}
use Rattle.sdh_node.specs.Rings.Held.{node_at, AtEach}

-- all that is compared of two nodes is equal, side by side
pub record AreSame (a b : Node) : Type 0 where
  pub state : a.state ≡ b.state
  pub request : (d : Side) → (receiving_on d a).request ≡ (receiving_on d b).request
  pub heard : (d : Side) → hears (receiving_on d a).brought ≡ hears (receiving_on d b).brought
  pub readings : (d : Side) → (receiving_on d a).readings ≡ (receiving_on d b).readings
  pub word : (d : Side) → last_word_on d a ≡ last_word_on d b
  pub generators : (d : Side) → (sending_on d a).generators ≡ (sending_on d b).generators

compared_by : (a b : Node) → AreSame a b → compared a ≡ compared b
compared_by a b is =
    let state = is.state in
    let west_request = is.request West in
    let west_heard = is.heard West in
    let west_readings = is.readings West in
    let east_request = is.request East in
    let east_heard = is.heard East in
    let east_readings = is.readings East in
    let west_word = is.word West in
    let west_generators = is.generators West in
    let east_word = is.word East in
    let east_generators = is.generators East in
    λ i. record {
      west = record { request = west_request i; heard = west_heard i; readings = west_readings i };
      east = record { request = east_request i; heard = east_heard i; readings = east_readings i };
      state = state i;
      west_out = record { word = west_word i; generators = west_generators i };
      east_out = record { word = east_word i; generators = east_generators i };
    }

pub calm_round : (u : World) → IsWhole u → 0 < u.ring.rounds → AtEach (λ p n. is_held n ≡ false) u.ring.nodes
    → ((p : ℕ) → p < length u.ring.nodes → AreSame (node_at (round u).ring.nodes p) (node_at u.ring.nodes p))
    → is_calm (round u).ring.nodes ≡ true
calm_round u whole ran free same =
    calm_where_same u whole ran free (λ p h. compared_by (node_at (round u).ring.nodes p) (node_at u.ring.nodes p) (same p h))
