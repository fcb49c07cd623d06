-- When a ring is vouched for: each frame that is under way holds only the bytes that may be in it. This is a property
-- of a ring and its fibres between rounds.
use Rattle.std.specs.Prelude.{ℕ, ◌≡◌, ◌⊎◌, ◌+◌, ◌*◌, ◌<◌, ◌≤◌, Option, Some, None, option_map, List, length}
use Rattle.std.specs.Option.{option_and_then}
use Rattle.sdh_ringmap.specs.Rates.{n_of}
use Rattle.sdh_frame.specs.Aus.{Au, au_of, ones}
use Rattle.sdh_parity.specs.Scrambling.{scrambled}
use Rattle.sdh_kbytes.specs.declared.K.{K}
use Rattle.sdh_ringmap.specs.Places.{found_at, opposite}
use Rattle.sdh_ringmap.specs.declared.Pos.{Pos}
use Rattle.sdh_ringmap.specs.declared.Side.{Side}
use Rattle.sdh_ringmap.specs.declared.Side.TheVariants.{West, East}
use Rattle.sdh_circuits.specs.Provisioned.{Provisioned}
use Rattle.sdh_circuits.specs.declared.End.{End}
use Rattle.sdh_circuits.specs.declared.End.TheVariants.{A, B}
use Rattle.sdh_circuits.specs.declared.PortId.{PortId}
use Rattle.sdh_circuits.specs.Ends.{port_id}
use Rattle.sdh_squelch.specs.Table.{OnSpan, circuits_at}
use Rattle.sdh_nodestate.specs.Rules.{long_word}
use Rattle.sdh_nodestate.specs.declared.NodeState.{NodeState}
use Rattle.sdh_nodestate.specs.declared.NodeState.TheVariants as state
use Rattle.sdh_payload.specs.Clock.{Clock}
use Rattle.sdh_ringmap.specs.Fibres.{fibre}
use Rattle.sdh_plant.specs.Arrivals.{carried_on}
use Rattle.sdh_node.specs.Node.{Node, last_word_on}
use Rattle.sdh_node.specs.Rings.Held.{node_at, AtEach}
use Rattle.sdh_node.specs.Rings.Rounds.{World}
use Rattle.sdh_laws.specs.Hearing.Laws.{IsWhole}
use Rattle.sdh_laws.specs.Carrying.Windows.{layout_of, slots_of}
use Rattle.sdh_laws.specs.Strangers.Owners.{HasBytesOf, Holds}

-- ---- whose stream goes where

-- the end of a circuit whose stream goes along its arc to that side: port A is where the arc starts, and sends
-- eastwards
abbrev pub sender : Side → End
sender East = A
sender West = B

-- the port whose stream goes to a side along the arc of the circuit on a span, or none where no circuit is there
abbrev pub streams_to : Side → Option OnSpan → Option PortId
streams_to d on = option_map (λ r. port_id r.circuit (sender d)) on

-- the circuit in slot m on the span that this position has on a side, or none where there is no position
abbrev pub circuit_on_side : List ℕ → List Provisioned → ℕ → Side → Option Pos → Option OnSpan
circuit_on_side ids circuits m d None = None
circuit_on_side ids circuits m d (Some source) = circuits_at (length ids) circuits source.0 m d

-- The circuit that a K word speaks of in slot m: the one in that slot on the span that the source of a long word has on
-- a side. It is none where the word isn't a long one with a request, or its source isn't in the ring.
abbrev pub spoken_of : List ℕ → List Provisioned → ℕ → Side → K → Option OnSpan
spoken_of ids circuits m d k = circuit_on_side ids circuits m d (option_and_then (λ k. found_at ids k.from) (long_word k))

-- ---- who may miss a round

-- a node that stands aside: it takes nothing from protection and puts nothing there
abbrev pub IsAside : NodeState → Type 0
IsAside (state.Idle i) = Unit {0}
IsAside (state.Isolated i) = Unit {0}
IsAside (state.PassThrough i) = ⊥
IsAside (state.SwitchWest f) = ⊥
IsAside (state.SwitchEast f) = ⊥

-- a node whose controller misses no round, or which stands aside
abbrev pub MissesAside : Node → Type 0
MissesAside n = (n.held ≡ 0) ⊎ IsAside n.state

-- ---- a ring that is vouched for

-- an AU-4 holds at most the bytes of a port: ones, or what the port put into its AU-4 in some earlier round; for no
-- port, it holds ones
abbrev pub HoldsAtMost : List Provisioned → (PortId → ℕ → Clock) → ℕ → Option PortId → Au → Type 0
HoldsAtMost circuits clocks t None a = HasBytesOf ones a
HoldsAtMost circuits clocks t (Some port) a = Holds circuits clocks t port a

-- AU-4 number au of a frame on a fibre
abbrev pub au_in : World → ℕ → List ℕ → Au
au_in w au line = au_of (n_of w.ring.settings.rate) au (scrambled (9 * n_of w.ring.settings.rate) line)

-- A whole ring in which only controllers of nodes that stand aside miss rounds, and whose frames vouch for what they
-- hold. On each fibre a working slot holds at most the bytes of the circuit that is in it on that span, going that way.
-- A protection slot holds at most the bytes of the circuit that the K word in its frame speaks of, going the other way.
pub record IsVouched (clocks : PortId → ℕ → Clock) (w : World) : Type 0 where
  pub whole : IsWhole w
  pub aside : AtEach (λ p n. MissesAside n) w.ring.nodes
  pub working : (p m : ℕ) (d : Side) (line : List ℕ) → p < length w.ring.nodes → carried_on w.fibres (fibre p d) ≡ Some line → 1 ≤ m
      → m ≤ slots_of (layout_of w)
      → HoldsAtMost w.ring.circuits.circuits clocks w.ring.rounds
      (streams_to d (circuits_at (length w.ring.ids) w.ring.circuits.circuits p m d)) (au_in w m line)
  pub protection : (p m : ℕ) (d : Side) (line : List ℕ) → p < length w.ring.nodes → carried_on w.fibres (fibre p d) ≡ Some line → 1 ≤ m
      → m ≤ slots_of (layout_of w)
      → HoldsAtMost w.ring.circuits.circuits clocks w.ring.rounds
      (streams_to (opposite d) (spoken_of w.ring.ids w.ring.circuits.circuits m (opposite d) (last_word_on d (node_at w.ring.nodes p))))
      (au_in w (slots_of (layout_of w) + m) line)
