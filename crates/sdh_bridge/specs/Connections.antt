-- What a node connects in one slot, by its state and the circuits on its two spans. Bridging, switching, passing
-- through and squelching are those of ITU-T G.841, MS shared protection rings.
use Rattle.std.specs.Prelude.{ℕ, Bool, false, ◌==◌, if◌then◌else◌, Option, Some, None}
use Rattle.std.specs.Option.{option_map_or}
use Rattle.sdh_ringmap.specs.Places.{opposite}
use Rattle.sdh_ringmap.specs.declared.Chain.{Chain}
use Rattle.sdh_ringmap.specs.declared.Pos.{Pos}
use Rattle.sdh_ringmap.specs.declared.Side.{Side}
use Rattle.sdh_ringmap.specs.declared.Side.TheVariants.{West, East}
use Rattle.sdh_circuits.specs.declared.End.TheVariants.{A, B}
use Rattle.sdh_squelch.specs.Table.{OnSpan, is_carried}
use Rattle.sdh_nodestate.specs.FarEnds.{west_chain, east_chain}
use Rattle.sdh_nodestate.specs.declared.NodeState.{NodeState}
use Rattle.sdh_nodestate.specs.declared.NodeState.TheVariants as state
use Rattle.sdh_bridge.specs.declared.Origin.{Origin}
use Rattle.sdh_bridge.specs.declared.Origin.TheVariants.{Add, Working, Protection, Ais}

-- what a node at p sends of the circuit on a side: the stream of its own port where the circuit ends there, else what
-- comes through; AIS where there is no circuit
abbrev pub origin_sent : Pos → Option OnSpan → Origin → Origin
origin_sent p None through = Ais
origin_sent p (Some r) through =
    if r.from.0 == p.0 then Add (record { circuit = r.circuit; end = A }) else
    if r.to.0 == p.0 then Add (record { circuit = r.circuit; end = B }) else through

-- A node at position p of a ring of n. `on` gives the circuit on the span of each side in the slot.
module _ (n : ℕ) (p : Pos) (on : Side → Option OnSpan) where
  -- The chain of a node that switches a side, where its switch has the given far end: all positions from the node,
  -- going away from the switched side, up to the far end, both included. There is none where there is no far end.
  abbrev pub chain_on : Side → Option Pos → Option Chain
  chain_on West far = west_chain n p far
  chain_on East far = east_chain n p far

  -- Whether the circuit on side d may be carried round the ring, where the node switches that side: the node has a far
  -- end, and both ends of the circuit are in the chain up to it.
  unfoldable pub may_carry : Side → Option Pos → Bool
  may_carry d far = option_map_or (is_carried n (on d)) (chain_on d far) false

  -- The origin of what the node takes from side d in the working slot: what arrives there. Where d is switched, it is
  -- what arrives in the protection slot on the other side if the circuit on d may be carried round, and else AIS. In an
  -- isolated node it is AIS.
  unfoldable pub stands_for : NodeState → Side → Origin
  stands_for (state.Isolated x) d = Ais
  stands_for (state.SwitchWest far) West = if may_carry West far then Protection East else Ais
  stands_for (state.SwitchWest far) East = Working East
  stands_for (state.SwitchEast far) East = if may_carry East far then Protection West else Ais
  stands_for (state.SwitchEast far) West = Working West
  stands_for (state.PassThrough x) d = Working d
  stands_for (state.Idle x) d = Working d

  -- what leaves on side d in the working slot
  unfoldable pub leaves_working : NodeState → Side → Origin
  leaves_working (state.Isolated x) d = Ais
  leaves_working s d = origin_sent p (on d) (stands_for s (opposite d))

  -- what leaves on side d in the protection slot
  unfoldable pub leaves_protection : NodeState → Side → Origin
  leaves_protection (state.PassThrough x) d = Protection (opposite d)
  leaves_protection (state.SwitchWest far) East = if may_carry West far then leaves_working (state.SwitchWest far) West else Ais
  leaves_protection (state.SwitchEast far) West = if may_carry East far then leaves_working (state.SwitchEast far) East else Ais
  leaves_protection s d = Ais
