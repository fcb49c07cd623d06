-- A circuit map as contracts see it, and its look-ups.
use Rattle.std.specs.Prelude.{ℕ, ◌≡◌, ◌≢◌, ◌<◌, ◌≤◌, ◌⊎◌, true, List, [], length, Option, Some, IfNone, slice_get, position}
use Rattle.std.specs.Option.{option_map_or}
use Rattle.std.specs.List.{All}
use Rattle.std.specs.Str.{bytes_eq}
use Rattle.sdh_circuits.specs.Naming.{is_name}
use Rattle.sdh_circuits.specs.Provisioned.{Provisioned, is_on, AreApart}

-- The circuits of a ring: the number of working slots, half of the rate's N; the identifiers of the ring
-- that the first circuit was added with; and the circuits in the order in which they were added.
pub record Provisioning : Type 0 where
  pub slots : ℕ
  pub ring : Option (List ℕ)
  pub circuits : List Provisioned

-- half of a rate's N, for STM-4 and STM-16
abbrev pub IsRateHalf : ℕ → Type 0
IsRateHalf n = (n ≡ 2) ⊎ (n ≡ 8)

-- the circuit's ends are two nodes of a ring of n
pub record IsInRing (n : ℕ) (c : Provisioned) : Type 0 where
  pub from_inside : c.from.0 < n
  pub to_inside : c.to.0 < n
  pub two_ends : c.from.0 ≢ c.to.0

-- the circuit's slot is 1 to `slots`
pub record IsInSlots (slots : ℕ) (c : Provisioned) : Type 0 where
  pub from_1 : 1 ≤ c.slot.0
  pub small : c.slot.0 ≤ slots

-- the offsets of a circuit's customers are pointer values
pub record HasOffsets (c : Provisioned) : Type 0 where
  pub a : c.a.offset ≤ 782
  pub b : c.b.offset ≤ 782

-- What is true of the circuits of a ring of n with `slots` working slots. The ends of each circuit are two nodes of the
-- ring, its slot is a working slot, its offsets are pointer values, and its name has its form. No two circuits have one
-- name, or share a span and a slot.
pub record AreCircuits (n slots : ℕ) (circuits : List Provisioned) : Type 0 where
  pub in_ring : All (IsInRing n) circuits
  pub in_slots : All (IsInSlots slots) circuits
  pub offsets : All HasOffsets circuits
  pub named : All (λ c. is_name c.name ≡ true) circuits
  pub named_apart : (i j : ℕ) (c d : Provisioned) → slice_get circuits i ≡ Some c → slice_get circuits j ≡ Some d → c.name ≡ d.name → i ≡ j
  pub apart : AreApart n circuits

-- the number of nodes of the ring that the map keeps, 0 where it keeps none
abbrev pub ring_size : Provisioning → ℕ
ring_size p = option_map_or length p.ring 0

-- what is true of every circuit map
pub record IsProvisioning (p : Provisioning) : Type 0 where
  pub rate : IsRateHalf p.slots
  pub ring_small : ring_size p ≤ 16
  pub empty : IfNone p.ring (p.circuits ≡ [])
  pub circuits : AreCircuits (ring_size p) p.slots p.circuits

-- the number of the first circuit that is on a span in a slot, if there is one
abbrev pub on_span : Provisioning → ℕ → ℕ → Option ℕ
on_span p span slot = position (is_on (ring_size p) span slot) p.circuits

-- the number of the circuit that has a name, if there is one
abbrev pub at_port : Provisioning → List ℕ → Option ℕ
at_port p name = position (λ c. bytes_eq c.name name) p.circuits
