-- What comes out of the fibres.
use Rattle.std.specs.Prelude.{ℕ, ◌≡◌, ◌≢◌, ◌⊎◌, ◌+◌, ◌*◌, ◌/◌, ◌%◌, ◌==◌, ◌&&◌, Bool, true, nat_le, if◌then◌else◌, bit_xor, Option, Some}
use Rattle.std.specs.Prelude.{None, List, [], ◌∷◌, slice_index_or, option_map}
use Rattle.std.specs.Option.{option_map_or}
use Rattle.sdh_basics.specs.Indexed.{map_from}
use Rattle.sdh_ringmap.specs.Rates.{n_of}
use Rattle.sdh_ringmap.specs.declared.Side.{Side}
use Rattle.sdh_ringmap.specs.declared.terms.Condition.{Condition}
use Rattle.sdh_ringmap.specs.declared.terms.Condition.TheVariants.{Clear, Cut, Degraded}
use Rattle.sdh_plant.specs.declared.plant.Arrived.{Arrived}
use Rattle.sdh_plant.specs.declared.plant.Arrived.TheVariants as arrived
use Rattle.sdh_plant.specs.Fibres.{Arrival, Fibres}
use Rattle.sdh_ringmap.specs.Fibres.{fibre_to}

-- A fibre that is degraded by k columns inverts the top bit of the byte at this row and column, both counted from 1.
-- These are columns 1 to k of row 6, section overhead below the bytes B2.
abbrev pub is_inverted : ℕ → ℕ → ℕ → Bool
is_inverted k row column = (row == 6) && nat_le column k

-- byte i of a frame after a fibre that is degraded by k columns, where x was sent; a row has 270 N bytes
unfoldable pub degraded_byte : ℕ → ℕ → ℕ → ℕ → ℕ
degraded_byte n k i x = if is_inverted k (i / (270 * n) + 1) (i % (270 * n) + 1) then bit_xor x 0x80 else x

-- a frame after a fibre that is degraded by k columns
unfoldable pub degraded : ℕ → ℕ → List ℕ → List ℕ
degraded n k bytes = map_from (degraded_byte n k) 0 bytes

-- what comes out of a fibre that is in this condition and carries `carried`
abbrev pub through : ℕ → Condition → Arrival → Arrival
through n Clear carried = carried
through n Cut carried = None
through n (Degraded k) carried = option_map (degraded n k) carried

-- what fibre i carries
abbrev pub carried_on : Fibres → ℕ → Arrival
carried_on f i = slice_index_or f.carried i None

-- the condition of fibre i
abbrev pub condition_of : Fibres → ℕ → Condition
condition_of f i = slice_index_or f.conditions i Clear

-- what comes to position p on that side over honest fibres
abbrev pub honest_arrival : Fibres → ℕ → Side → Arrival
honest_arrival f p d = through (n_of f.rate) (condition_of f (fibre_to f.nodes p d)) (carried_on f (fibre_to f.nodes p d))

-- the next of the told arrivals, and nothing past the last
abbrev pub next_told : List Arrival → Arrival
next_told [] = None
next_told (a ∷ later) = a

-- what comes to position p on that side next, where that is known
abbrev pub arrival : Fibres → ℕ → Side → Arrival
arrival f p d = option_map_or next_told f.told (honest_arrival f p d)

-- the arrivals are known: the fibres are honest, or the arrivals are told
abbrev pub Knows : Fibres → Type 0
Knows f = (f.honest ≡ true) ⊎ (f.told ≢ None)

-- what arrived, from the answer of a receive and the bytes of the frame that it filled
abbrev pub as_arrival : Arrived → List ℕ → Arrival
as_arrival arrived.Frame bytes = Some bytes
as_arrival arrived.Dark bytes = None

-- what arrived, from the answer of a receive and the bytes that landed
abbrev pub arrived_in : Arrived → Option (List ℕ) → Arrival
arrived_in arrived.Frame landed = landed
arrived_in arrived.Dark landed = None
