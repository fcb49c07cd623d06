-- Which lists of numbers are the identifiers of a ring, and the error for a list that is not.
use Rattle.std.specs.Prelude.{ℕ, ℤ, pos, negsuc, ◌+◌, List, length, slice_index_or, map, take, Bool, false, not, ◌&&◌, nat_le}
use Rattle.std.specs.Prelude.{if◌then◌else◌, Option, Result, Ok, Err}
use Rattle.std.specs.Option.{option_map_or}
use Rattle.std.specs.List.{list_any, find, position, range_with_len}
use Rattle.std.specs.Ordering.{int_eq}
use Rattle.sdh_ringmap.specs.declared.MapError.{MapError}
use Rattle.sdh_ringmap.specs.declared.MapError.TheVariants.{NodeCount, NodeId, Repeat}

-- a ring may have this number of nodes: 2 to 16
abbrev pub is_ring_size : ℕ → Bool
is_ring_size n = nat_le 2 n && nat_le n 16

-- the number is an identifier: 0 to 15
abbrev pub is_id : ℤ → Bool
is_id (pos n) = nat_le n 15
is_id (negsuc n) = false

-- the absolute value of an integer
abbrev pub magnitude : ℤ → ℕ
magnitude (pos n) = n
magnitude (negsuc n) = n + 1

-- the number at place i stands at an earlier place too
abbrev pub stood_before : List ℤ → ℕ → Bool
stood_before ids i = list_any (λ y. int_eq y (slice_index_or ids i (pos 0))) (take i ids)

-- the place, counted from 0, of the first number that is no identifier
abbrev pub first_unfit : List ℤ → Option ℕ
first_unfit ids = position (λ z. not (is_id z)) ids

-- the place, counted from 0, of the first number that stands at an earlier place too
abbrev pub first_repeat : List ℤ → Option ℕ
first_repeat ids = find (stood_before ids) (range_with_len 0 (length ids))

-- The identifiers of the ring that has these numbers by position, or else the error: the number of nodes; the first
-- number that is no identifier; the first repeat. Nodes are counted from 1.
unfoldable pub ring_of : List ℤ → Result (List ℕ) MapError
ring_of ids =
    if is_ring_size (length ids) then
    option_map_or (λ i. Err (NodeId (i + 1))) (first_unfit ids)
    (option_map_or (λ i. Err (Repeat (i + 1))) (first_repeat ids) (Ok (map magnitude ids)))
    else Err NodeCount
