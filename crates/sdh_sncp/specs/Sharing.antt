-- Which circuits share a slot.
use Rattle.std.specs.Prelude.{ℕ, ◌≡◌, ◌==◌, ◌<◌, Bool, Option, Some, List, length, slice_get, find}
use Rattle.std.specs.List.{range_with_len}
use Rattle.std.specs.Option.{is_some, option_map_or}
use Rattle.sdh_circuits.specs.Provisioned.{Provisioned}

-- circuits number i and j share a slot
pub record Share (circuits : List Provisioned) (i j : ℕ) : Type 0 where
  pub first : Provisioned
  pub second : Provisioned
  pub first_is : slice_get circuits i ≡ Some first
  pub second_is : slice_get circuits j ≡ Some second
  pub slot : first.slot.0 ≡ second.slot.0

-- these two circuits are the first that share a slot: no circuit before the second one shares a slot with one before
-- it, and none before the first one shares it with the second
pub record AreFirstToShare (circuits : List Provisioned) (i j : ℕ) : Type 0 where
  pub share : Share circuits i j
  pub order : i < j
  pub least_second : (k l : ℕ) → k < l → l < j → Share circuits k l → ⊥
  pub least_first : (k : ℕ) → k < i → Share circuits k j → ⊥

-- ---- circuits that share a slot, computed

unfoldable pub slot_at : List Provisioned → ℕ → ℕ
slot_at circuits i = option_map_or (λ c. c.slot.0) (slice_get circuits i) 0

unfoldable pub share : List Provisioned → ℕ → ℕ → Bool
share circuits j i = slot_at circuits i == slot_at circuits j

-- the first circuit before number j that shares a slot with it
unfoldable pub first_before : List Provisioned → ℕ → Option ℕ
first_before circuits j = find (share circuits j) (range_with_len 0 j)

-- whether a circuit before number j shares a slot with it
unfoldable pub has_before : List Provisioned → ℕ → Bool
has_before circuits j = is_some (first_before circuits j)

-- the first circuit that shares its slot with one before it
unfoldable pub first_second : List Provisioned → Option ℕ
first_second circuits = find (has_before circuits) (range_with_len 0 (length circuits))
