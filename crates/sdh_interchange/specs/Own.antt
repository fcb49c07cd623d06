-- Payloads of a node's own ports, by the numbers of the AU-4s that they go to.
use Rattle.std.specs.Prelude.{◌≡◌, ◌<◌, ℕ, List, [], length, slice_index_or}

-- own payloads, one for each AU-4 that a frame may have
pub record ArePayloads (own : List (List ℕ)) : Type 0 where
  pub many : length own ≡ 16
  pub each : (a : ℕ) → a < 16 → length (slice_index_or own a []) ≡ 2349
