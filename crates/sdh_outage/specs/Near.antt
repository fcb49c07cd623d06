-- The part of a customer's stream that can be on its way to a port in a round. How far it reaches is this project's
-- own.
use Rattle.std.specs.Prelude.{ℕ, ◌+◌, ◌-◌, ◌*◌, Bool, ◌&&◌, ◌||◌, List, length, take, drop, bytes_eq}
use Rattle.std.specs.List.{list_any, range_with_len}
use Rattle.sdh_payload.specs.Customer.{Customer}
use Rattle.sdh_payload.specs.Stream.{stream_from}

-- the first near byte of a round: that of the chunk of 71 rounds before, and up to round 71 that of the stream
abbrev pub near_from : ℕ → ℕ
near_from round = 2349 * (round - 71)

-- the far customer's bytes from 71 chunks before a round's own to 6 after it: what was on its way for up to 65 rounds, by
-- a clock that is off by up to 6 chunks
unfoldable pub near : Customer → ℕ → List ℕ
near port round = stream_from port (near_from round) (2349 * 78)

-- some bytes stand in others, one after the other, wherever they begin
unfoldable pub is_part : List ℕ → List ℕ → Bool
is_part bytes others = list_any (λ place. bytes_eq bytes (take (length bytes) (drop place others))) (range_with_len 0 (length others + 1))

-- ---- pieces of a chunk

-- The bytes before the place where an AU-4 is justified, and those after all that a justification puts in or leaves out
-- there: three payload bytes and the three bytes H3. Whatever an interpreter takes for a justification, these stand in
-- a chunk as they were sent.
abbrev pub front : List ℕ → List ℕ
front bytes = take 783 bytes

abbrev pub back : List ℕ → List ℕ
back bytes = drop (length bytes - 1560) bytes

-- both pieces of a chunk stand in these bytes
abbrev pub is_torn : List ℕ → List ℕ → Bool
is_torn bytes others = is_part (front bytes) others && is_part (back bytes) others

-- one of the pieces of a chunk stands in these bytes
abbrev pub holds : List ℕ → List ℕ → Bool
holds bytes others = is_part (front bytes) others || is_part (back bytes) others
