-- The local requests of the nodes of a ring, as a list by position.
use Rattle.std.specs.Prelude.{ℕ, List, length, slice_index_or}
use Rattle.sdh_ringmap.specs.declared.terms.Code.{Code}
use Rattle.sdh_ringmap.specs.declared.terms.Code.TheVariants.{Nr}
use Rattle.sdh_ringmap.specs.declared.Side.{Side}
use Rattle.sdh_ringmap.specs.declared.Side.TheVariants.{West, East}
use Rattle.sdh_restoration.specs.declared.applied.LocalRequests.{LocalRequests}
use Rattle.sdh_restoration.specs.Applied.{span_requests}

-- the local request on a side of one node
abbrev pub on_side : Side → LocalRequests → Code
on_side West l = l.west
on_side East l = l.east

-- a node without requests
abbrev pub no_requests : LocalRequests
no_requests = record { west = Nr; east = Nr }

-- the local request on side d of position p; NR where there is no such position
abbrev pub local_of : List LocalRequests → ℕ → Side → Code
local_of ls p d = on_side d (slice_index_or ls p no_requests)

-- the request of each span of the ring
abbrev pub requests_of : List LocalRequests → List ℕ
requests_of ls = span_requests (length ls) (local_of ls)
