-- The request of one span.
use Rattle.std.proofs.Common.{◌≡◌, ℕ, ◌<◌, List, length, max}
use Rattle.std.specs.Prelude.{slice_index}
use Rattle.sdh_basics.proofs.CellsLaws.{get_or-cells}
use Rattle.sdh_ringmap.specs.Requests.{code_number}
use Rattle.sdh_ringmap.specs.Places.{neighbour}
use Rattle.sdh_ringmap.specs.declared.Side.TheVariants.{West, East}
use Rattle.sdh_restoration.specs.declared.applied.LocalRequests.{LocalRequests}
use Rattle.sdh_restoration.specs.Applied.{span_requests}
use Rattle.sdh_restoration.specs.Locals.{local_of, requests_of}

pub request_of_span : (ls : List LocalRequests) (s : ℕ) → s < length ls
    → slice_index (requests_of ls) s ≡ max (code_number (local_of ls s East))
    (code_number (local_of ls (neighbour (length ls) s East) West))
unfolding span_requests
request_of_span ls s h = get_or-cells _ (length ls) s 0 h
