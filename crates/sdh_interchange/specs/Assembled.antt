-- A frame that is put together. The payload of each AU-4 is that of another AU-4 or of a port, or is ones. Its pointer
-- bytes are given.
use Rattle.std.specs.Prelude.{ℕ, List, [], slice_index_or, replicate}
use Rattle.sdh_ringmap.specs.declared.terms.Rate.{Rate}
use Rattle.sdh_basics.specs.Indexed.{map_from}
use Rattle.sdh_interchange.specs.declared.choose.Source.{Source}
use Rattle.sdh_interchange.specs.declared.choose.Source.TheVariants.{First, Second, Own, Ones}
use Rattle.sdh_frame.specs.Aus.{Au, payload_of}
use Rattle.sdh_interchange.specs.Choosing.{payload_in}

-- the payload that a source stands for: that of an AU-4 of the first frame, of one of the second, an own one, or ones
abbrev pub payload_from : ℕ → List ℕ → List ℕ → List (List ℕ) → Source → List ℕ
payload_from n first second own (First au) = payload_of n au first
payload_from n first second own (Second au) = payload_of n au second
payload_from n first second own (Own k) = payload_in k own
payload_from n first second own Ones = replicate 2349 0xFF

-- the AU-4s with the payloads of these sources and these pointer bytes
unfoldable pub assembled : ℕ → List ℕ → List ℕ → List (List ℕ) → List Source → List (List ℕ) → List Au
assembled n first second own sources pointers =
    map_from (λ k s. record { pointers = slice_index_or pointers k []; payload = payload_from n first second own s }) 0 sources

-- where the AU-4s of a frame come from, in the order of their numbers
pub record Origins : Type 0 where
  pub rate : Rate
  pub sources : List Source
