-- Frames that are descrambled while they land, with their parities computed in the same pass.
use Rattle.std.specs.Prelude.{ℕ, ◌≡◌, ◌*◌, Bool, true, false, Option, Some, None, List, take}
use Rattle.sdh_ringmap.specs.declared.terms.Rate.{Rate}
use Rattle.sdh_parity.specs.Scrambling.{scrambled}
use Rattle.sdh_overhead.specs.Sections.{parities_of}

-- Room for frames of a rate. `landed` has the bytes of the frame that has landed, as they arrived, or `None`. `buffer`
-- has the bytes that the room holds: where a frame has landed, these are its descrambled bytes.
pub record LandedFrame : Type 0 where
  pub rate : Rate
  pub landed : Option (List ℕ)
  pub buffer : List ℕ

-- the bytes that arrived, from the descrambled bytes in the buffer; None where no frame has landed
abbrev pub landed_of : ℕ → Bool → List ℕ → Option (List ℕ)
landed_of n true clear = Some (scrambled (9 * n) clear)
landed_of n false clear = None

-- nothing has landed, and the buffer holds these bytes
abbrev pub emptied : Rate → List ℕ → LandedFrame
emptied rate bytes = record { rate = rate; landed = None; buffer = bytes }

-- where a frame is there, these are its parities: B1 over the bytes that arrived, B2 over the descrambled ones
abbrev pub AreSummed : ℕ → Bool → ℕ → List ℕ → List ℕ → Type 0
AreSummed n true b1 b2 clear = record { b1 = b1; b2 = take (3 * n) b2 } ≡ parities_of n clear (scrambled (9 * n) clear)
AreSummed n false b1 b2 clear = Unit {0}
