-- Which K word the frame on a fibre has, and what the fibres of a ring carry.
use Rattle.std.specs.Prelude.{ℕ, ◌≡◌, ◌+◌, ◌*◌, ◌<◌, true, Some, None, List, length, if◌then◌else◌}
use Rattle.sdh_ringmap.specs.declared.terms.Rate.{Rate}
use Rattle.sdh_frame.specs.Sizes.{size_of}
use Rattle.sdh_ringmap.specs.Rates.{n_of}
use Rattle.sdh_parity.specs.Scrambling.{scrambled}
use Rattle.sdh_overhead.specs.Sections.{is_framed, byte_in}
use Rattle.sdh_kbytes.specs.declared.K.{K}
use Rattle.sdh_kbytes.specs.KBytes.{first_byte, second_byte}
use Rattle.sdh_ringmap.specs.declared.Side.{Side}
use Rattle.sdh_ringmap.specs.declared.terms.Condition.{Condition}
use Rattle.sdh_plant.specs.Fibres.{Arrival, Fibres}
use Rattle.sdh_ringmap.specs.Fibres.{fibre, is_cut, degraded_by}
use Rattle.sdh_plant.specs.Arrivals.{carried_on}

-- the bytes on the line are those of a framed frame that has the K bytes of this word, as a section reads them
pub record SaysWord (rate : Rate) (k : K) (line : List ℕ) : Type 0 where
  pub size : length line ≡ size_of rate
  pub framed : is_framed (n_of rate) line ≡ true
  pub k1 : byte_in (n_of rate) (scrambled (9 * n_of rate) line) 5 (3 * n_of rate + 1) ≡ first_byte k
  pub k2 : byte_in (n_of rate) (scrambled (9 * n_of rate) line) 5 (6 * n_of rate + 1) ≡ second_byte k

-- a fibre carries a frame with this word
pub record CarriesWord (rate : Rate) (k : K) (a : Arrival) : Type 0 where
  pub line : List ℕ
  pub there : a ≡ Some line
  pub says : SaysWord rate k line

-- the fibres that leave position p, after this number of rounds: each carries nothing before round 0, and then a frame
-- with the word of its side
pub record AreCarried (rate : Rate) (f : Fibres) (rounds p : ℕ) (words : Side → K) : Type 0 where
  pub dark : (d : Side) → rounds ≡ 0 → carried_on f (fibre p d) ≡ None
  pub frames : (d : Side) → 0 < rounds → CarriesWord rate (words d) (carried_on f (fibre p d))

-- the number of B2 violations that a fibre in this condition makes the next frame show: the number of bits that it
-- inverts, and none where it is cut
abbrev pub violations_shown : Condition → ℕ
violations_shown c = if is_cut c then 0 else degraded_by c
