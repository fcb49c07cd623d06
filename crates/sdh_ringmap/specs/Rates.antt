-- The rates of a ring: STM-4 and STM-16 (ITU-T G.707).
use Rattle.std.specs.Prelude.{ℕ}
use Rattle.sdh_ringmap.specs.declared.terms.Rate.{Rate}
use Rattle.sdh_ringmap.specs.declared.terms.Rate.TheVariants.{Four, Sixteen}

-- N, the number of AU-4s in a frame
abbrev pub n_of : Rate → ℕ
n_of Four = 4
n_of Sixteen = 16
