-- The sizes of an STM-N frame (ITU-T G.707): 9 rows of 270 N bytes, sent row by row.
use Rattle.std.specs.Prelude.{ℕ, ◌*◌, List}
use Rattle.sdh_ringmap.specs.declared.terms.Rate.{Rate}
use Rattle.sdh_ringmap.specs.Rates.{n_of}

-- the number of bytes of a frame
abbrev pub size_of : Rate → ℕ
size_of rate = 2430 * n_of rate

-- a frame: its rate, and its bytes row by row
pub record Frame : Type 0 where
  pub rate : Rate
  pub bytes : List ℕ
