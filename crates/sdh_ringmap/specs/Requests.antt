-- Request codes by urgency. The table is this project's own, after ITU-T G.841.
use Rattle.std.specs.Prelude.{ℕ}
use Rattle.sdh_ringmap.specs.declared.terms.Code.{Code}
use Rattle.sdh_ringmap.specs.declared.terms.Code.TheVariants.{Nr, Rr, Wtr, Ms, Sd, Sf, Fs}

-- the four bits of each code; the larger number is the more urgent
abbrev pub code_number : Code → ℕ
code_number Nr = 0
code_number Rr = 1
code_number Wtr = 5
code_number Ms = 6
code_number Sd = 8
code_number Sf = 11
code_number Fs = 13
