use Rattle.std.proofs.Common.{ℕ, ◌/◌, ◌%◌, ◌<◌, ◌≤◌, slice_index}
use Rattle.sdh_interchange.proofs.lanes.upto_of.Given as goal

abbrev pub invariant-loop-j : goal.invariant-loop-j
invariant-loop-j g l = (j : ℕ) → j < l.j → 1 ≤ slice_index l.own j → j % g.row.N < g.row.N / 2
