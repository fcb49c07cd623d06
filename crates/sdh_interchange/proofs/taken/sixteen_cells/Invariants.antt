use Rattle.std.proofs.Common.{◌≡◌, [], replicate}
use Rattle.sdh_interchange.proofs.taken.sixteen_cells.Given as goal

abbrev pub invariant-cells : goal.invariant-cells
invariant-cells l = l.cells.items ≡ replicate l._cell []
