use Rattle.sdh_overhead.proofs.Nine.{PlacedTo}
use Rattle.sdh_overhead.proofs.section.Section.place_rows.Given as goal

abbrev pub invariant-loop-row : goal.invariant-loop-row
invariant-loop-row l = PlacedTo l.n l.self.last l.k1 l.k2 l.fn.bytes l.row l.bytes
