use Rattle.std.proofs.Common.{◌≡◌}
use Rattle.std.specs.Prelude.{position}
use Rattle.sdh_basics.specs.Cells.{cells}
use Rattle.sdh_terminal.specs.Tributaries.{is_port}
use Rattle.sdh_terminal.specs.Places.{port_numbered}
use Rattle.sdh_terminal.proofs.tributaries.places_in.Given as goal

abbrev pub invariant-loop-k : goal.invariant-loop-k
invariant-loop-k l = l.places.items ≡ cells (λ k. position (is_port (port_numbered k)) l.ports) l.k
