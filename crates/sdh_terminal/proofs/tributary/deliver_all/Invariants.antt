use Rattle.std.proofs.Common.{◌≡◌, take, length}
use Rattle.sdh_basics.specs.Indexed.{map_from}
use Rattle.sdh_terminal.specs.Lines.{dropped_by, AreOf}
use Rattle.sdh_terminal.specs.Outlets.{delivered_from}
use Rattle.sdh_terminal.specs.Tributaries.{Tributary}
use Rattle.sdh_terminal.proofs.tributary.deliver_all.Given as goal

abbrev pub invariant-loop-i : goal.invariant-loop-i
invariant-loop-i g l = record {
  done : take l.i l.outlets.items ≡ map_from (λ i (t : Tributary). delivered_from
      (dropped_by (g.X.Matrix.lines l.cross) (g.X.Matrix.drops l.cross t.side t.slot.0))) 0 (take l.i l.ports);
  len : length l.outlets.items ≡ length l.ports;
  taken : AreOf (g.X.Matrix.lines l.cross) l.taken.west l.taken.east;
}
