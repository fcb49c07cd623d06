use Rattle.std.proofs.Common.{◌≡◌, ◌+◌, ◌*◌, ◌≤◌, ◌++◌, List, take}
use Rattle.std.specs.List.{flat_map}
use Rattle.sdh_circuits.specs.declared.PortId.{PortId}
use Rattle.sdh_path.specs.History.{Given}
use Rattle.sdh_watch.specs.Watching.{ports_watched}
use Rattle.sdh_watch.specs.Lines.{told_line}
use Rattle.sdh_watch.specs.Ports.{AreWatching}
use Rattle.sdh_watch.proofs.ports.put_watches.Given as goal

abbrev pub invariant-loop-i : goal.invariant-loop-i
invariant-loop-i l = record {
  bytes : (heard : PortId → List Given) → AreWatching l.ring.circuits.circuits heard l.watches.items
      → l.text.bytes ≡ l.initial.text.bytes ++ flat_map told_line (ports_watched l.ring heard 0 (take l.i l.ring.circuits.circuits));
  room : l.initial.text.room ≤ l.text.room + 192 * l.i;
}
