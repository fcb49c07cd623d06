use Rattle.std.proofs.Common.{◌≡◌, ◌+◌, ◌*◌, ◌≤◌, ◌++◌, take}
use Rattle.std.specs.List.{flat_map}
use Rattle.sdh_outage.specs.Lines.{change_line}
use Rattle.sdh_outage_cli.proofs.lines.put_changes.Given as goal

abbrev pub invariant-loop-change : goal.invariant-loop-change
invariant-loop-change l = record {
  bytes : l.text.bytes ≡ l.initial.text.bytes ++ flat_map change_line (take l.change-index l.changes);
  room : l.initial.text.room ≤ l.text.room + 250 * l.change-index;
}
