use Rattle.std.proofs.Common.{◌≡◌, ◌+◌, ◌*◌, ◌≤◌, ◌++◌}
use Rattle.std.specs.List.{flat_map, range_with_len}
use Rattle.sdh_cli.specs.Tables.{slot_line}
use Rattle.sdh_cli.proofs.tables.put_side.Given as goal

abbrev pub invariant-loop-i : goal.invariant-loop-i
invariant-loop-i l = record {
  bytes : l.text.bytes ≡ l.initial.text.bytes ++ flat_map (slot_line l.plan.nodes l.plan.circuits l.at.0 l.side) (range_with_len 1 l.i);
  room : l.initial.text.room ≤ l.text.room + 96 * l.i;
}
