use Rattle.std.proofs.Common.{◌≡◌, ◌+◌, ◌*◌, ◌/◌, ◌≤◌, ◌++◌}
use Rattle.std.specs.List.{flat_map, range_with_len}
use Rattle.sdh_ringmap.specs.Rates.{n_of}
use Rattle.sdh_cli.specs.Tables.{node_lines}
use Rattle.sdh_cli.proofs.tables.put_nodes.Given as goal

abbrev pub invariant-loop-i : goal.invariant-loop-i
invariant-loop-i l = record {
  bytes : l.text.bytes ≡ l.initial.text.bytes ++ flat_map (node_lines (n_of l.plan.settings.rate / 2) l.plan.nodes l.plan.circuits)
      (range_with_len 0 l.i);
  room : l.initial.text.room ≤ l.text.room + 1536 * l.i;
}
