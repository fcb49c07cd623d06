use Rattle.std.proofs.Common.{◌≡◌, ◌+◌, ◌*◌, ◌≤◌, ◌++◌, take}
use Rattle.sdh_report.specs.Written.{room_in}
use Rattle.sdh_node_cli.specs.Bench.{ports_from}
use Rattle.sdh_node_cli.proofs.answer.put_ports.Given as goal

abbrev pub invariant-loop-number : goal.invariant-loop-number
invariant-loop-number l = record {
  bytes : l.text.bytes ≡ l.initial.text.bytes ++ ports_from l.node l.at 0 (take l.number l.circuits.circuits);
  room : l.initial.text.room ≤ l.text.room + 96 * l.number;
  kept : room_in l.text ≡ room_in l.initial.text;
}
