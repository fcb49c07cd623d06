use Rattle.std.proofs.Common.{◌≡◌, ◌+◌, ◌*◌, ◌≤◌, length, drop}
use Rattle.sdh_ringmap.specs.Places.{position_of}
use Rattle.sdh_terminal.specs.Tributaries.{tributaries_from}
use Rattle.sdh_outage_cli.specs.Rooms.{ports_at}
use Rattle.sdh_outage_cli.proofs.rooms.ports_at.Given as goal

abbrev pub invariant-loop-i : goal.invariant-loop-i
invariant-loop-i l = record {
  sum : l.count + length (tributaries_from (position_of l.at) l.i (drop l.i l.circuits.circuits)) ≡ ports_at l.circuits.circuits l.at;
  few : l.count ≤ 2 * l.i;
}
