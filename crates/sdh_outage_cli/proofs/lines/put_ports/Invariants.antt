use Rattle.std.proofs.Common.{◌≡◌, ◌+◌, ◌*◌, ◌≤◌, ◌++◌, take, map}
use Rattle.std.specs.List.{flat_map}
use Rattle.sdh_outage.specs.Outages.{summary_of}
use Rattle.sdh_outage.specs.Kept.{ports_in}
use Rattle.sdh_outage_cli.specs.Outages.{PortOutage}
use Rattle.sdh_outage_cli.specs.Lines.{told_line}
use Rattle.sdh_outage_cli.specs.Ports.{outages_shown}
use Rattle.sdh_outage_cli.proofs.lines.put_ports.Given as goal

abbrev pub invariant-loop-i : goal.invariant-loop-i
invariant-loop-i l = record {
  bytes : l.text.bytes ≡ l.initial.text.bytes ++ flat_map (told_line l.circuits.circuits) (outages_shown (take l.i l.circuits.circuits) (take l.i l.items.items));
  room : l.initial.text.room ≤ l.text.room + 500 * l.i;
  said : l.summary ≡ summary_of (map (λ (p : PortOutage). p.outage) (outages_shown (take l.i l.circuits.circuits) (take l.i l.items.items)));
  few : ports_in l.summary ≤ 8 * l.i;
}
