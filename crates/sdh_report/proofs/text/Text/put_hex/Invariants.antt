use Rattle.std.proofs.Common.{◌≡◌, ◌+◌, ◌*◌, ◌++◌, take}
use Rattle.sdh_basics.specs.Hexadecimal.{hex_of}
use Rattle.sdh_report.proofs.text.Text.put_hex.Given as goal

abbrev pub invariant-loop-byte : goal.invariant-loop-byte
invariant-loop-byte l = record {
  bytes : l.self.bytes ≡ l.initial.self.bytes ++ hex_of (take l.byte-index l.bytes);
  room : l.self.room + 2 * l.byte-index ≡ l.initial.self.room;
}
