use Rattle.std.proofs.Common.{◌≡◌, ◌+◌, ◌++◌, length}
use Rattle.sdh_report.specs.Lines.{chunk_rows}
use Rattle.sdh_report.proofs.text.Text.put_rows.Given as goal

abbrev pub invariant-loop-at : goal.invariant-loop-at
invariant-loop-at l = record {
  bytes : l.self.bytes ≡ l.initial.self.bytes ++ chunk_rows l.chunk l.at;
  room : l.self.room + length (chunk_rows l.chunk l.at) ≡ l.initial.self.room;
}
