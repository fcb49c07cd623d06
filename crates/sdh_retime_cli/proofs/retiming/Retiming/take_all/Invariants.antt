use Rattle.std.proofs.Common.{◌≡◌, ◌+◌, ◌-◌, ◌*◌, ◌/◌, ◌≤◌, length}
use Rattle.sdh_elastic.specs.Store.{reading_of, StoreCameBy}
use Rattle.sdh_retime_cli.specs.Digits.{offset_at, chunks}
use Rattle.sdh_retime_cli.specs.Lines.{lines_of}
use Rattle.sdh_retime_cli.proofs.retiming.Retiming.take_all.Given as goal

abbrev pub invariant-loop-at : goal.invariant-loop-at
invariant-loop-at l = record {
  at : l.at ≡ offset_at l.digits l.taken;
  within : l.at ≤ length l.bytes;
  whole : 2346 * l.taken ≤ l.at;
  came : StoreCameBy 0 (chunks l.digits l.bytes l.taken) l.self.store;
  reads : l.self.interp.reading ≡ reading_of l.self.store;
  lines : l.text.bytes ≡ lines_of (chunks l.digits l.bytes l.taken);
  room : 4801 * (length l.bytes / 2346) + 96 ≤ l.text.room + 4801 * l.taken;
}

abbrev pub decreases-loop-at : goal.decreases-loop-at
decreases-loop-at l = length l.bytes - l.at
