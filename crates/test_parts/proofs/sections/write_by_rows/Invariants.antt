use Rattle.std.proofs.Common.{◌≡◌, ◌<◌, length, None}
use Rattle.sdh_ringmap.specs.declared.terms.Rate.TheVariants.{Four}
use Rattle.sdh_overhead.specs.Sections.{next_of, MayWrite}
use Rattle.test_parts.proofs.sections.write_by_rows.Given as goal

abbrev pub invariant-loop-row : goal.invariant-loop-row
invariant-loop-row l = record {
  rate : l.sending.rate ≡ Four;
  next : l.row < 10 → next_of l.sending.under_way ≡ l.row;
  way : MayWrite l.sending.under_way;
  ended : l.row ≡ 10 → l.sending.under_way ≡ None;
  long : length l.bytes ≡ 9720;
}
