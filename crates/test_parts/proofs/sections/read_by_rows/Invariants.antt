use Rattle.std.proofs.Common.{◌≡◌, length}
use Rattle.sdh_ringmap.specs.declared.terms.Rate.TheVariants.{Four}
use Rattle.sdh_overhead.specs.Sections.{next_of, MayRead}
use Rattle.test_parts.proofs.sections.read_by_rows.Given as goal

abbrev pub invariant-loop-row : goal.invariant-loop-row
invariant-loop-row l = record {
  rate : l.receiving.rate ≡ Four;
  next : next_of l.receiving.under_way ≡ l.row;
  way : MayRead l.receiving.under_way;
  long : length l.bytes ≡ 9720;
}
