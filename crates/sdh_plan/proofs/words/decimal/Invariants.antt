use Rattle.std.proofs.Common.{◌≡◌, ◌≤◌, drop}
use Rattle.std.specs.List.{list_all}
use Rattle.sdh_plan.specs.Words.{is_digit, decimal_from}
use Rattle.sdh_plan.proofs.words.decimal.Given as goal

abbrev pub invariant-loop-digit : goal.invariant-loop-digit
invariant-loop-digit l = record {
  number : decimal_from 0 l.digits ≡ decimal_from l.number (drop l.digit-index l.digits);
  digits : list_all is_digit l.digits ≡ list_all is_digit (drop l.digit-index l.digits);
  small : l.number ≤ 4294967299;
}
