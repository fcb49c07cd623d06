use Rattle.std.proofs.Common.{◌≡◌, map, take, length}
use Rattle.toml.specs.View.{view}
use Rattle.sdh_plan.specs.Document.{integer_of}
use Rattle.sdh_plan.proofs.ring.integers_of.Given as goal

abbrev pub invariant-loop-value : goal.invariant-loop-value
invariant-loop-value l = record {
  count : length l.numbers.items ≡ l.value-index;
  made : l.numbers.items ≡ map (λ v. integer_of (view v)) (take l.value-index l.values);
}
