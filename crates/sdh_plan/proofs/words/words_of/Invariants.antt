use Rattle.std.proofs.Common.{◌≤◌, ◌+◌, length}
use Rattle.std.specs.Option.{option_map_or}
use Rattle.sdh_plan.specs.Words.{words}
use Rattle.sdh_plan.proofs.Cutting.{Said}
use Rattle.sdh_plan.proofs.words.words_of.Given as goal

abbrev pub invariant-loop-rest : goal.invariant-loop-rest
invariant-loop-rest l = record {
  said : Said (λ word. word.now) 6 (words l.fn.text) l.words.items l.rest;
  few : length l.words.items ≤ 6;
}

abbrev pub decreases-loop-rest : goal.decreases-loop-rest
decreases-loop-rest l = option_map_or (λ text. length text.now + 1) l.rest 0
