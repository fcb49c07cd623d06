use Rattle.std.proofs.Common.{◌≡◌, ◌<◌, ℕ, false, length, get_or, map}
use Rattle.sdh_ringmap.specs.Requests.{code_number}
use Rattle.sdh_verdicts.specs.Verdicts.{is_troubled}
use Rattle.sdh_verdicts.proofs.judging.troubled_in.Given as goal

abbrev pub invariant-loop-i : goal.invariant-loop-i
invariant-loop-i l = record {
  long : length l.marks ≡ 16;
  each : (k : ℕ) → k < l.i → get_or l.marks k false ≡ is_troubled (map code_number l.fn.requests) k;
}
