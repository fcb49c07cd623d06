use Rattle.std.proofs.Common.{◌≡◌, ◌<◌, ℕ, false, length, get_or, map}
use Rattle.sdh_ringmap.specs.Requests.{code_number}
use Rattle.sdh_restoration.specs.Applied.{is_applied}
use Rattle.sdh_verdicts.proofs.judging.applied_in.Given as goal

abbrev pub invariant-loop-i : goal.invariant-loop-i
invariant-loop-i l = record {
  long : length l.marks ≡ 16;
  each : (k : ℕ) → k < l.i → get_or l.marks k false ≡ is_applied (map code_number l.fn.requests) k;
}
