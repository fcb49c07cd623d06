use Rattle.std.proofs.Common.{◌≡◌, ◌<◌, ℕ, length, get_or, take}
use Rattle.std.specs.Prelude.{slice_index}
use Rattle.sdh_ringmap.specs.Requests.{code_number}
use Rattle.sdh_ringmap.specs.declared.terms.Code.TheVariants.{Nr}
use Rattle.sdh_restoration.specs.Locals.{no_requests, requests_of}
use Rattle.sdh_plan.specs.Planned.{Planned}
use Rattle.sdh_verdicts.specs.Verdicts.{AreSidesOf, asked_at}
use Rattle.sdh_verdicts.proofs.judging.Sides.requests.Given as goal

abbrev pub invariant-loop-p : goal.invariant-loop-p
invariant-loop-p l = record {
  long : length l.local ≡ 16;
  each : (plan : Planned) → AreSidesOf plan l.fn.self → (q : ℕ) → q < l.p → get_or l.local q no_requests ≡ asked_at plan l.fn.case q;
}

abbrev pub invariant-loop-s : goal.invariant-loop-s
invariant-loop-s l = record {
  long : length l.requests ≡ 16;
  each : (k : ℕ) → k < l.s → code_number (get_or l.requests k Nr) ≡ slice_index (requests_of (take l.n l.local)) k;
}
