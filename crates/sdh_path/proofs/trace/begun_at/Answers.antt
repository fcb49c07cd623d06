use Rattle.std.proofs.Common.{◌≡◌, ◌+◌, ◌%◌, get_or, ap, ◌∙◌, arith}
use Rattle.sdh_path.proofs.Tracing.{rotated_is}
use Rattle.sdh_path.proofs.trace.begun_at.Goals as goal

pub returns : goal.returns
returns c =
    let trace = c.args.trace.now in
    let from = c.args.from in
    let all = c.loop-i.invariant in
    rotated_is trace _ (from % 64) all.enough
    (λ k h. let place : (from + k) % 64 ≡ (from % 64 + k) % 64 = omega arith in all.same k (omega arith) ∙ ap (λ j. get_or trace j 0) place)
