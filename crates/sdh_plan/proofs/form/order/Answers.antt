use Rattle.std.proofs.Common.{ℕ, List, Bor, arith}
use Rattle.std.proofs.lemmas.Result.{err_from_is_err_and}
use Rattle.sdh_plan.proofs.Forms.{two_fail}
use Rattle.sdh_plan.proofs.form.order.Goals as goal

pub returns-in_err-at : goal.returns-in_err-at
returns-in_err-at c =
    let p = err_from_is_err_and c.from_residual.result c.from_residual.ensures.1 in
    rw (p.1, p.2) (two_fail (λ (word : Bor (List ℕ)). word.now) c.args.ring.now _ _ c.args.others.now _
    (omega (arith, c.in-len2.len_at_least)) (omega (arith, c.in-len2.len_below)) c.in_err-at.ensures.reason)
