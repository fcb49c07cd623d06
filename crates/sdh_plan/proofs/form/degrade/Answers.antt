use Rattle.std.proofs.Common.{ℕ, ◌*◌, List, Bor, arith}
use Rattle.std.proofs.lemmas.Result.{err_from_is_err_and}
use Rattle.sdh_ringmap.specs.Rates.{n_of}
use Rattle.sdh_plan.proofs.Forms.{three_fail}
use Rattle.sdh_plan.proofs.form.degrade.Goals as goal

pub returns-in_err-at : goal.returns-in_err-at
returns-in_err-at c =
    let p = err_from_is_err_and c.from_residual.result c.from_residual.ensures.1 in
    rw (p.1, p.2) (three_fail (λ (word : Bor (List ℕ)). word.now) c.args.ring.now _ _ 1 (3 * n_of c.args.rate) c.args.others.now _
    (omega (arith, c.in-len3.len_at_least)) (omega (arith, c.in-len3.len_below)) c.in_err-at.ensures.reason)
