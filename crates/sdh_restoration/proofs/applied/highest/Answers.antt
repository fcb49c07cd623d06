use Rattle.sdh_ringmap.specs.Requests.{code_number}
use Rattle.sdh_ringmap.specs.declared.terms.Code.TheVariants.{Nr}
use Rattle.sdh_restoration.proofs.Highest.{highest_step}
use Rattle.sdh_restoration.proofs.applied.highest.Goals as goal

pub loop-request-preserved : goal.loop-request-preserved
loop-request-preserved c =
    highest_step code_number c.args.requests.now c.loop-request.request-index Nr c.number.result c.loop-request.most _ c.loop-request-test.true c.number.ensures c.loop-request.invariant c.max-most.ensures
