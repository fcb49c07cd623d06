-- No word is answered exactly where a table lacks the code or the mark.
use Rattle.std.proofs.Common.{arith}
use Rattle.std.proofs.lemmas.Grind.{common_steps}
use Rattle.sdh_kbytes.proofs.Tables.{unlisted_none}
use Rattle.sdh_kbytes.proofs.decode.Goals as goal

pub returns-in_err-of-clause-unlisted : goal.returns-in_err-of-clause-unlisted
returns-in_err-of-clause-unlisted c = unlisted_none _ _ _ (grind (arith, common_steps))

pub returns-clause-unlisted : goal.returns-clause-unlisted
returns-clause-unlisted c = unlisted_none _ _ _ (grind (arith, common_steps))
