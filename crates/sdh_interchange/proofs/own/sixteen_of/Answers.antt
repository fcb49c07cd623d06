use Rattle.std.proofs.lemmas.Simd.{get_or-chunk}
use Rattle.sdh_interchange.proofs.own.sixteen_of.Goals as goal

pub returns-clause-each : goal.returns-clause-each
returns-clause-each c = λ k h. get_or-chunk c.args.from 16 c.args.bytes.now k 0 h
