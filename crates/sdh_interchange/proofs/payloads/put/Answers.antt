use Rattle.std.proofs.Common.{arith}
use Rattle.std.proofs.lemmas.Simd.{get_or-put_chunk_below, get_or-put_chunk_at, get_or-put_chunk_above}
use Rattle.sdh_interchange.proofs.payloads.put.Goals as goal

pub returns-clause-before : goal.returns-clause-before
returns-clause-before c = λ i h. get_or-put_chunk_below c.args.at c.args.out.now c.args.lanes i 0 h

pub returns-clause-inside : goal.returns-clause-inside
returns-clause-inside c = λ k h. get_or-put_chunk_at c.args.at c.args.out.now c.args.lanes k 0 (omega arith) (omega arith)

pub returns-clause-behind : goal.returns-clause-behind
returns-clause-behind c = λ i h. get_or-put_chunk_above c.args.at c.args.out.now c.args.lanes i 0 (omega arith)
