use Rattle.std.proofs.Common.{◌≡◌, ◌+◌, get_or, ap, ◌∙◌, arith}
use Rattle.std.specs.Simd.Lanes.{put_chunk}
use Rattle.std.proofs.lemmas.Simd.{length-put_chunk, get_or-put_chunk_below, get_or-put_chunk_at}
use Rattle.sdh_parity.proofs.through.join.Goals as goal

pub returns-clause-first : goal.returns-clause-first
returns-clause-first c = λ j h.
    let none = c.args.all.now in
    let a = c.args.a in
    let b = c.args.b in
    let e : j ≡ 0 + j = omega arith in
    get_or-put_chunk_below 32 (put_chunk 16 (put_chunk 0 none a) b) c.args.c j 0 (omega arith)
    ∙ get_or-put_chunk_below 16 (put_chunk 0 none a) b j 0 h
    ∙ ap (λ k. get_or (put_chunk 0 none a) k 0) e ∙ get_or-put_chunk_at 0 none a j 0 (omega arith) (omega arith)

pub returns-clause-second : goal.returns-clause-second
returns-clause-second c = λ j h.
    let none = c.args.all.now in
    let a = c.args.a in
    let b = c.args.b in
    let long = length-put_chunk 0 none a in
    get_or-put_chunk_below 32 (put_chunk 16 (put_chunk 0 none a) b) c.args.c (16 + j) 0 (omega arith)
    ∙ get_or-put_chunk_at 16 (put_chunk 0 none a) b j 0 (omega arith) (omega (arith, long))

pub returns-clause-third : goal.returns-clause-third
returns-clause-third c = λ j h.
    let none = c.args.all.now in
    let a = c.args.a in
    let b = c.args.b in
    let long = length-put_chunk 16 (put_chunk 0 none a) b ∙ length-put_chunk 0 none a in
    get_or-put_chunk_at 32 (put_chunk 16 (put_chunk 0 none a) b) c.args.c j 0 (omega arith) (omega (arith, long))
