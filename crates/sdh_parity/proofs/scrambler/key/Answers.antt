use Rattle.std.proofs.Common.{◌≡◌, ◌+◌, ◌-◌, ◌<◌, get_or, ap, ◌∙◌, arith}
use Rattle.std.proofs.lemmas.Simd.{get_or-chunk}
use Rattle.sdh_basics.proofs.Parts.{get_or-part}
use Rattle.sdh_parity.proofs.scrambler.key.Goals as goal

pub returns-clause-each : goal.returns-clause-each
returns-clause-each c = λ j h.
    let inside : 0 + j < 1160 - c.args.i = omega arith in
    let within : c.args.i + j < 1160 = omega arith in
    let e : c.args.i + (0 + j) ≡ c.args.i + j = omega arith in
    get_or-chunk 0 16 _ j 0 h ∙ get_or-part c.args.i (1160 - c.args.i) c.table.result.now (0 + j) inside
    ∙ ap (λ k. get_or c.table.result.now k 0) e ∙ c.table.ensures.each (c.args.i + j) within
