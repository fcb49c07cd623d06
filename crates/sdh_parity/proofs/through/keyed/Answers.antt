use Rattle.std.proofs.Common.{get_or, ap, ◌∙◌, bit_xor}
use Rattle.sdh_parity.proofs.Mixing.{added_long, added_at}
use Rattle.sdh_parity.proofs.through.keyed.Goals as goal

pub returns-clause-len : goal.returns-clause-len
returns-clause-len c = added_long c.args.old c.key.result c.requires.long c.key.ensures.len

pub returns-clause-each : goal.returns-clause-each
returns-clause-each c =
    λ j h. added_at c.args.old c.key.result j c.requires.long c.key.ensures.len h
    ∙ ap (bit_xor (get_or c.args.old j 0)) (c.key.ensures.each j h)
