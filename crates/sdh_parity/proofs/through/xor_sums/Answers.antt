use Rattle.sdh_parity.proofs.Mixing.{added_long, added_at}
use Rattle.sdh_parity.proofs.through.xor_sums.Goals as goal

pub returns-clause-longs : goal.returns-clause-longs
returns-clause-longs c = (
  added_long c.args.sums.a c.args.more.a c.requires.sums.0 c.requires.more.0,
  added_long c.args.sums.b c.args.more.b c.requires.sums.1 c.requires.more.1,
  added_long c.args.sums.c c.args.more.c c.requires.sums.2 c.requires.more.2,
)

pub returns-clause-a : goal.returns-clause-a
returns-clause-a c = λ j h. added_at c.args.sums.a c.args.more.a j c.requires.sums.0 c.requires.more.0 h

pub returns-clause-b : goal.returns-clause-b
returns-clause-b c = λ j h. added_at c.args.sums.b c.args.more.b j c.requires.sums.1 c.requires.more.1 h

pub returns-clause-c : goal.returns-clause-c
returns-clause-c c = λ j h. added_at c.args.sums.c c.args.more.c j c.requires.sums.2 c.requires.more.2 h
