use Rattle.sdh_interchange.proofs.Pairs.{in_second}
use Rattle.sdh_interchange.proofs.table.last_pairs.Goals as goal

pub returns-clause-second : goal.returns-clause-second
returns-clause-second c = λ j h. in_second c.args.a c.args.b j c.requires.a h
