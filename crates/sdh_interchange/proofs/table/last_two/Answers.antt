use Rattle.sdh_interchange.proofs.Pairs.{in_both}
use Rattle.sdh_interchange.proofs.table.last_two.Goals as goal

pub returns-clause-each : goal.returns-clause-each
returns-clause-each c =
    in_both c.args.v c.last_pairs-first.result c.last_pairs-second.result
    (record {
      long = c.last_pairs-first.ensures.long;
      first = c.last_pairs-first.ensures.first;
      second = c.last_pairs-first.ensures.second;
    })
    (record {
      long = c.last_pairs-second.ensures.long;
      first = c.last_pairs-second.ensures.first;
      second = c.last_pairs-second.ensures.second;
    })
