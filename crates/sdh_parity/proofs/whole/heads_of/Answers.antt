use Rattle.std.proofs.Common.{refl, replicate, arith}
use Rattle.sdh_parity.proofs.Frames.{heads-are}
use Rattle.sdh_parity.proofs.whole.heads_of.Goals as goal

pub returns-clause-lanes : goal.returns-clause-lanes
returns-clause-lanes c =
    heads-are c.args.n c.args.bytes.now (replicate 48 0) c.add_rows.new.sums c.add_rows-2.new.sums c.requires.frame
    (omega (arith, c.requires.rate)) (omega (arith, c.requires.rate)) refl c.add_rows.ensures c.add_rows-2.ensures
