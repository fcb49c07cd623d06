use Rattle.std.proofs.Common.{arith}
use Rattle.sdh_parity.proofs.Scrambled.{whole}
use Rattle.sdh_parity.proofs.scrambler.scramble.Goals as goal

pub returns : goal.returns
returns c = whole c.args.rate.0 c.args.bytes.now c.add_sequence.new.bytes (omega arith) c.add_sequence.auto.bytes c.add_sequence.ensures
