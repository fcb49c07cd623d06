use Rattle.std.proofs.Common.{ap, ◌∙◌}
use Rattle.sdh_frame.specs.Sizes.{size_of}
use Rattle.sdh_overhead.proofs.Trips.{round-trip}
use Rattle.sdh_overhead.proofs.laws.what_is_written_is_read.Goals as goal

pub returns : goal.returns
returns c =
    round-trip c.args.sending.now.rate c.args.sending.now.last c.args.receiving.now.last c.args.k1 c.args.k2 c.args.frame.now.bytes
    (c.bytes.ensures.len ∙ ap size_of c.requires.rate) c.parities_are_whole.ensures c.requires.held
