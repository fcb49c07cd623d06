use Rattle.std.proofs.Common.{◌*◌, drop, ap, bit_xor}
use Rattle.sdh_path.proofs.Tallying.{counts_more, behind_long}
use Rattle.sdh_path.proofs.tally.Tally.with_piece.Goals as goal

pub returns-clause-counts : goal.returns-clause-counts
returns-clause-counts c = λ run is.
    let t = c.args.self in
    let part = drop (2349 * t.vcs) run in
    counts_more run c.args.piece.now t _ _ _ is c.requires.fits (ap (bit_xor t.parity) c.bip8.ensures)
    (c.byte_with.ensures part (behind_long run t is) is.b3_byte_is) (c.byte_with-2.ensures part (behind_long run t is) is.label_byte_is)
