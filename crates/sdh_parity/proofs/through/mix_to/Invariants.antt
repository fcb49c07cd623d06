use Rattle.std.proofs.Common.{◌+◌, ◌*◌, ◌/◌, ◌<◌}
use Rattle.sdh_parity.proofs.Mixing.{CopiedTo}
use Rattle.sdh_parity.proofs.through.mix_to.Given as goal

abbrev pub invariant-thirds : goal.invariant-thirds
invariant-thirds l = record {
  key : l.k < 1016;
  copied : CopiedTo l.clear_after l.at l.from l.to l.sums.a l.sums.b l.sums.c (3 * l.t) l.k;
}

abbrev pub invariant-last : goal.invariant-last
invariant-last l = record {
  key : l.k + 144 * (l.rows / 3) < 1016 + 48 * l.r;
  copied : CopiedTo l.clear_after l.at l.from l.to l.sums.a l.sums.b l.sums.c l.r l.k;
}
