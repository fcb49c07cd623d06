use Rattle.std.proofs.Common.{◌≡◌, take, length}
use Rattle.sdh_ringmap.specs.Rates.{n_of}
use Rattle.sdh_frame.specs.Aus.{payload_of}
use Rattle.sdh_terminal.proofs.outlet.first_bytes.Given as goal

abbrev pub invariant-loop-k : goal.invariant-loop-k
invariant-loop-k l = record {
  done : take l.k l.bytes ≡ take l.k (payload_of (n_of l.frame.rate) l.au l.frame.bytes);
  len : length l.bytes ≡ 16;
}
