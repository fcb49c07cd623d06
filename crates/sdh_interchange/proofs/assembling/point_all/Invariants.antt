use Rattle.std.specs.Prelude.{◌≡◌, ℕ, ◌<◌, length, slice_index}
use Rattle.sdh_frame.specs.Sizes.{size_of}
use Rattle.sdh_ringmap.specs.Rates.{n_of}
use Rattle.sdh_interchange.proofs.Pointing.{pointed}
use Rattle.sdh_interchange.proofs.assembling.point_all.Given as goal

abbrev pub invariant-loop-k : goal.invariant-loop-k
invariant-loop-k l = record {
  rate : l.frame.rate ≡ l.initial.frame.rate;
  long : length l.frame.bytes ≡ size_of l.initial.frame.rate;
  done : (i : ℕ) → i < size_of l.initial.frame.rate → slice_index l.frame.bytes i
      ≡ pointed (n_of l.initial.frame.rate) l.pointers l.k i (slice_index l.initial.frame.bytes i);
}
