use Rattle.std.proofs.Common.{◌≡◌, ℕ, ◌%◌, ◌<◌, length, slice_index, slice_index_or}
use Rattle.sdh_interchange.specs.declared.choose.Source.TheVariants.{Ones}
use Rattle.sdh_interchange.specs.Lanes.{IsLane}
use Rattle.sdh_interchange.proofs.lanes.lanes_of.Given as goal

abbrev pub invariant-loop-j : goal.invariant-loop-j
invariant-loop-j g l = record {
  first_long : length l.first ≡ 16;
  second_long : length l.second ≡ 16;
  own_long : length l.own ≡ 16;
  more_long : length l.more ≡ 16;
  done : (j : ℕ) → j < l.j → IsLane g.row.N (slice_index_or l.sources (j % g.row.N) Ones) j (slice_index l.first j) (slice_index l.second j)
      (slice_index l.own j) (slice_index l.more j);
}
