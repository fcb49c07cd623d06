use Rattle.std.proofs.Common.{◌≡◌, ℕ, ◌<◌, ◌≤◌, Some, length}
use Rattle.std.specs.Prelude.{slice_get}
use Rattle.sdh_outage_cli.specs.declared.streams.StreamPair.{StreamPair}
use Rattle.sdh_outage_cli.specs.Streams.{HaveStepped}
use Rattle.sdh_outage_cli.proofs.streams.step_all.Given as goal

abbrev pub invariant-loop-i : goal.invariant-loop-i
invariant-loop-i l = record {
  len : length l.streams.pairs.items ≡ length l.fn.streams.pairs.items;
  each : (j : ℕ) (after : StreamPair) → j < l.i → slice_get l.streams.pairs.items j ≡ Some after → (before : StreamPair)
      → slice_get l.fn.streams.pairs.items j ≡ Some before → HaveStepped before after;
  rest : (j : ℕ) → l.i ≤ j → slice_get l.streams.pairs.items j ≡ slice_get l.fn.streams.pairs.items j;
}
