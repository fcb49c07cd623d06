use Rattle.std.proofs.Common.{◌≡◌, ℕ, ◌<◌, ◌≤◌, Some, length}
use Rattle.std.specs.Prelude.{slice_get}
use Rattle.sdh_watch.specs.declared.ports.WatchPair.{WatchPair}
use Rattle.sdh_watch.specs.Ports.{Looked}
use Rattle.sdh_watch.proofs.ports.look_all.Given as goal

abbrev pub invariant-loop-i : goal.invariant-loop-i
invariant-loop-i l = record {
  len : length l.watches.items ≡ length l.fn.watches.items;
  each : (j : ℕ) (after : WatchPair) → j < l.i → slice_get l.watches.items j ≡ Some after → (before : WatchPair)
      → slice_get l.fn.watches.items j ≡ Some before → Looked l.ring j before after;
  rest : (j : ℕ) → l.i ≤ j → slice_get l.watches.items j ≡ slice_get l.fn.watches.items j;
}
