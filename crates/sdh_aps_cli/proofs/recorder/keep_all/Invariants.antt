use Rattle.std.proofs.Common.{◌≡◌, ℕ, ◌<◌, Some, length}
use Rattle.std.specs.Prelude.{slice_get}
use Rattle.sdh_aps.specs.declared.shown.Shown.{Shown}
use Rattle.sdh_aps_cli.specs.Signalled.{shown_at}
use Rattle.sdh_aps_cli.proofs.recorder.keep_all.Given as goal

abbrev pub invariant-loop-i : goal.invariant-loop-i
invariant-loop-i g l = record {
  len : length l.before.items ≡ length l.fn.before.items;
  each : (j : ℕ) (s : Shown) → j < l.i → slice_get l.before.items j ≡ Some s → s ≡ shown_at (g.R.ShowsNodes.held l.ring) j;
}
