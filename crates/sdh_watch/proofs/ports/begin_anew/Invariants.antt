use Rattle.std.proofs.Common.{◌≡◌, ℕ, ◌<◌, ◌≤◌, Some, [], length}
use Rattle.std.specs.Prelude.{slice_get}
use Rattle.sdh_circuits.specs.Provisioned.{Provisioned}
use Rattle.sdh_watch.specs.declared.ports.WatchPair.{WatchPair}
use Rattle.sdh_watch.specs.Ports.{IsWatching}
use Rattle.sdh_watch.proofs.ports.begin_anew.Given as goal

abbrev pub invariant-loop-i : goal.invariant-loop-i
invariant-loop-i l = record {
  len : length l.watches.items ≡ length l.circuits.circuits;
  new : (j : ℕ) (both : WatchPair) → j < l.i → slice_get l.watches.items j ≡ Some both → (c : Provisioned)
      → slice_get l.circuits.circuits j ≡ Some c → IsWatching c j (λ port. []) both;
  few : (j : ℕ) (both : WatchPair) → j < l.i → slice_get l.watches.items j ≡ Some both → (both.a.chunks ≤ 0) × (both.b.chunks ≤ 0);
}
