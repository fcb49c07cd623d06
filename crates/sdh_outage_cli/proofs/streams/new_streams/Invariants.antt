use Rattle.std.proofs.Common.{◌≡◌, ℕ, Some, length}
use Rattle.std.specs.Prelude.{slice_get}
use Rattle.sdh_circuits.specs.Provisioned.{Provisioned}
use Rattle.sdh_outage_cli.specs.declared.streams.StreamPair.{StreamPair}
use Rattle.sdh_outage_cli.specs.Streams.{IsNear}
use Rattle.sdh_outage_cli.proofs.streams.new_streams.Given as goal

abbrev pub invariant-loop-i : goal.invariant-loop-i
invariant-loop-i l = record {
  len : length l.pairs.items ≡ l.i;
  each : (j : ℕ) (pair : StreamPair) → slice_get l.pairs.items j ≡ Some pair → (c : Provisioned) → slice_get l.circuits.circuits j ≡ Some c
      → IsNear c 0 pair;
}
