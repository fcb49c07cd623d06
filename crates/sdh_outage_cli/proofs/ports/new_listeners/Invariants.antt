use Rattle.std.proofs.Common.{◌≡◌, ℕ, Some, length}
use Rattle.std.specs.Prelude.{slice_get}
use Rattle.sdh_outage_cli.specs.declared.ports.ListenerPair.{ListenerPair}
use Rattle.sdh_outage_cli.proofs.ports.new_listeners.Given as goal

abbrev pub invariant-loop : goal.invariant-loop
invariant-loop l = record {
  len : length l.items.items ≡ l.counter;
  each : (j : ℕ) (both : ListenerPair) → slice_get l.items.items j ≡ Some both → (both.a.round ≡ 0) × (both.b.round ≡ 0);
}
