use Rattle.std.proofs.Common.{◌≡◌, ℕ, ◌<◌, ◌≤◌, Some, length}
use Rattle.std.specs.Prelude.{slice_get}
use Rattle.sdh_outage_cli.specs.declared.ports.ListenerPair.{ListenerPair}
use Rattle.sdh_outage_cli.specs.Ports.{LookedAt}
use Rattle.sdh_outage_cli.proofs.ports.look_node.Given as goal

abbrev pub invariant-loop-i : goal.invariant-loop-i
invariant-loop-i l = record {
  len : length l.items.items ≡ length l.fn.items.items;
  each : (j : ℕ) (after : ListenerPair) → j < l.i → slice_get l.items.items j ≡ Some after → (before : ListenerPair)
      → slice_get l.fn.items.items j ≡ Some before → LookedAt l.node.ring.now l.node.at.0 l.fn.streams.pairs.items j before after;
  streams : l.streams.pairs.items ≡ l.fn.streams.pairs.items;
  rest : (j : ℕ) → l.i ≤ j → slice_get l.items.items j ≡ slice_get l.fn.items.items j;
}
