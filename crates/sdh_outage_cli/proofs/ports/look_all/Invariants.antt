use Rattle.std.proofs.Common.{◌≡◌, ℕ, ◌-◌, Some, length}
use Rattle.std.specs.Prelude.{slice_get}
use Rattle.sdh_outage_cli.specs.declared.ports.ListenerPair.{ListenerPair}
use Rattle.sdh_outage_cli.proofs.Nodes.{LookedFrom}
use Rattle.sdh_outage_cli.proofs.ports.look_all.Given as goal

abbrev pub invariant-loop-i : goal.invariant-loop-i
invariant-loop-i l = record {
  len : length l.items.items ≡ length l.fn.items.items;
  each : (j : ℕ) (before after : ListenerPair) → slice_get l.fn.items.items j ≡ Some before → slice_get l.items.items j ≡ Some after
      → LookedFrom l.ring (length l.ring.ids - l.i) l.fn.streams.pairs.items j before after;
  streams : l.streams.pairs.items ≡ l.fn.streams.pairs.items;
  rooms : l.rooms.counts ≡ l.fn.rooms.counts;
}
