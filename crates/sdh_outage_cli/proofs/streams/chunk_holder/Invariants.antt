use Rattle.std.proofs.Common.{◌≡◌, ℕ, List, drop}
use Rattle.sdh_circuits.specs.Provisioned.{Provisioned}
use Rattle.sdh_outage_cli.specs.Streams.{AreNear, holder_from}
use Rattle.sdh_outage_cli.proofs.streams.chunk_holder.Given as goal

abbrev pub invariant-loop-i : goal.invariant-loop-i
invariant-loop-i l = record {
  same : l.streams.pairs.items ≡ l.fn.streams.pairs.items;
  passed : (circuits : List Provisioned) (round : ℕ) → AreNear circuits round l.fn.streams.pairs.items
      → holder_from l.own 0 circuits round l.chunk ≡ holder_from l.own l.i (drop l.i circuits) round l.chunk;
}
