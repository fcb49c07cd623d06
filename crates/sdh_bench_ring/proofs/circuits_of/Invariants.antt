use Rattle.std.specs.Prelude.{◌≡◌, ◌/◌, IfSome}
use Rattle.sdh_ringmap.specs.Rates.{n_of}
use Rattle.sdh_circuits.specs.Kept.{KeepsRing}
use Rattle.sdh_bench_ring.proofs.circuits_of.Given as goal

abbrev pub invariant-wishes : goal.invariant-wishes
invariant-wishes l = record {
  slots : l.circuits.slots ≡ n_of l.fn.rate / 2;
  kept : KeepsRing l.circuits l.map;
  same : IfSome l.circuits.ring (λ kept. kept ≡ l.map);
}
