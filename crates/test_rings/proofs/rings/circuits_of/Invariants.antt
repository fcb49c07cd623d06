use Rattle.std.specs.Prelude.{◌≡◌, IfSome}
use Rattle.sdh_circuits.specs.Kept.{KeepsRing}
use Rattle.test_rings.proofs.rings.circuits_of.Given as goal

abbrev pub invariant-wishes : goal.invariant-wishes
invariant-wishes l = record {
  slots : l.circuits.slots ≡ 2;
  kept : KeepsRing l.circuits l.map;
  same : IfSome l.circuits.ring (λ kept. kept ≡ l.map);
}
