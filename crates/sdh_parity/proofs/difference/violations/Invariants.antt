use Rattle.std.proofs.Common.{◌≡◌, ◌*◌, ◌≤◌, take}
use Rattle.sdh_parity.specs.Violations.{violations_of}
use Rattle.sdh_parity.proofs.difference.violations.Given as goal

abbrev pub invariant-loop-i : goal.invariant-loop-i
invariant-loop-i l = record {
  counted : l.count ≡ violations_of (take l.i l.left) (take l.i l.right);
  few : l.count ≤ 8 * l.i;
}
