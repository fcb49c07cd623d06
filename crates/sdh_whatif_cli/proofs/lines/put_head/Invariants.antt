use Rattle.std.proofs.Common.{◌≡◌, ◌+◌, ◌*◌, ◌≤◌, ◌++◌, codes, length, take}
use Rattle.std.specs.List.{flat_map}
use Rattle.sdh_whatif_cli.proofs.lines.put_head.Given as goal

abbrev pub invariant-loop-i : goal.invariant-loop-i
invariant-loop-i l = record {
  short : length l.line ≤ 58 + 17 * l.i;
  text : l.line ≡ codes "number,failures,steps,applied,kept,impaired,over,lost,hops"
      ++ flat_map (λ c. codes "," ++ c.name) (take l.i l.fn.plan.circuits);
}
