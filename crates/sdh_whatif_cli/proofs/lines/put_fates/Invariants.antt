use Rattle.std.proofs.Common.{◌≡◌, ◌+◌, ◌*◌, ◌≤◌, ◌++◌, [], List, codes, length, map, take}
use Rattle.sdh_verdicts.specs.declared.failure.Failure.{Failure}
use Rattle.sdh_whatif_cli.specs.Counting.{AreSpansOf}
use Rattle.sdh_whatif_cli.specs.Lines.{joined, either, fate_text}
use Rattle.sdh_whatif_cli.proofs.lines.put_fates.Given as goal

abbrev pub invariant-loop-i : goal.invariant-loop-i
invariant-loop-i l = record {
  short : length l.line ≤ length l.fn.line + 45 * l.i;
  text : (case : List Failure) → AreSpansOf l.fn.plan case l.fn.spans → l.line ≡ l.fn.line
      ++ joined (either l.fn.form (codes ",") []) (map (fate_text l.fn.form l.fn.plan case) (take l.i l.fn.plan.circuits));
}
