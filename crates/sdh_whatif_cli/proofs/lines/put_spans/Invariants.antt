use Rattle.std.proofs.Common.{◌≡◌, ◌+◌, ◌*◌, ◌≤◌, ◌++◌, codes, length, map, take}
use Rattle.sdh_verdicts.specs.Verdicts.{numbers_of}
use Rattle.sdh_whatif_cli.specs.Lines.{joined, either, span_part}
use Rattle.sdh_whatif_cli.proofs.lines.put_spans.Given as goal

abbrev pub invariant-loop-i : goal.invariant-loop-i
invariant-loop-i l = record {
  short : length l.line ≤ length l.fn.line + 44 * l.i;
  text : l.line ≡ l.fn.line
      ++ joined (either l.fn.form (codes ",") (codes " ")) (map (span_part l.fn.form l.fn.plan.nodes) (take l.i (numbers_of l.applied)));
}
