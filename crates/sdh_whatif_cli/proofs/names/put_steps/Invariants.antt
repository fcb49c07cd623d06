use Rattle.std.proofs.Common.{◌≡◌, ◌+◌, ◌*◌, ◌≤◌, ◌++◌, length, take}
use Rattle.std.specs.List.{flat_map}
use Rattle.sdh_verdicts.specs.Failures.{case_steps}
use Rattle.sdh_whatif_cli.specs.Lines.{step_part}
use Rattle.sdh_whatif_cli.proofs.names.put_steps.Given as goal

abbrev pub invariant-loop-failure : goal.invariant-loop-failure
invariant-loop-failure l = record {
  short : length l.line ≤ length l.fn.line + 240 * l.failure-index;
  text : l.line ≡ l.fn.line
      ++ flat_map (step_part l.fn.form l.fn.map) (case_steps (length l.fn.map) l.fn.threshold (take l.failure-index l.fn.case));
}
