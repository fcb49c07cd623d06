use Rattle.std.proofs.Common.{◌∙◌, ◌++◌, ℕ, List, length, ap}
use Rattle.sdh_verdicts.specs.Failures.{steps_of}
use Rattle.sdh_whatif_cli.specs.Lines.{step_part}
use Rattle.sdh_whatif_cli.proofs.Parts.{onto, part_at, step_parts}
use Rattle.sdh_whatif_cli.proofs.names.put_failure.Goals as goal

pub returns-clause-text : goal.returns-clause-text
returns-clause-text c =
    let n = length c.args.map.now in
    let f = step_part c.args.form c.args.map.now in
    let steps = steps_of n c.args.threshold c.args.failure in
    let start = c.args.line.now in
    let two = onto start (part_at f steps 0) (part_at f steps 1) _ _ c.put_step_at.ensures.text c.put_step_at-2.ensures.text in
    let three = onto start (part_at f steps 0 ++ part_at f steps 1) (part_at f steps 2) _ _ two c.put_step_at-3.ensures.text in
    let four = onto start ((part_at f steps 0 ++ part_at f steps 1) ++ part_at f steps 2) (part_at f steps 3) _ _ three
    c.put_step_at-4.ensures.text in
    four ∙ ap (λ (l : List ℕ). start ++ l) (step_parts f n c.args.threshold c.args.failure)
