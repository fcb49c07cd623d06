use Rattle.std.proofs.Common.{ap, ◌∙◌, codes, decimal}
use Rattle.sdh_report.specs.Written.{with_part}
use Rattle.sdh_sncp_cli.proofs.Short.{three_parts}
use Rattle.sdh_sncp_cli.proofs.ending.put_no_such_step.Goals as goal

pub returns : goal.returns
returns c =
    three_parts c.args.text.now c.put.new.self c.put_number.new.self c.put-2.new.self (codes "no such step ") (decimal c.args.step)
    (codes "\n") c.put.ensures (c.put_number.ensures ∙ ap (λ k. with_part c.put.new.self (decimal k)) c.from.ensures) c.put-2.ensures
