use Rattle.std.proofs.Common.{arith}
use Rattle.sdh_status.specs.declared.Status.TheVariants as status
use Rattle.sdh_report.proofs.Short.{short-last_line}
use Rattle.sdh_report.proofs.laws.short_plan.Goals as goal

pub returns : goal.returns
returns c = short-last_line (status.BadPlan c.args.reason c.args.place) (omega arith, omega arith)
