use Rattle.std.proofs.Common.{refl, sym, subst, ◌∙◌}
use Rattle.std.specs.Prelude.{Option, IfOk, IfErr}
use Rattle.sdh_plan.specs.Planned.{Planned}
use Rattle.sdh_shell.specs.Failing.{plan_max}
use Rattle.sdh_shell.proofs.Failing.{none_taken}
use Rattle.sdh_programs.specs.Sources.{IsPlanOf, IsNoPlanOf}
use Rattle.sdh_programs.proofs.Sources.{plan_read, none_read}
use Rattle.sdh_programs.proofs.answering.plan_for.Goals as goal

pub returns-in-Some-clause-plan : goal.returns-in-Some-clause-plan
returns-in-Some-clause-plan g c =
    let source = g.R.Source.left c.args.source.now in
    subst (λ (o : Option Planned). IsPlanOf o source source c.in-Some.plan) (sym c.in-Some.is ∙ c.in-Ok.ensures) (refl, refl)

pub returns-in-None-clause-plan : goal.returns-in-None-clause-plan
returns-in-None-clause-plan g c =
    let source = g.R.Source.left c.args.source.now in
    let left = g.R.Source.left c.plan_in.new.source in
    subst (λ (o : Option Planned). IfOk c.plan_in.result (IsPlanOf o source left)) (sym c.in-None.is ∙ c.in-Ok.ensures)
    (plan_read source left c.plan_in.result c.plan_in.ensures.plan c.plan_in.ensures.end)

pub returns-in-None-clause-none : goal.returns-in-None-clause-none
returns-in-None-clause-none g c =
    let source = g.R.Source.left c.args.source.now in
    let left = g.R.Source.left c.plan_in.new.source in
    let e = c.plan_in.ensures in
    subst (λ (o : Option Planned). IfErr c.plan_in.result (IsNoPlanOf o source left (g.R.Source.faults c.args.source.now)
    (g.R.Source.faults c.plan_in.new.source))) (sym c.in-None.is ∙ c.in-Ok.ensures)
    (none_read source left _ _ c.plan_in.result e.kind e.refused e.fault e.complete)

pub returns-in-Some-clause-taken : goal.returns-in-Some-clause-taken
returns-in-Some-clause-taken g c = record {
  one_more = λ e. cc;
  within = λ other. none_taken plan_max (g.R.Source.left c.args.source.now);
}
