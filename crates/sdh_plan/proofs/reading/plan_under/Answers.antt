use Rattle.std.proofs.Common.{◌≡◌, true, length, ◌/◌, ◌++◌, ap, sym, rules}
use Rattle.std.proofs.lemmas.Result.{err_from_is_err_and}
use Rattle.toml.specs.Data.{Members}
use Rattle.toml.specs.View.{table_view}
use Rattle.sdh_ringmap.specs.Rates.{n_of}
use Rattle.sdh_plan.specs.Plans.{ring_checks, settings_checks, provision_checks, script_checks, n_in, nodes_in, circuits_in, checks}
use Rattle.sdh_plan.proofs.Checking.{refused_before}
use Rattle.sdh_plan.specs.Steps.{new_past, ends_settled}
use Rattle.sdh_plan.specs.Scripts.{AreSteps}
use Rattle.sdh_plan.proofs.Facts.{script_fits}
use Rattle.sdh_plan.proofs.Composed.{keeps_ring, settings_refuse, circuits_refuse, script_refuses, all_pass, plan_is}
use Rattle.sdh_plan.proofs.reading.plan_under.Goals as goal

pub returns-in_err-rate-clause-refused : goal.returns-in_err-rate-clause-refused
unfolding checks
returns-in_err-rate-clause-refused c =
    let p = err_from_is_err_and c.from_residual.result c.from_residual.ensures.1 in
    let ms : Members = table_view c.args.table.now in
    rw (p.1, p.2) (refused_before (ring_checks ms) (settings_checks (n_in ms) ms
    ++ (provision_checks (n_in ms) (nodes_in ms) ms ++ script_checks (n_in ms) (nodes_in ms)
    (circuits_in (nodes_in ms) ms) ms)) c.in_err-rate.field-0.0 c.in_err-rate.ensures.refused)

pub returns-in_err-settings-clause-refused : goal.returns-in_err-settings-clause-refused
returns-in_err-settings-clause-refused c =
    let p = err_from_is_err_and c.from_residual-in_err-settings.result c.from_residual-in_err-settings.ensures.1 in
    rw (p.1, p.2) (settings_refuse (table_view c.args.table.now) c.in_ok-rate.rate c.in_ok-rate.ring
    (record { rate_is = c.in_ok-rate.ensures.rate; nodes_are = c.in_ok-rate.ensures.ring })
    c.in_err-settings.field-0.0 c.in_ok-rate.ensures.passed c.in_err-settings.ensures.refused)

pub returns-in_err-circuits-clause-refused : goal.returns-in_err-circuits-clause-refused
returns-in_err-circuits-clause-refused c =
    let p = err_from_is_err_and c.from_residual-in_err-circuits.result c.from_residual-in_err-circuits.ensures.1 in
    rw (p.1, p.2) (circuits_refuse (table_view c.args.table.now) c.in_ok-rate.rate c.in_ok-rate.ring
    (record { rate_is = c.in_ok-rate.ensures.rate; nodes_are = c.in_ok-rate.ensures.ring })
    c.in_err-circuits.field-0.0 c.in_ok-rate.ensures.passed c.in_ok-settings.ensures.passed c.in_err-circuits.ensures.refused)

pub returns-in_err-steps-clause-refused : goal.returns-in_err-steps-clause-refused
returns-in_err-steps-clause-refused c =
    let p = err_from_is_err_and c.from_residual-in_err-steps.result c.from_residual-in_err-steps.ensures.1 in
    rw (p.1, p.2) (script_refuses (table_view c.args.table.now) c.in_ok-rate.rate c.in_ok-rate.ring
    (record { rate_is = c.in_ok-rate.ensures.rate; nodes_are = c.in_ok-rate.ensures.ring })
    c.in_err-steps.field-0.0 c.in_ok-circuits.circuits.circuits
    (ap (λ p. p.circuits) c.in_ok-circuits.ensures.circuits) c.in_ok-rate.ensures.passed c.in_ok-settings.ensures.passed c.in_ok-circuits.ensures.passed c.in_err-steps.ensures.refused)

pub returns-clause-passed : goal.returns-clause-passed
returns-clause-passed c =
    all_pass (table_view c.args.table.now) c.in_ok-rate.rate c.in_ok-rate.ring
    (record { rate_is = c.in_ok-rate.ensures.rate; nodes_are = c.in_ok-rate.ensures.ring })
    c.in_ok-circuits.circuits.circuits
    (ap (λ p. p.circuits) c.in_ok-circuits.ensures.circuits) c.in_ok-rate.ensures.passed c.in_ok-settings.ensures.passed c.in_ok-circuits.ensures.passed c.in_ok-steps.ensures.passed

pub returns-clause-plan : goal.returns-clause-plan
returns-clause-plan c =
    plan_is (table_view c.args.table.now) c.in_ok-rate.rate c.in_ok-rate.ring
    (record { rate_is = c.in_ok-rate.ensures.rate; nodes_are = c.in_ok-rate.ensures.ring })
    c.in_ok-settings.settings c.in_ok-settings.limit c.in_ok-circuits.circuits c.in_ok-steps.steps.items
    c.in_ok-settings.ensures.rate c.in_ok-settings.ensures.threshold c.in_ok-settings.ensures.wait c.in_ok-settings.ensures.limit
    c.in_ok-circuits.ensures.circuits c.in_ok-steps.ensures.steps

pub invariant_of-result : goal.invariant_of-result
invariant_of-result c =
    let fits : AreSteps c.in_ok-settings.settings.rate (length c.in_ok-rate.ring)
    (length c.in_ok-circuits.circuits.circuits) new_past c.in_ok-steps.steps.items × (ends_settled c.in_ok-steps.steps.items ≡ true) =
    script_fits (table_view c.args.table.now) c.in_ok-settings.settings.rate c.in_ok-rate.ring c.in_ok-circuits.circuits.circuits
    (n_of c.in_ok-rate.rate) c.in_ok-steps.steps.items
    (ap n_of (sym c.in_ok-settings.ensures.rate)) c.in_ok-steps.ensures.passed c.in_ok-steps.ensures.steps in (
      record {
        threshold_from_1 = c.in_ok-settings.ensures.threshold_from_1;
        threshold_small = search rules;
        wait_small = c.in_ok-settings.ensures.wait_small;
        limit_from_1 = c.in_ok-settings.ensures.limit_from_1;
        limit_small = c.in_ok-settings.ensures.limit_small;
        nodes_fit = search rules;
        circuits_fit = search rules;
        steps_from_1 = c.in_ok-steps.ensures.count.0;
        steps_few = c.in_ok-steps.ensures.count.1;
        steps_fit = fits.0;
        last_settles = fits.1;
      },
      keeps_ring c.in_ok-circuits.circuits (n_of c.in_ok-rate.rate / 2) _ c.in_ok-rate.ring _ c.in_ok-circuits.ensures.circuits
          (ap (λ k. k / 2) (ap n_of (sym c.in_ok-settings.ensures.rate))),
    )
