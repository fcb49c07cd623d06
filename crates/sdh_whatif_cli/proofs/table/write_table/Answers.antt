use Rattle.std.proofs.Common.{sym, ap}
use Rattle.sdh_whatif_cli.specs.Lines.{head_record, cases_text, cases_table}
use Rattle.sdh_outside.proofs.Pieces.{as_text, after, stopped}
use Rattle.sdh_whatif_cli.proofs.table.write_table.Goals as goal

pub returns-in-Err : goal.returns-in-Err
returns-in-Err g c =
    let plan = c.args.scene.now.plan.now in
    let own = c.args.scene.now.own.now in
    let ask = c.args.ask in
    as_text _ _ _ _ _ _ _ _ (ap (λ f. cases_table f plan own ask) (sym c.in-Headed.is))
    (stopped _ _ _ _ _ (head_record plan) (cases_text plan own ask) c.in-Err.fault c.in-Err.ensures)

pub returns-in_default : goal.returns-in_default
returns-in_default g c =
    let plan = c.args.scene.now.plan.now in
    let own = c.args.scene.now.own.now in
    let ask = c.args.ask in
    as_text _ _ _ _ _ _ _ _ (ap (λ f. cases_table f plan own ask) (sym c.in-Headed.is))
    (after _ _ _ _ _ _ _ (head_record plan) (cases_text plan own ask) tt c.write_cases-in-Headed.result c.in_default.ensures
    c.write_cases-in-Headed.ensures)
