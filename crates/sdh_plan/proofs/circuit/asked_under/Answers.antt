use Rattle.std.proofs.Common.{option_map, ap, sym, ◌∙◌, rules}
use Rattle.toml.specs.View.{table_view}
use Rattle.sdh_circuits.specs.Checks.{wish_of}
use Rattle.sdh_plan.proofs.Wishes.{without_name, without_way, without_texts, without_traces, without_offsets, with_all}
use Rattle.sdh_plan.proofs.circuit.asked_under.Goals as goal

pub returns-in_err-name : goal.returns-in_err-name
returns-in_err-name c =
    ap (option_map wish_of) c.from_residual.ensures ∙ sym (without_name _ (sym c.in_err-name.ensures))

pub returns-in_err-from : goal.returns-in_err-from
returns-in_err-from c =
    ap (option_map wish_of) c.from_residual-in_err-from.ensures
    ∙ sym (without_way _ _ (sym c.in_ok-name.ensures) (sym c.in_err-from.ensures))

pub returns-in_err-text_a : goal.returns-in_err-text_a
returns-in_err-text_a c =
    ap (option_map wish_of) c.from_residual-in_err-text_a.ensures
    ∙ sym (without_texts _ _ _ (sym c.in_ok-name.ensures) (sym c.in_ok-from.ensures) (sym c.in_err-text_a.ensures))

pub returns-in_err-trace_a : goal.returns-in_err-trace_a
returns-in_err-trace_a c =
    ap (option_map wish_of) c.from_residual-in_err-trace_a.ensures
    ∙ sym (without_traces _ _ _ _ (sym c.in_ok-name.ensures) (sym c.in_ok-from.ensures) (sym c.in_ok-text_a.ensures)
    (sym c.in_err-trace_a.ensures))

pub returns-in_err-offset_a : goal.returns-in_err-offset_a
returns-in_err-offset_a c =
    ap (option_map wish_of) c.from_residual-in_err-offset_a.ensures
    ∙ sym (without_offsets _ _ _ _ _ (sym c.in_ok-name.ensures) (sym c.in_ok-from.ensures) (sym c.in_ok-text_a.ensures)
    (sym c.in_ok-trace_a.ensures) (sym c.in_err-offset_a.ensures))

pub returns : goal.returns
returns c =
    rw (with_all (table_view c.args.table.now) _ _ _ _ _ (sym c.in_ok-name.ensures) (sym c.in_ok-from.ensures)
    (sym c.in_ok-text_a.ensures) (sym c.in_ok-trace_a.ensures) (sym c.in_ok-offset_a.ensures)) (search rules)
