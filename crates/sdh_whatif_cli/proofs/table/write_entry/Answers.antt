use Rattle.std.proofs.Common.{◌≡◌, ◌∙◌, ℕ, List, [], ap, sym, length}
use Rattle.std.specs.Option.{option_map_or}
use Rattle.sdh_verdicts.specs.declared.failure.Failure.{Failure}
use Rattle.sdh_whatif_cli.specs.Cases.{failures_of}
use Rattle.sdh_whatif_cli.specs.Lines.{line_text}
use Rattle.sdh_outside.proofs.Pieces.{as_text, nothing}
use Rattle.sdh_whatif_cli.proofs.table.write_entry.Goals as goal

pub returns : goal.returns
returns g c =
    let scene = c.args.scene.now in
    let plan = scene.plan.now in
    let ds = c.args.digits in
    let own = scene.own.now in
    let size : c.len.result ≡ length plan.nodes = c.len.ensures.len ∙ ap (λ (l : List ℕ). length l) c.map.ensures in
    let case : c.failures_of-failures.result ≡ failures_of (length plan.nodes) own ds =
    c.failures_of-failures.ensures.failures ∙ ap (λ n. failures_of n own ds) size in
    as_text _ _ _ _ _ _ _ _
    (c.bytes.ensures ∙ c.put_line.ensures
    ∙ ap (λ (fs : List Failure). line_text plan ds fs c.in-Some.entry) (c.as_slice.ensures ∙ case)
    ∙ ap (λ o. option_map_or (line_text plan ds (failures_of (length plan.nodes) own ds)) o []) (sym c.in-Some.is)) c.put.ensures.wrote

pub returns-in_default : goal.returns-in_default
returns-in_default g c =
    let scene = c.args.scene.now in
    let plan = scene.plan.now in
    let ds = c.args.digits in
    as_text _ _ _ _ _ _ _ _
    (ap (λ o. option_map_or (line_text plan ds (failures_of (length plan.nodes) scene.own.now ds)) o []) (sym c.in_default.is))
    (nothing _ _ _ _)
