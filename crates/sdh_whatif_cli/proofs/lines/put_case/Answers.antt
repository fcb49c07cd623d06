use Rattle.std.proofs.Common.{◌∙◌, ◌++◌, [], ℕ, List, codes, decimal, length, ap}
use Rattle.std.specs.List.{flat_map}
use Rattle.sdh_request.specs.declared.settings.Settings.{Settings}
use Rattle.sdh_verdicts.specs.Failures.{case_steps}
use Rattle.sdh_whatif_cli.specs.Lines.{either, step_quote, step_part, names_text, script_text, spans_text}
use Rattle.sdh_whatif_cli.proofs.Parts.{onto}
use Rattle.sdh_whatif_cli.proofs.lines.put_case.Goals as goal

pub returns-clause-text : goal.returns-clause-text
returns-clause-text c =
    let f = c.args.entry.form in
    let plan = c.args.plan.now in
    let case = c.args.case.failures.now in
    let ds = c.args.case.digits in
    let start = c.args.line.now in
    let names = ap (λ (nodes : List ℕ). c.put_either-2.new.line ++ names_text f nodes ds) c.map.ensures in
    let script_at : List ℕ → ℕ → List ℕ = λ nodes t.
    flat_map (step_part f nodes) (case_steps (length nodes) t case) ++ step_quote f ++ codes "settle" ++ step_quote f in
    let script = ap (λ (nodes : List ℕ). c.put_either-3.new.line ++ script_at nodes c.settings.result.threshold) c.map-2.ensures
    ∙ ap (λ (s : Settings). c.put_either-3.new.line ++ script_at plan.nodes s.threshold) c.settings.ensures.settings in
    let text0 = either f (codes "{\"number\":") [] in
    let to0 = c.put_either.ensures.text in
    let text1 = decimal c.args.entry.number in
    let to1 = onto start (text0) text1 c.put_either.new.line c.put_long.new.self to0 c.put_long.ensures.text in
    let text2 = either f (codes ",\"failures\":[") (codes ",") in
    let to2 = onto start (text0 ++ text1) text2 c.put_long.new.self c.put_either-2.new.line to1 c.put_either-2.ensures.text in
    let text3 = names_text f plan.nodes ds in
    let to3 = onto start (text0 ++ text1 ++ text2) text3 c.put_either-2.new.line c.put_names.new.line to2 (c.put_names.ensures.text ∙ names) in
    let text4 = either f (codes "],\"steps\":[") (codes ",\"") in
    let to4 = onto start (text0 ++ text1 ++ text2 ++ text3) text4 c.put_names.new.line c.put_either-3.new.line to3 c.put_either-3.ensures.text in
    let text5 = script_text f plan case in
    let to5 = onto start (text0 ++ text1 ++ text2 ++ text3 ++ text4) text5 c.put_either-3.new.line c.put_script.new.line to4 (c.put_script.ensures.text ∙ script) in
    let text6 = either f (codes "],\"applied\":[") (codes "\",") in
    let to6 = onto start (text0 ++ text1 ++ text2 ++ text3 ++ text4 ++ text5) text6 c.put_script.new.line c.put_either-4.new.line to5 c.put_either-4.ensures.text in
    let text7 = spans_text f plan case in
    let to7 = onto start (text0 ++ text1 ++ text2 ++ text3 ++ text4 ++ text5 ++ text6) text7 c.put_either-4.new.line c.put_spans.new.line to6 (c.put_spans.ensures.text case c.requires.spans) in
    let text8 = either f (codes "]") [] in
    let to8 = onto start (text0 ++ text1 ++ text2 ++ text3 ++ text4 ++ text5 ++ text6 ++ text7) text8 c.put_spans.new.line c.put_either-5.new.line to7 c.put_either-5.ensures.text in
    to8
