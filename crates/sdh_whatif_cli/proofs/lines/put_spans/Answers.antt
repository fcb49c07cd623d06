use Rattle.std.proofs.Common.{◌≡◌, ◌<◌, ◌∙◌, ◌++◌, ℕ, List, codes, get_or, length, map, sym, ap, arith}
use Rattle.std.proofs.lemmas.List.{get_or-map, length-map, take_all}
use Rattle.sdh_ringmap.specs.declared.Span.{Span}
use Rattle.sdh_restoration.specs.Applied.{is_applied}
use Rattle.sdh_verdicts.specs.Verdicts.{requests_with, numbers_of, places_below}
use Rattle.sdh_verdicts.proofs.Sets.{places_low}
use Rattle.sdh_whatif_cli.specs.Lines.{joined, either, span_part}
use Rattle.sdh_whatif_cli.proofs.Parts.{join_next}
use Rattle.sdh_whatif_cli.proofs.lines.put_spans.Goals as goal

pub put_span_name-requires-clause-at : goal.put_span_name-requires-clause-at
put_span_name-requires-clause-at c =
    let plan = c.args.plan.now in
    let n = length plan.nodes in
    let i = c.loop-i.i in
    let spans = c.spans-applied.result.now in
    let none : Span = record { 0 = 0 } in
    let p = is_applied (requests_with plan c.requires.case.0) in
    let listed : numbers_of spans ≡ places_below p n = ap numbers_of c.spans-applied.ensures ∙ c.requires.case.1.applied.listed in
    let low : i < length spans = omega (arith, c.loop-i-test.true) in
    let size : length (numbers_of spans) ≡ length spans = length-map spans (λ (s : Span). s.0) in
    let long : length (numbers_of spans) ≡ length (places_below p n) = ap (λ (l : List ℕ). length l) listed in
    let inside : i < length (places_below p n) = omega (arith, low, size, long) in
    let number : get_or (places_below p n) i 0 ≡ (get_or spans i none).0 =
    ap (λ (l : List ℕ). get_or l i 0) (sym listed) ∙ get_or-map (λ (s : Span). s.0) spans i none 0 low in
    let nodes : length c.map.result.now ≡ n = ap (λ (l : List ℕ). length l) c.map.ensures in
    omega (arith, places_low p n i inside, number, nodes)

pub loop-i-preserved : goal.loop-i-preserved
loop-i-preserved c =
    let f = c.args.form in
    let plan = c.args.plan.now in
    let i = c.loop-i.i in
    let spans = c.spans-applied.result.now in
    let none : Span = record { 0 = 0 } in
    let low : i < length spans = omega (arith, c.loop-i-test.true) in
    let size : length (numbers_of spans) ≡ length spans = length-map spans (λ (s : Span). s.0) in
    let mid = c.put_between.new.line in
    record {
      short = omega (arith, c.put_between.ensures.short, c.put_span_name.ensures.short, c.loop-i.invariant.short);
      text = join_next (either f (codes ",") (codes " ")) (span_part f plan.nodes) (numbers_of spans) i 0 c.args.line.now c.loop-i.line mid
          c.put_span_name.new.line (omega (arith, low, size)) c.loop-i.invariant.text c.put_between.ensures.text
          (c.put_span_name.ensures.text ∙ ap (λ (nodes : List ℕ). mid ++ span_part f nodes (get_or spans i none).0) c.map.ensures
          ∙ ap (λ k. mid ++ span_part f plan.nodes k) (sym (get_or-map (λ (s : Span). s.0) spans i none 0 low)));
    }

pub returns-clause-text : goal.returns-clause-text
returns-clause-text c = λ case are. (
    let f = c.args.form in
    let plan = c.args.plan.now in
    let spans = c.spans-applied.result.now in
    let size : length (numbers_of spans) ≡ length spans = length-map spans (λ (s : Span). s.0) in
    c.loop-i.invariant.text
    ∙ ap (λ l. c.args.line.now ++ joined (either f (codes ",") (codes " ")) (map (span_part f plan.nodes) l))
    (take_all c.loop-i.i (numbers_of spans) (omega (arith, size, c.loop-i-test.false))
    ∙ ap numbers_of c.spans-applied.ensures ∙ are.applied.listed))
