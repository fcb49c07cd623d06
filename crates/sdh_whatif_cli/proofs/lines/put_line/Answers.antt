use Rattle.std.proofs.Common.{◌≡◌, ◌∙◌, ◌++◌, [], List, ℕ, codes, ap}
use Rattle.sdh_whatif_cli.specs.Counting.{AreSpansOf, fate_counts}
use Rattle.sdh_whatif_cli.specs.Lines.{either, case_text, fate_counts_text, fates_text}
use Rattle.sdh_whatif_cli.proofs.Parts.{sides_long, onto}
use Rattle.sdh_whatif_cli.proofs.lines.put_line.Goals as goal

pub spans-spans-requires-clause-sides : goal.spans-spans-requires-clause-sides
spans-spans-requires-clause-sides c = sides_long c.args.plan.now c.args.sides.now c.requires.sides

pub put_case-requires-clause-spans : goal.put_case-requires-clause-spans
put_case-requires-clause-spans c = record {
  applied = c.spans-spans.ensures.applied c.args.plan.now c.requires.sides;
  troubled = c.spans-spans.ensures.troubled c.args.plan.now c.requires.sides;
}

pub counts_of-requires : goal.counts_of-requires
counts_of-requires c = record {
  case = (
    c.args.case.failures.now,
    record {
      applied = c.spans-spans.ensures.applied c.args.plan.now c.requires.sides;
      troubled = c.spans-spans.ensures.troubled c.args.plan.now c.requires.sides;
    },
  );
}

pub put_fates-requires-clause-case : goal.put_fates-requires-clause-case
put_fates-requires-clause-case c = (
  c.args.case.failures.now,
  record {
    applied = c.spans-spans.ensures.applied c.args.plan.now c.requires.sides;
    troubled = c.spans-spans.ensures.troubled c.args.plan.now c.requires.sides;
  },
)

pub returns : goal.returns
returns c =
    let f = c.args.entry.form in
    let plan = c.args.plan.now in
    let case = c.args.case.failures.now in
    let are : AreSpansOf plan case c.spans-spans.result = record {
      applied = c.spans-spans.ensures.applied plan c.requires.sides;
      troubled = c.spans-spans.ensures.troubled plan c.requires.sides;
    } in
    let one = case_text f plan c.args.entry.number c.args.case.digits case in
    let two = fate_counts_text f (fate_counts plan case) in
    let three = either f (codes ",\"circuits\":{") [] in
    let four = fates_text f plan case in
    let five = either f (codes "}}\n") (codes "\r\n") in
    let to1 : c.put_case.new.line ≡ [] ++ one = c.put_case.ensures.text ∙ ap (λ (l : List ℕ). l ++ one) c.requires.empty in
    let to2 =
    onto [] one two c.put_case.new.line c.put_counts.new.line to1
    (c.put_counts.ensures.text ∙ ap (λ k. c.put_case.new.line ++ fate_counts_text f k) (c.counts_of.ensures case are)) in
    let to3 = onto [] (one ++ two) three c.put_counts.new.line c.put_either.new.line to2 c.put_either.ensures.text in
    let to4 = onto [] (one ++ two ++ three) four c.put_either.new.line c.put_fates.new.line to3 (c.put_fates.ensures.text case are) in
    onto [] (one ++ two ++ three ++ four) five c.put_fates.new.line c.put_either-2.new.line to4 c.put_either-2.ensures.text
