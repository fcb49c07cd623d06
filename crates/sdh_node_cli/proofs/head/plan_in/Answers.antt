use Rattle.std.proofs.Common.{ap, length, arith}
use Rattle.sdh_report.specs.Written.{Written}
use Rattle.sdh_node_cli.proofs.Heads.{took_head, head_ends, has_head, has_none, few_bytes}
use Rattle.sdh_node_cli.proofs.head.plan_in.Goals as goal

pub document_of-requires : goal.document_of-requires
document_of-requires g c =
    let left = g.R.Source.left in
    let e = c.in-Ok-Whole in
    head_ends (left c.args.source.now) (left c.read_head.new.source) c.bytes.result.now
    (took_head _ _ c.read_head.new.text.bytes c.bytes.result.now e.field-0 c.bytes.ensures e.field-0-is e.ensures.head)

pub plan_of-requires : goal.plan_of-requires
plan_of-requires g c =
    let left = g.R.Source.left in
    let e = c.in-Ok-Whole in
    few_bytes c.bytes.result.now c.document_of.result.now (head_ends (left c.args.source.now) (left c.read_head.new.source) c.bytes.result.now
    (took_head _ _ c.read_head.new.text.bytes c.bytes.result.now e.field-0 c.bytes.ensures e.field-0-is e.ensures.head))
    c.document_of.ensures
    (omega (arith, ap length c.bytes.ensures, c.read_head.ensures.kept, ap (λ (w : Written). w.room) c.in-Ok.ensures))

pub returns-in-Ok-plan_of-clause-plan : goal.returns-in-Ok-plan_of-clause-plan
returns-in-Ok-plan_of-clause-plan g c =
    let left = g.R.Source.left in
    let e = c.in-Ok-Whole in
    has_head (left c.args.source.now) (left c.read_head.new.source) c.bytes.result.now c.document_of.result.now c.in-Ok-plan_of.plan
    (took_head _ _ c.read_head.new.text.bytes c.bytes.result.now e.field-0 c.bytes.ensures e.field-0-is e.ensures.head)
    c.document_of.ensures c.in-Ok-plan_of.ensures.plan

pub returns-in-Ok-Whole-clause-refused : goal.returns-in-Ok-Whole-clause-refused
returns-in-Ok-Whole-clause-refused g c =
    let left = g.R.Source.left in
    let e = c.in-Ok-Whole in
    has_none (left c.args.source.now) (left c.read_head.new.source) c.bytes.result.now c.document_of.result.now c.in-Err-plan_of.why
    (took_head _ _ c.read_head.new.text.bytes c.bytes.result.now e.field-0 c.bytes.ensures e.field-0-is e.ensures.head)
    c.document_of.ensures
    (few_bytes c.bytes.result.now c.document_of.result.now (head_ends (left c.args.source.now) (left c.read_head.new.source) c.bytes.result.now
    (took_head _ _ c.read_head.new.text.bytes c.bytes.result.now e.field-0 c.bytes.ensures e.field-0-is e.ensures.head))
    c.document_of.ensures
    (omega (arith, ap length c.bytes.ensures, c.read_head.ensures.kept, ap (λ (w : Written). w.room) c.in-Ok.ensures)))
    c.in-Err-plan_of.ensures.refused
