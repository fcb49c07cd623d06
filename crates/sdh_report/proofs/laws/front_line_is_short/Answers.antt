use Rattle.std.proofs.Common.{◌≤◌, length, sym, subst}
use Rattle.sdh_payload.specs.declared.delivered.Delivered.TheVariants as delivered
use Rattle.sdh_report.specs.declared.text.TheConstants.{LINE_MAX}
use Rattle.sdh_report.specs.Lines.{front_line}
use Rattle.sdh_report.proofs.laws.front_line_is_short.Goals as goal

pub returns-in-Bytes : goal.returns-in-Bytes
returns-in-Bytes c =
    subst (λ f. length (front_line c.args.name.now c.args.end f) ≤ LINE_MAX) (sym c.in-Bytes.is)
    (c.short_value-in-Bytes.ensures c.args.name.now c.args.end (delivered.Chunk c.in-Bytes.field-0) c.requires)
