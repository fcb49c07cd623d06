use Rattle.std.proofs.Common.{◌++◌, ap, ap₂, ◌∙◌, arith}
use Rattle.sdh_circuits.specs.Provisioned.{customer_at}
use Rattle.sdh_circuits.specs.Ends.{other_end}
use Rattle.sdh_report.specs.Written.{Written}
use Rattle.sdh_path.specs.PathReports.{path_report_of}
use Rattle.sdh_watch.specs.Shows.{shown}
use Rattle.sdh_watch.specs.Lines.{watch_line}
use Rattle.sdh_watch.proofs.Short.{short-watch_line}
use Rattle.sdh_watch.proofs.ports.put_watch.Goals as goal

pub watch_line-requires : goal.watch_line-requires
watch_line-requires c =
    let r = c.report-report.result in
    omega (
      arith,
      c.requires.room,
      short-watch_line c.name.result.now c.args.end c.port.result.now r c.name.ensures.short (omega arith)
          (omega arith) (omega arith),
    )

pub returns-clause-bytes : goal.returns-clause-bytes
returns-clause-bytes c = λ heard came. (
    let old = c.args.text.now.bytes in
    let trace = (customer_at c.args.named.now (other_end c.args.end)).trace in
    let past = heard (record { circuit = c.args.circuit; end = c.args.end }) in
    ap (λ (w : Written). w.bytes) c.watch_line.ensures
    ∙ ap (λ r. old ++ watch_line c.name.result.now c.args.end (shown c.port.result.now r)) (c.report-report.ensures.history trace past came)
    ∙ ap₂ (λ n d. old ++ watch_line n c.args.end (shown d (path_report_of trace past))) c.name.ensures.name c.port.ensures)

pub returns-clause-room : goal.returns-clause-room
returns-clause-room c =
    let r = c.report-report.result in
    let short =
    short-watch_line c.name.result.now c.args.end c.port.result.now r c.name.ensures.short (omega arith) (omega arith) (omega arith) in
    omega (arith, c.requires.room, ap (λ (w : Written). w.room) c.watch_line.ensures, short)
