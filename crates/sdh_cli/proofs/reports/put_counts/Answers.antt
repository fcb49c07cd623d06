use Rattle.std.proofs.Common.{◌≡◌, ◌-◌, ◌++◌, arith, ap, ◌∙◌}
use Rattle.sdh_report.specs.Written.{Written}
use Rattle.sdh_report.specs.Lines.{count_line}
use Rattle.sdh_report.specs.Reports.{chunks_in, silences_in}
use Rattle.sdh_report.proofs.Short.{short-count_line}
use Rattle.sdh_node.specs.Rings.Held.{outlet_at}
use Rattle.sdh_owed.specs.Reports.{ports_told}
use Rattle.sdh_cli.proofs.Told.{the_others}
use Rattle.sdh_cli.proofs.reports.put_counts.Goals as goal

pub overflow_sub-ports_of : goal.overflow_sub-ports_of
overflow_sub-ports_of c =
    let r = c.args.ring.now in
    omega (arith, c.chunks_in-chunks.ensures, c.ports_of.ensures.count, the_others (outlet_at r) r.circuits.circuits)

pub count_line-requires : goal.count_line-requires
count_line-requires c =
    omega (
      arith,
      c.requires.room,
      short-count_line c.args.number (c.rounds.result - 1) c.chunks_in-chunks.result
          (c.ports_of.result - c.chunks_in-chunks.result) (omega arith) (omega arith) (omega arith) (omega (arith, c.ports_of.ensures.few)),
    )

pub returns-clause-bytes : goal.returns-clause-bytes
returns-clause-bytes c =
    let r = c.args.ring.now in
    let silent : c.ports_of.result - c.chunks_in-chunks.result ≡ silences_in (ports_told r) =
    omega (arith, c.chunks_in-chunks.ensures, c.ports_of.ensures.count, the_others (outlet_at r) r.circuits.circuits) in
    ap (λ (w : Written). w.bytes) c.count_line.ensures
    ∙ ap (λ n. c.args.text.now.bytes ++ count_line c.args.number n c.chunks_in-chunks.result
    (c.ports_of.result - c.chunks_in-chunks.result)) (ap (λ k. k - 1) c.rounds.ensures)
    ∙ ap (λ n. c.args.text.now.bytes ++ count_line c.args.number (r.rounds - 1) n
    (c.ports_of.result - c.chunks_in-chunks.result)) c.chunks_in-chunks.ensures
    ∙ ap (λ n. c.args.text.now.bytes ++ count_line c.args.number (r.rounds - 1) (chunks_in (ports_told r)) n) silent

pub returns-clause-room : goal.returns-clause-room
returns-clause-room c =
    omega (
      arith,
      c.requires.room,
      ap (λ (w : Written). w.room) c.count_line.ensures,
      short-count_line c.args.number (c.rounds.result - 1) c.chunks_in-chunks.result (c.ports_of.result - c.chunks_in-chunks.result)
          (omega arith) (omega arith) (omega arith) (omega (arith, c.ports_of.ensures.few)),
    )
