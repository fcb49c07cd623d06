use Rattle.std.proofs.Common.{ap, sym, ◌∙◌, refl}
use Rattle.sdh_node_cli.specs.Records.{record_of}
use Rattle.sdh_node_cli.proofs.Faults.{well_alone, ended}
use Rattle.sdh_node_cli.proofs.Turning.{has_line, no_record}
use Rattle.sdh_node_cli.proofs.turn.next_record.Goals as goal

pub returns-in-Ok-record_of-clause-line : goal.returns-in-Ok-record_of-clause-line
returns-in-Ok-record_of-clause-line g c =
    let b = c.args.bench.now in
    has_line _ _ _ _ _ _ c.in-Ok.ensures.line (ap (record_of b.circuits b.at) (sym c.bytes.ensures) ∙ sym c.in-Ok-record_of.ensures.is)

pub returns-in-Ok-record_of-clause-reads : goal.returns-in-Ok-record_of-clause-reads
returns-in-Ok-record_of-clause-reads g c = well_alone _ _ _ _ _ c.in-Ok.ensures.reads _ _ refl (λ e. cc)

pub returns-in-Err-record_of-clause-stop : goal.returns-in-Err-record_of-clause-stop
returns-in-Err-record_of-clause-stop g c =
    let b = c.args.bench.now in
    no_record _ _ _ _ _ _ c.in-Ok.ensures.line (ap (record_of b.circuits b.at) (sym c.bytes.ensures) ∙ sym c.in-Err-record_of.ensures.is)

pub returns-in-Err-record_of-clause-reads : goal.returns-in-Err-record_of-clause-reads
returns-in-Err-record_of-clause-reads g c = well_alone _ _ _ _ _ c.in-Ok.ensures.reads _ _ refl (λ e. cc)

pub returns-in-Err-clause-reads : goal.returns-in-Err-clause-reads
returns-in-Err-clause-reads g c = ended _ _ _ _ _ c.in-Err.ensures.reads _ refl
