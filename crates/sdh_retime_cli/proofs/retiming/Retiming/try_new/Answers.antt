use Rattle.std.proofs.Common.{ap}
use Rattle.sdh_pointer.specs.Reading.{Interpreter}
use Rattle.sdh_retime_cli.proofs.Turns.{first_reading}
use Rattle.sdh_retime_cli.proofs.retiming.Retiming.try_new.Goals as goal

pub returns-clause-reads : goal.returns-clause-reads
returns-clause-reads c =
    first_reading c.new.result c.in_ok-try_new.field-0 0 (ap (λ (i : Interpreter). i.reading) c.new.ensures) c.in_ok-try_new.ensures.empty
