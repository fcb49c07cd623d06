use Rattle.std.proofs.Common.{[], None, ap}
use Rattle.sdh_payload.specs.Customer.{Customer}
use Rattle.sdh_outage.specs.Kinds.{Whose}
use Rattle.sdh_outage.specs.Kept.{Heard}
use Rattle.sdh_outage_cli.proofs.ports.new_both.Goals as goal

-- any customer, and nobody as the other ports, since neither matters before the first round
any_customer : Customer
any_customer = record { text = []; trace = []; offset = 0 }

nobody : Whose
nobody round now = None

pub returns : goal.returns
returns c = (
  ap (λ (h : Heard). h.round) (c.in_ok-try_new.ensures any_customer nobody),
  ap (λ (h : Heard). h.round) (c.in_ok-try_new-2.ensures any_customer nobody),
)
