use Rattle.sdh_spans.proofs.Sends.{sides_send_so}
use Rattle.sdh_spans.proofs.sides_send_so.Goals as goal

pub returns : goal.returns
returns c = sides_send_so
