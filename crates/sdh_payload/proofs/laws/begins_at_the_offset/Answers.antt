use Rattle.sdh_payload.proofs.Chunks.{begins_at_the_offset}
use Rattle.sdh_payload.proofs.laws.begins_at_the_offset.Goals as goal

pub returns : goal.returns
returns c = begins_at_the_offset
