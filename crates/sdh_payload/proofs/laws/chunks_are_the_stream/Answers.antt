use Rattle.sdh_payload.proofs.Chunks.{chunks_are_the_stream}
use Rattle.sdh_payload.proofs.laws.chunks_are_the_stream.Goals as goal

pub returns : goal.returns
returns c = chunks_are_the_stream
