use Rattle.sdh_spans.proofs.Frames.{frames_come_through}
use Rattle.sdh_spans.proofs.frames_come_through.Goals as goal

pub returns : goal.returns
returns c = frames_come_through
