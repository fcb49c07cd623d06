use Rattle.std.proofs.Common.{◌-◌, ◌*◌, ap, ◌∙◌}
use Rattle.sdh_payload.specs.Stream.{stream_from}
use Rattle.sdh_outage.specs.Kept.{Reached}
use Rattle.sdh_outage.proofs.reach.Reach.bytes.Goals as goal

pub returns : goal.returns
returns c =
    c.deref.ensures.value ∙ c.self.invariant.0.bytes_are
    ∙ ap (λ (r : Reached). stream_from r.port (2349 * r.first) (2349 * (r.made - r.first))) c.self.view_is
