use Rattle.std.proofs.Common.{take, ap, sym, ◌∙◌}
use Rattle.sdh_ringmap.specs.Rates.{n_of}
use Rattle.sdh_frame.specs.Aus.{payload_of}
use Rattle.sdh_frame.specs.Sizes.{Frame}
use Rattle.sdh_payload.specs.declared.delivered.Front.TheVariants as front
use Rattle.sdh_payload.specs.Outlet.{front_of}
use Rattle.sdh_terminal.specs.Receiving.{Intake}
use Rattle.sdh_terminal.proofs.Fronts.{front_received}
use Rattle.sdh_terminal.proofs.outlet.front_dropped.Goals as goal

pub returns-in-Some : goal.returns-in-Some
returns-in-Some g c =
    let lines = g.X.Matrix.lines c.args.cross.now in
    let side = c.in-Some.side in
    let au = c.in-Some.au in
    let frame = c.frame.ensures ∙ ap (λ (i : Intake). i.frame) c.intake.ensures.intake in
    let bytes = c.first_bytes-bytes.ensures ∙ ap (λ (f : Frame). take 16 (payload_of (n_of f.rate) au f.bytes)) frame in
    (λ j. front.Bytes (bytes j) (c.value.ensures.value j)) ∙ sym (front_received lines side au)
    ∙ sym (ap front_of c.in-Some.ensures.chunk)
