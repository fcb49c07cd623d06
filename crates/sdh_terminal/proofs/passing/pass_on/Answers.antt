use Rattle.std.proofs.Common.{◌≡◌, ◌-◌, slice_index_or, ap, sym, ◌∙◌}
use Rattle.sdh_ringmap.specs.Rates.{n_of}
use Rattle.sdh_frame.specs.Aus.{Au, au_of}
use Rattle.sdh_pointer.specs.declared.reading.Action.TheVariants.{Ais}
use Rattle.sdh_pointer.specs.Sending.{form_sent, word_sent}
use Rattle.sdh_terminal.specs.Receiving.{Intake}
use Rattle.sdh_terminal.specs.Passing.{Input, au_for, au_sent}
use Rattle.sdh_terminal.specs.Sources.{bytes_on}
use Rattle.sdh_terminal.specs.Lines.{received, line_on}
use Rattle.sdh_terminal.proofs.Planned.{bytes_there}
use Rattle.sdh_terminal.proofs.passing.pass_on.Goals as goal

pub returns-clause-payload : goal.returns-clause-payload
unfolding au_sent
returns-clause-payload g c = λ own.
    let x = g.X.Matrix.lines c.args.cross.now in
    let side = c.args.side in
    let au = c.args.au in
    let s = c.args.generator.now.sending in
    let n = n_of x.rate in
    let west = x.west.intake.frame.bytes in
    let east = x.east.intake.frame.bytes in
    let r : Input = received x side au in
    let f = form_sent s r.action r.value in
    let w = word_sent s r.action r.value in
    let rate : n ≡ n_of (line_on x side).intake.frame.rate =
    ap n_of (sym c.intake.ensures.rate ∙ ap (λ (i : Intake). i.frame.rate) c.intake.ensures.intake) in
    let there : au_of n au (bytes_on side west east) ≡ r.au =
    ap (au_of n au) (bytes_there x side) ∙ ap (λ m. au_of m au (line_on x side).intake.frame.bytes) rate in
    c.source_for.ensures.payload n w f west east own
    ∙ ap (λ a. (au_for a f w (au_of n au (bytes_on side west east))).payload)
    (c.action-action.ensures ∙ ap (λ (i : Intake). slice_index_or i.actions (au - 1) Ais) c.intake.ensures.intake)
    ∙ ap (λ (z : Au). (au_for r.action f w z).payload) there
