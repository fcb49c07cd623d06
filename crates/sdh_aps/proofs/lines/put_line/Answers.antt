use Rattle.std.proofs.Common.{◌++◌, codes, ap, ◌∙◌}
use Rattle.sdh_report.specs.Written.{Written, with_part}
use Rattle.sdh_aps.specs.Lines.{sent_text, heard_and_asked_text, node_place_text}
use Rattle.sdh_report.proofs.Parts.{two_parts}
use Rattle.sdh_aps.proofs.lines.put_line.Goals as goal

pub returns : goal.returns
returns c =
    let t = c.args.text.now in
    let s = c.args.shown.now in
    let a = node_place_text c.args.round c.args.id in
    let b = sent_text s in
    let d = heard_and_asked_text s in
    let first = c.put_sent.ensures ∙ ap (λ (w : Written). with_part w b) c.put_place.ensures ∙ two_parts t a b in
    let second = c.put_heard_and_asked.ensures ∙ ap (λ (w : Written). with_part w d) first ∙ two_parts t (a ++ b) d in
    c.put.ensures ∙ ap (λ (w : Written). with_part w (codes "\n")) second ∙ two_parts t (a ++ b ++ d) (codes "\n")
