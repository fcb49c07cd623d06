use Rattle.std.proofs.Common.{◌≡◌, true, false, length, ap, sym, ◌∙◌, arith}
use Rattle.std.specs.Prelude.{is_some}
use Rattle.sdh_outage.specs.Near.{near, is_part}
use Rattle.sdh_outage.specs.Kinds.{jumps, kind_of_pieces}
use Rattle.sdh_outage.proofs.Standing.{part_found}
use Rattle.sdh_outage.proofs.Windows.{length-near}
use Rattle.sdh_outage.proofs.Hearing.{not_there, is_there}
use Rattle.sdh_outage.proofs.window.Window.looked_up.Goals as goal

pub returns-in_default-clause-kind : goal.returns-in_default-clause-kind
returns-in_default-clause-kind c =
    let w = c.args.self.now in
    let last = c.args.last.now in
    let chunk = c.args.chunk.now in
    let others = c.args.others.now in
    let all = near w.port w.round in
    let here : others ≡ all = c.requires.others in
    let none : is_part chunk all ≡ false =
    ap (is_part chunk) (sym here) ∙ sym (part_found chunk others c.find.result c.find.ensures) ∙ ap is_some c.in_default.is in
    c.kind_of_pieces.ensures ∙ ap (λ l. kind_of_pieces chunk l) here ∙ not_there all last chunk c.requires.some none

pub put_place-requires : goal.put_place-requires
put_place-requires c =
    omega (arith, c.in-Some.ensures.1.fits, ap length c.requires.others, length-near c.args.self.now.port c.args.self.now.round)

pub returns-then-jumps-clause-kind : goal.returns-then-jumps-clause-kind
returns-then-jumps-clause-kind c =
    let w = c.args.self.now in
    let last = c.args.last.now in
    let chunk = c.args.chunk.now in
    let others = c.args.others.now in
    let all = near w.port w.round in
    let here : others ≡ all = c.requires.others in
    let part : is_part chunk all ≡ true =
    ap (is_part chunk) (sym here) ∙ sym (part_found chunk others c.find.result c.find.ensures) ∙ ap is_some c.in-Some.is in
    let jump : jumps all last chunk ≡ true =
    ap (λ l. jumps l last chunk) (sym here) ∙ sym c.jumps-jumps.ensures.answer ∙ c.if-jumps.true in
    is_there all last chunk true c.requires.some part jump

pub returns-else-jumps-clause-kind : goal.returns-else-jumps-clause-kind
returns-else-jumps-clause-kind c =
    let w = c.args.self.now in
    let last = c.args.last.now in
    let chunk = c.args.chunk.now in
    let others = c.args.others.now in
    let all = near w.port w.round in
    let here : others ≡ all = c.requires.others in
    let part : is_part chunk all ≡ true =
    ap (is_part chunk) (sym here) ∙ sym (part_found chunk others c.find.result c.find.ensures) ∙ ap is_some c.in-Some.is in
    let jump : jumps all last chunk ≡ false =
    ap (λ l. jumps l last chunk) (sym here) ∙ sym c.jumps-jumps.ensures.answer ∙ c.if-jumps.false in
    is_there all last chunk false c.requires.some part jump
