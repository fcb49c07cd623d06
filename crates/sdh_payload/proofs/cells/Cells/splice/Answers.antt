use Rattle.std.proofs.Common.{◌≡◌, ◌++◌, ◌+◌, ◌-◌, ap, ◌∙◌, arith, rules, take, drop, length}
use Rattle.std.proofs.lemmas.List.{length-drop}
use Rattle.sdh_payload.proofs.Splicing.{turned}
use Rattle.sdh_payload.proofs.cells.Cells.splice.Goals as goal

pub returns-clause-bytes : goal.returns-clause-bytes
returns-clause-bytes c =
    let behind = c.len.result - c.args.back in
    let many : c.len.result ≡ length c.args.self.now = search rules in
    let more : c.extend_from_slice.new.self.items ≡ c.truncate.new.self.items ++ c.args.middle.now = search rules in
    let whole : c.rotate_left.new.self.items ≡ drop c.args.back c.args.self.now ++ take c.args.back c.args.self.now = search rules in
    c.rotate_left-2.ensures.items
    ∙ turned c.args.front c.args.back behind c.args.self.now c.args.middle.now c.extend_from_slice.new.self.items c.requires.ordered
    (omega (arith, many, length-drop c.args.back c.args.self.now))
    (more ∙ ap (λ ys. ys ++ c.args.middle.now) (c.truncate.ensures.items ∙ ap (take (behind + c.args.front)) whole))
