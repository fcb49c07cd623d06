use Rattle.std.proofs.Common.{◌≡◌, ◌∙◌, ◌++◌, [], length, refl, sym, ap, arith, append_assoc}
use Rattle.std.proofs.lemmas.List.{append-nil, length-append}
use Rattle.sdh_whatif_cli.specs.Lines.{joined, either, digit_names}
use Rattle.std.proofs.Common.{codes}
use Rattle.sdh_whatif_cli.proofs.names.put_names.Goals as goal

-- the names of three digits, one after the other; flat_map has nothing after the last
pub returns-clause-text : goal.returns-clause-text
returns-clause-text c =
    let f = c.args.form in
    let nodes = c.args.map.now in
    let sep = either f (codes ",") (codes " + ") in
    let start = c.args.line.now in
    let one = digit_names f nodes c.args.digits.first in
    let two = digit_names f nodes c.args.digits.second in
    let three = digit_names f nodes c.args.digits.third in
    let to1 : c.put_named-named.new.line ≡ start ++ joined sep one =
    c.put_named-named.ensures.text start [] refl (sym (append-nil start)) in
    let to2 : c.put_named-named-2.new.line ≡ start ++ joined sep (one ++ two) =
    c.put_named-named-2.ensures.text start one (omega (arith, c.put_named-named.ensures.count)) to1 in
    let many : length (one ++ two) ≡ c.put_named-named-2.result =
    omega (arith, length-append one two, c.put_named-named.ensures.count, c.put_named-named-2.ensures.count) in
    c.put_named.ensures.text start (one ++ two) many to2
    ∙ ap (λ ts. start ++ joined sep ts) (append_assoc one two three ∙ ap (λ ts. one ++ (two ++ ts)) (sym (append-nil three)))
