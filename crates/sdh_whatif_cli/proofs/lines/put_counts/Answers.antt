use Rattle.std.proofs.Common.{◌∙◌, ◌++◌, codes, decimal, ap}
use Rattle.sdh_whatif_cli.specs.Lines.{either}
use Rattle.sdh_whatif_cli.proofs.Parts.{onto}
use Rattle.sdh_whatif_cli.proofs.lines.put_counts.Goals as goal

pub returns-clause-text : goal.returns-clause-text
returns-clause-text c =
    let f = c.args.form in
    let k = c.args.counts in
    let start = c.args.line.now in
    let text0 = either f (codes ",\"kept\":") (codes ",") in
    let to0 = c.put_either.ensures.text in
    let all0 = onto start (text0) (decimal k.kept) c.put_either.new.line c.put_small.new.self to0
    (c.put_small.ensures.text ∙ ap (λ n. c.put_either.new.line ++ decimal n) c.from.ensures) in
    let text1 = either f (codes ",\"impaired\":") (codes ",") in
    let to1 = onto start (text0 ++ decimal k.kept) text1 c.put_small.new.self c.put_either-2.new.line all0 c.put_either-2.ensures.text in
    let all1 = onto start (text0 ++ decimal k.kept ++ text1) (decimal k.impaired) c.put_either-2.new.line c.put_small-2.new.self to1
    (c.put_small-2.ensures.text ∙ ap (λ n. c.put_either-2.new.line ++ decimal n) c.from-2.ensures) in
    let text2 = either f (codes ",\"over\":") (codes ",") in
    let to2 = onto start (text0 ++ decimal k.kept ++ text1 ++ decimal k.impaired) text2 c.put_small-2.new.self c.put_either-3.new.line all1 c.put_either-3.ensures.text in
    let all2 = onto start (text0 ++ decimal k.kept ++ text1 ++ decimal k.impaired ++ text2) (decimal k.over) c.put_either-3.new.line c.put_small-3.new.self to2
    (c.put_small-3.ensures.text ∙ ap (λ n. c.put_either-3.new.line ++ decimal n) c.from-3.ensures) in
    let text3 = either f (codes ",\"lost\":") (codes ",") in
    let to3 = onto start (text0 ++ decimal k.kept ++ text1 ++ decimal k.impaired ++ text2 ++ decimal k.over) text3 c.put_small-3.new.self c.put_either-4.new.line all2 c.put_either-4.ensures.text in
    let all3 = onto start (text0 ++ decimal k.kept ++ text1 ++ decimal k.impaired ++ text2 ++ decimal k.over ++ text3) (decimal k.lost) c.put_either-4.new.line c.put_small-4.new.self to3
    (c.put_small-4.ensures.text ∙ ap (λ n. c.put_either-4.new.line ++ decimal n) c.from-4.ensures) in
    let text4 = either f (codes ",\"hops\":") (codes ",") in
    let to4 = onto start (text0 ++ decimal k.kept ++ text1 ++ decimal k.impaired ++ text2 ++ decimal k.over ++ text3 ++ decimal k.lost) text4 c.put_small-4.new.self c.put_either-5.new.line all3 c.put_either-5.ensures.text in
    let all4 = onto start (text0 ++ decimal k.kept ++ text1 ++ decimal k.impaired ++ text2 ++ decimal k.over ++ text3 ++ decimal k.lost ++ text4) (decimal k.hops) c.put_either-5.new.line c.put_small-5.new.self to4
    (c.put_small-5.ensures.text ∙ ap (λ n. c.put_either-5.new.line ++ decimal n) c.from-5.ensures) in
    all4
