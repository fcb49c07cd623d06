use Rattle.std.proofs.Common.{◌∙◌, ◌++◌, ◌∷◌, [], length, codes, sym, ap, arith, eq-eqb, ne_eqb}
use Rattle.std.specs.Prelude.{◌==◌, if◌then◌else◌}
use Rattle.std.proofs.lemmas.List.{append-nil}
use Rattle.sdh_whatif_cli.specs.Lines.{joined, either, name_text}
use Rattle.sdh_whatif_cli.proofs.Parts.{join_by}
use Rattle.sdh_whatif_cli.proofs.names.put_named.Goals as goal

pub returns-then-digit-eq0-clause-count : goal.returns-then-digit-eq0-clause-count
returns-then-digit-eq0-clause-count c =
    let none = eq-eqb c.args.digit 0 c.if-digit-eq0.true in
    omega (arith, ap (λ b. length (if b then [] else name_text c.args.form c.args.map.now c.args.digit ∷ [])) none)

pub returns-then-digit-eq0-clause-text : goal.returns-then-digit-eq0-clause-text
returns-then-digit-eq0-clause-text c = λ start texts many is. (
    let f = c.args.form in
    let sep = either f (codes ",") (codes " + ") in
    let name = name_text f c.args.map.now c.args.digit in
    is ∙ ap (λ ts. start ++ joined sep ts)
    (sym (append-nil texts) ∙ ap (λ b. texts ++ (if b then [] else name ∷ [])) (sym (eq-eqb c.args.digit 0 c.if-digit-eq0.true))))

pub returns-clause-count : goal.returns-clause-count
returns-clause-count c =
    let some = ne_eqb c.args.digit 0 c.if-digit-eq0.false in
    omega (arith, ap (λ b. length (if b then [] else name_text c.args.form c.args.map.now c.args.digit ∷ [])) some)

pub returns-clause-text : goal.returns-clause-text
returns-clause-text c = λ start texts many is. (
    let f = c.args.form in
    let sep = either f (codes ",") (codes " + ") in
    let name = name_text f c.args.map.now c.args.digit in
    join_by sep texts name start c.args.line.now c.put_between.new.line c.put_name.new.line (c.args.named == 0) (ap (λ n. n == 0) many) is
    c.put_between.ensures.text c.put_name.ensures.text
    ∙ ap (λ b. start ++ joined sep (texts ++ (if b then [] else name ∷ []))) (sym (ne_eqb c.args.digit 0 c.if-digit-eq0.false)))
