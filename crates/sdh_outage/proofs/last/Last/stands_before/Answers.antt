use Rattle.std.proofs.Common.{◌≡◌, ◌++◌, drop, length, ap, sym, subst, ◌∙◌, arith}
use Rattle.std.proofs.lemmas.Bool.Decides.{Decides-eqb}
use Rattle.std.proofs.lemmas.Slice.{between_to_end}
use Rattle.std.proofs.lemmas.Slice.Eq.{starts_is}
use Rattle.sdh_payload.specs.declared.delivered.Delivered.{Delivered}
use Rattle.sdh_outage.specs.Kept.{delivered, Stands}
use Rattle.sdh_outage.proofs.Standing.{stands_at}
use Rattle.sdh_outage.proofs.last.Last.stands_before.Goals as goal

pub returns-then-starts_with : goal.returns-then-starts_with
returns-then-starts_with c = λ found.
    let is_chunk = c.self.inside.is_chunk in
    let chunk = c.args.chunk.now in
    let others = c.args.others.now in
    let at = c.args.at in
    let last = c.deref.result.now in
    let rest = c.in-Some.rest.now in
    let behind = c.in-Some-get.behind.now in
    let len = c.len.result in
    let more = drop (length chunk) behind in
    let many : length last ≡ len = omega (arith, c.deref.ensures.len, c.len.ensures) in
    let begins : rest ≡ last ++ drop (length last) rest =
    (starts_is Decides-eqb rest last c.starts_with.result c.starts_with.ensures.value).0 c.if-starts_with.true in
    let goes_on : behind ≡ chunk ++ more =
    (starts_is Decides-eqb behind chunk c.starts_with-then-starts_with.result c.starts_with-then-starts_with.ensures.value).0 found in
    let after : drop (length last) rest ≡ chunk ++ more =
    ap (λ n. drop n rest) many ∙ sym (between_to_end rest len (length rest) (omega arith)) ∙ sym c.in-Some-get.ensures.lookup.0.2 ∙ goes_on in
    let whole : drop at others ≡ last ++ (chunk ++ more) =
    sym (between_to_end others at (length others) (omega arith)) ∙ sym c.in-Some.ensures.lookup.0.2 ∙ begins
    ∙ ap (λ l. last ++ l) after in
    let stands = stands_at is_chunk last chunk others more at (omega (arith, c.in-Some.ensures.lookup.0)) whole in
    subst (λ (d : Delivered). Stands d chunk others) c.self.view_is
    (subst (λ l. Stands (delivered is_chunk l) chunk others) c.deref.ensures.value stands)
