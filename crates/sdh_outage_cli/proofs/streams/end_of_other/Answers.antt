use Rattle.std.proofs.Common.{◌≡◌, false, Some, None, refl, ap, sym, ◌∙◌, arith}
use Rattle.std.specs.Prelude.{◌==◌, if◌then◌else◌, slice_get}
use Rattle.std.proofs.lemmas.Bool.{ne_eqb}
use Rattle.std.proofs.lemmas.Option.{slice_get_read}
use Rattle.sdh_outage_cli.specs.Streams.{end_held}
use Rattle.sdh_outage_cli.proofs.streams.end_of_other.Goals as goal

pub end_held-requires : goal.end_held-requires
end_held-requires c =
    let items = c.args.streams.now.pairs.items in
    let pair = c.index.result.now in
    let here : slice_get items c.args.i ≡ Some pair = slice_get_read items _ c.args.i pair refl c.requires.index c.index.ensures in
    c.requires.early c.args.i pair here

pub returns-clause-held : goal.returns-clause-held
returns-clause-held c = λ circuits x round near there.
    let items = c.args.streams.now.pairs.items in
    let i = c.args.i in
    let pair = c.index.result.now in
    let here : slice_get items i ≡ Some pair = slice_get_read items _ i pair refl c.requires.index c.index.ensures in
    let other : (i == c.args.own) ≡ false = ne_eqb i c.args.own (λ same. omega (arith, same, c.if-i-from.false, c.from.ensures)) in
    c.end_held.ensures x round (near.each i x pair there here)
    ∙ ap (λ b. if b then None else end_held x round c.args.chunk.now) (sym other)
