use Rattle.std.proofs.Common.{◌≡◌, [], inl, inr, false, sym, ◌∙◌, arith}
use Rattle.sdh_interchange.proofs.Vectors.{own_extra, ones_extra}
use Rattle.sdh_interchange.proofs.pass.Pass.extra.Goals as goal

pub returns-then-this-ne0 : goal.returns-then-this-ne0
returns-then-this-ne0 g c =
    let pass = c.args.self.now in
    own_extra g.row.N c.args.at [] [] pass.inputs.now.own.now c.requires.pass.rate c.requires.whole pass.sources.now pass.lanes.now c.args.column c.requires.pass.lanes c.requires.long c.fits-column.1 c.requires.column

pub returns : goal.returns
returns g c =
    let pass = c.args.self.now in
    let none : pass.passed ≡ false = elim c.requires.reads [ inl t ↦ absurd (grind (arith, t, c.if-this-ne0.false)) | inr f ↦ f ] in
    ones_extra g.row.N c.args.at [] [] pass.inputs.now.own.now c.requires.pass.rate c.requires.whole pass.sources.now pass.lanes.now c.args.column c.requires.pass.lanes c.requires.pass.sources.many (sym c.requires.pass.passed ∙ none) c.requires.long c.fits-column.1 c.requires.column
