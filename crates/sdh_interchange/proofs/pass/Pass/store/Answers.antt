use Rattle.std.proofs.Common.{◌≡◌, ◌+◌, ◌%◌, ◌<◌, get_or, length, inl, inr, false, sym, ◌∙◌, subst, arith}
use Rattle.sdh_interchange.specs.declared.choose.Source.TheVariants.{Ones}
use Rattle.sdh_interchange.specs.Lanes.{IsExtra}
use Rattle.sdh_interchange.proofs.Sorts.{extra_without}
use Rattle.sdh_interchange.proofs.Vectors.{column, in_rate}
use Rattle.sdh_interchange.proofs.Stretches.{vector_passed}
use Rattle.sdh_interchange.proofs.pass.Pass.store.Goals as goal

pub merged-all-requires-clause-lanes : goal.merged-all-requires-clause-lanes
merged-all-requires-clause-lanes g c = (g.row.N, (c.args.self.now.sources.now, c.requires.pass.lanes))

pub put-requires-clause-long : goal.put-requires-clause-long
put-requires-clause-long g c =
    (c.merged-all.ensures g.row.N c.args.self.now.sources.now c.args.self.now.inputs.now.own.now c.requires.pass.rate c.requires.whole c.requires.pass.lanes c.requires.extra).long

pub returns-then-this-ne0 : goal.returns-then-this-ne0
returns-then-this-ne0 g c =
    let pass = c.args.self.now in
    let are =
    c.merged-all.ensures g.row.N pass.sources.now pass.inputs.now.own.now c.requires.pass.rate c.requires.whole c.requires.pass.lanes c.requires.extra in
    vector_passed g.row.N pass c.args.at c.args.bytes.now c.put.new.out c.merged-all.result c.put.ensures.before c.put.ensures.inside c.put.ensures.behind are.each

pub returns-else-this-ne0 : goal.returns-else-this-ne0
returns-else-this-ne0 g c =
    let n = g.row.N in
    let at = c.args.at in
    let pass = c.args.self.now in
    let from = pass.inputs.now in
    let extra = c.args.extra in
    let none : pass.passed ≡ false = elim c.requires.reads [ inl t ↦ absurd (grind (arith, t, c.if-this-ne0.false)) | inr f ↦ f ] in
    vector_passed n pass at c.args.bytes.now c.put-else-this-ne0.new.out extra c.put-else-this-ne0.ensures.before c.put-else-this-ne0.ensures.inside c.put-else-this-ne0.ensures.behind (λ j h.
    (let few : (at + j) % n < length pass.sources.now = omega
    (arith, in_rate n (at + j) c.requires.pass.rate, c.requires.pass.sources.many) in
    extra_without n pass.sources.now from.first.now from.second.now from.own.now (at + j) (get_or extra j 0)
    (sym c.requires.pass.passed ∙ none) few
    (subst (λ m. IsExtra n (get_or pass.sources.now m Ones) from.own.now (at + j) (get_or extra j 0))
    (column n at j 0 c.requires.pass.rate c.requires.whole).1 (c.requires.extra.each j h))))
