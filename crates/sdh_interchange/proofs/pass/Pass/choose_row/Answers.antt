use Rattle.sdh_interchange.proofs.Stretches.{row-here, row-others, pointers-here, pointers-others}
use Rattle.sdh_interchange.proofs.pass.Pass.choose_row.Goals as goal

pub returns-then-r-eq3-clause-here : goal.returns-then-r-eq3-clause-here
returns-then-r-eq3-clause-here g c =
    λ i inside at. pointers-here g.row.N c.args.self.now c.args.r c.args.bytes.now c.any_row.new.bytes c.requires.pass.rate c.any_row.ensures c.pointers.new.bytes c.if-r-eq3.true c.pointers.ensures i at

pub returns-then-r-eq3-clause-others : goal.returns-then-r-eq3-clause-others
returns-then-r-eq3-clause-others g c =
    λ i away. pointers-others g.row.N c.args.self.now c.args.r c.args.bytes.now c.any_row.new.bytes c.requires.pass.rate c.any_row.ensures c.pointers.new.bytes c.if-r-eq3.true c.pointers.ensures i away

pub returns-else-r-eq3-clause-here : goal.returns-else-r-eq3-clause-here
returns-else-r-eq3-clause-here g c =
    λ i inside at. row-here g.row.N c.args.self.now c.args.r c.args.bytes.now c.any_row.new.bytes c.requires.pass.rate c.any_row.ensures c.if-r-eq3.false i at

pub returns-else-r-eq3-clause-others : goal.returns-else-r-eq3-clause-others
returns-else-r-eq3-clause-others g c =
    λ i away. row-others g.row.N c.args.self.now c.args.r c.args.bytes.now c.any_row.new.bytes c.requires.pass.rate c.any_row.ensures i away
