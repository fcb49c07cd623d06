use Rattle.std.proofs.Common.{◌≡◌, ◌+◌, ◌*◌, inl, inr, sym, subst, arith}
use Rattle.sdh_interchange.specs.Passes.{AreColumns}
use Rattle.sdh_interchange.proofs.Stretches.{whole_at, columns_fit, block_passed, columns-four, columns-sixteen}
use Rattle.sdh_interchange.proofs.pass.Pass.block.Goals as goal

pub put-requires : goal.put-requires
put-requires g c =
    let own = c.args.self.now.inputs.now.own.now in
    let upto = c.args.self.now.lanes.now.upto in
    let columns = c.columns4-columns.result in
    let at = c.byte_of-at.ensures.place in (
      omega arith,
      (
        c.requires.pass,
        (
          c.requires.reads,
          (
            c.requires.size,
            (
              whole_at g.row.N (270 * c.args.r + (9 + c.args.c)) c.byte_of-at.result at,
              (
                omega (
                  arith,
                  columns_fit g.row.N (270 * c.args.r + (9 + c.args.c)) c.byte_of-at.result c.requires.pass.rate at (omega arith),
                  c.requires.size,
                ),
                subst (λ at. AreColumns g.row.N upto own at columns) (sym c.byte_of-at.ensures.place)
                    (subst (λ m. AreColumns m upto own (m * (270 * c.args.r + (9 + c.args.c))) columns) (sym c.if-this-eq4.true)
                    (columns-four own columns c.args.r c.args.c upto c.requires.row c.requires.column c.columns4-columns.ensures.table c.columns4-columns.ensures.each)),
              ),
            ),
          ),
        ),
      ),
    )

pub put-requires-else-this-eq4 : goal.put-requires-else-this-eq4
put-requires-else-this-eq4 g c =
    let own = c.args.self.now.inputs.now.own.now in
    let upto = c.args.self.now.lanes.now.upto in
    let columns = c.columns16-columns.result in
    let n : g.row.N ≡ 16 = elim c.requires.pass.rate [ inl four ↦ absurd (c.if-this-eq4.false four) | inr sixteen ↦ sixteen ] in
    let at = c.byte_of-at.ensures.place in (
      omega arith,
      (
        c.requires.pass,
        (
          c.requires.reads,
          (
            c.requires.size,
            (
              whole_at g.row.N (270 * c.args.r + (9 + c.args.c)) c.byte_of-at.result at,
              (
                omega (
                  arith,
                  columns_fit g.row.N (270 * c.args.r + (9 + c.args.c)) c.byte_of-at.result c.requires.pass.rate at (omega arith),
                  c.requires.size,
                ),
                subst (λ at. AreColumns g.row.N upto own at columns) (sym c.byte_of-at.ensures.place)
                    (subst (λ m. AreColumns m upto own (m * (270 * c.args.r + (9 + c.args.c))) columns) (sym n)
                    (columns-sixteen own columns c.args.r c.args.c upto c.requires.row c.requires.column c.columns16-columns.ensures.table c.columns16-columns.ensures.each)),
              ),
            ),
          ),
        ),
      ),
    )

pub returns-then-this-eq4 : goal.returns-then-this-eq4
returns-then-this-eq4 g c =
    block_passed g.row.N c.args.self.now (270 * c.args.r + (9 + c.args.c)) c.byte_of-at.result
    (270 * c.args.r + (25 + c.args.c)) c.args.bytes.now c.put.new.bytes c.requires.pass.rate c.byte_of-at.ensures.place
    (omega arith) c.put.ensures

pub returns-else-this-eq4 : goal.returns-else-this-eq4
returns-else-this-eq4 g c =
    block_passed g.row.N c.args.self.now (270 * c.args.r + (9 + c.args.c)) c.byte_of-at.result
    (270 * c.args.r + (25 + c.args.c)) c.args.bytes.now c.put-else-this-eq4.new.bytes c.requires.pass.rate c.byte_of-at.ensures.place
    (omega arith) c.put-else-this-eq4.ensures
