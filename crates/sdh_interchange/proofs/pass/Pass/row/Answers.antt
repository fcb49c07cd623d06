use Rattle.std.proofs.Common.{◌≡◌, ◌+◌, ◌*◌, ◌%◌, ◌<◌, false, length, sym, ◌∙◌, subst, arith}
use Rattle.std.specs.List.{list_any}
use Rattle.sdh_interchange.specs.Choosing.{is_own}
use Rattle.sdh_interchange.specs.Passes.{HasPassed}
use Rattle.sdh_interchange.proofs.Sorts.{plain_without}
use Rattle.sdh_interchange.proofs.Vectors.{in_rate}
use Rattle.sdh_interchange.proofs.Stretches.{whole_at, some_between, within_frame}
use Rattle.sdh_interchange.proofs.pass.Pass.row.Goals as goal

pub plain-requires : goal.plain-requires
plain-requires g c =
    let pass = c.args.self.now in
    let n = g.row.N in
    let r = c.args.r in
    let rate = c.requires.pass.rate in
    let from = c.byte_of-from.ensures.place in
    let to = c.byte_of-to.ensures.place in
    let none : list_any is_own pass.sources.now ≡ false = sym c.requires.pass.owned ∙ c.if-self.false in (
      omega arith,
      (
        c.requires.pass,
        (
          c.requires.reads,
          (
            c.requires.size,
            (
              whole_at n (270 * r + 9) c.byte_of-from.result from,
              (
                whole_at n (270 * r + 270) c.byte_of-to.result to,
                (
                  some_between n (270 * r + 9) (270 * r + 270) c.byte_of-from.result c.byte_of-to.result rate from to (omega arith),
                  (
                    omega (arith, within_frame n (270 * r + 270) c.byte_of-to.result rate to (omega arith), c.requires.size),
                    (λ i low high. (let few : i % n < length pass.sources.now = omega (
                      arith,
                      in_rate n i rate,
                      c.requires.pass.sources.many,
                    ) in plain_without n pass.sources.now pass.inputs.now.own.now i none few)),
                  ),
                ),
              ),
            ),
          ),
        ),
      ),
    )

pub returns-else-self : goal.returns-else-self
returns-else-self g c =
    let pass = c.args.self.now in
    subst (λ m. HasPassed g.row.N pass m (g.row.N * (270 * c.args.r + 270)) c.args.bytes.now c.plain.new.bytes) c.byte_of-from.ensures.place
    (subst (λ m. HasPassed g.row.N pass c.byte_of-from.result m c.args.bytes.now c.plain.new.bytes) c.byte_of-to.ensures.place c.plain.ensures)
