use Rattle.std.proofs.Common.{◌*◌, ◌%◌, ◌<◌, ◌≤◌, get_or, inl, refl, subst, arith}
use Rattle.sdh_interchange.specs.declared.choose.Source.TheVariants.{Ones}
use Rattle.sdh_interchange.specs.Passes.{HasPassed}
use Rattle.sdh_interchange.proofs.ByBytes.{plain_pointer}
use Rattle.sdh_interchange.proofs.Vectors.{in_rate}
use Rattle.sdh_interchange.proofs.Stretches.{whole_at, some_between, within_frame}
use Rattle.sdh_interchange.proofs.pass.Pass.pointers.Goals as goal

pub plain-requires : goal.plain-requires
plain-requires g c =
    let pass = c.args.self.now in
    let n = g.row.N in
    let rate = c.requires.pass.rate in
    let from = c.byte_of-from.ensures.place in
    let to = c.byte_of-to.ensures.place in (
      omega arith,
      (
        c.requires.pass,
        (
          inl refl,
          (
            c.requires.size,
            (
              whole_at n 810 c.byte_of-from.result from,
              (
                whole_at n 819 c.byte_of-to.result to,
                (
                  some_between n 810 819 c.byte_of-from.result c.byte_of-to.result rate from to (omega arith),
                  (
                    omega (arith, within_frame n 819 c.byte_of-to.result rate to (omega arith), c.requires.size),
                    (λ i low high. plain_pointer n (get_or pass.sources.now (i % n) Ones) pass.inputs.now.own.now i rate
                        (subst (λ m. m ≤ i) from low) (subst (λ m. i < m) to high)
                        (c.requires.pass.sources.each (i % n) (in_rate n i rate))),
                  ),
                ),
              ),
            ),
          ),
        ),
      ),
    )

pub returns : goal.returns
returns g c =
    let pass = c.args.self.now in
    subst (λ m. HasPassed g.row.N pass m (g.row.N * 819) c.args.bytes.now c.plain.new.bytes) c.byte_of-from.ensures.place
    (subst (λ m. HasPassed g.row.N pass c.byte_of-from.result m c.args.bytes.now c.plain.new.bytes) c.byte_of-to.ensures.place c.plain.ensures)
