use Rattle.std.proofs.Common.{◌≡◌, ◌/◌, inl, inr, subst, sym, arith}
use Rattle.sdh_interchange.specs.Taking.{HaveRoom, HasTaken}
use Rattle.sdh_interchange.proofs.payloads.take_half.Goals as goal

pub take_rows-requires-clause-room : goal.take_rows-requires-clause-room
take_rows-requires-clause-room g c = subst (λ m. HaveRoom m (g.row.N / 2) c.args.out.now) c.if-base-eq0.true c.requires.room

pub returns-then-base-eq0 : goal.returns-then-base-eq0
returns-then-base-eq0 g c =
    subst (λ m. HasTaken g.row.N m 0 2349 c.args.bytes.now c.args.out.now c.take_rows.new.out) (sym c.if-base-eq0.true) c.take_rows.ensures

pub take_rows-requires-else-base-eq0-clause-room : goal.take_rows-requires-else-base-eq0-clause-room
take_rows-requires-else-base-eq0-clause-room g c =
    let half : c.args.base ≡ g.row.N / 2 = elim c.requires.base [
      | inl none ↦ absurd
          (c.if-base-eq0.false none)
      | inr twice ↦ omega arith
    ] in
    subst (λ m. HaveRoom m (g.row.N / 2) c.args.out.now) half c.requires.room

pub returns-else-base-eq0 : goal.returns-else-base-eq0
returns-else-base-eq0 g c =
    let half : c.args.base ≡ g.row.N / 2 = elim c.requires.base [
      | inl none ↦ absurd
          (c.if-base-eq0.false none)
      | inr twice ↦ omega arith
    ] in
    subst (λ m. HasTaken g.row.N m 0 2349 c.args.bytes.now c.args.out.now c.take_rows-else-base-eq0.new.out)
    (sym half) c.take_rows-else-base-eq0.ensures
