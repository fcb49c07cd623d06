use Rattle.std.proofs.Common.{◌≡◌, ℕ, ◌+◌, ◌*◌, ◌-◌, ◌%◌, [], ap, ◌∙◌, arith}
use Rattle.sdh_interchange.proofs.Vectors.{plain_extra}
use Rattle.sdh_interchange.proofs.Stretches.{none_passed, then_passed, whole_on, whole_back}
use Rattle.sdh_interchange.proofs.pass.Pass.plain.Goals as goal

pub loop-b-init : goal.loop-b-init
loop-b-init g c = none_passed g.row.N c.args.self.now c.args.from (c.args.from + 0 * 16) c.args.bytes.now (omega arith)

pub store-requires : goal.store-requires
store-requires g c =
    let pass = c.args.self.now in
    let at : ℕ = c.args.from + c.loop-b.b * 16 in
    let e : at ≡ c.args.from + 16 * c.loop-b.b = omega arith in
    let whole : at % g.row.N ≡ 0 =
    ap (λ m. m % g.row.N) e ∙ whole_on g.row.N c.args.from c.loop-b.b c.requires.pass.rate c.requires.start in (
      omega arith,
      (
        c.requires.pass,
        (
          c.requires.reads,
          (
            omega arith,
            (
              whole,
              (
                omega arith,
                plain_extra g.row.N at [] [] pass.inputs.now.own.now c.requires.pass.rate whole pass.sources.now pass.lanes.now [] c.requires.pass.lanes (λ j h. c.requires.plain (at + j) (omega arith) (omega arith)),
              ),
            ),
          ),
        ),
      ),
    )

pub store-requires-2 : goal.store-requires-2
store-requires-2 g c =
    let pass = c.args.self.now in
    let at : ℕ = c.args.to - 16 in
    let whole : at % g.row.N ≡ 0 = whole_back g.row.N c.args.to c.requires.pass.rate (omega arith) c.requires.end in (
      omega arith,
      (
        c.requires.pass,
        (
          c.requires.reads,
          (
            omega arith,
            (
              whole,
              (
                omega arith,
                plain_extra g.row.N at [] [] pass.inputs.now.own.now c.requires.pass.rate whole pass.sources.now pass.lanes.now [] c.requires.pass.lanes (λ j h. c.requires.plain (at + j) (omega arith) (omega arith)),
              ),
            ),
          ),
        ),
      ),
    )

pub loop-b-preserved : goal.loop-b-preserved
loop-b-preserved g c =
    let from = c.args.from in
    let b = c.loop-b.b in
    then_passed g.row.N c.args.self.now from (from + b * 16) (from + b * 16) (from + b * 16 + 16)
    (from + (b + 1) * 16) c.args.bytes.now c.loop-b.bytes c.store.new.bytes (omega arith) (omega arith) (omega arith)
    (omega arith) c.loop-b.invariant c.store.ensures

pub returns : goal.returns
returns g c =
    let from = c.args.from in
    let to = c.args.to in
    then_passed g.row.N c.args.self.now from (to - 16) (from + c.loop-b.b * 16)
    (to - 16 + 16) to c.args.bytes.now c.loop-b.bytes c.store-2.new.bytes (omega arith) (omega arith) (omega arith)
    (omega arith) c.loop-b.invariant c.store-2.ensures
