use Rattle.std.proofs.Common.{inr, arith}
use Rattle.sdh_plan.proofs.Decimals.{too_large}
use Rattle.sdh_plan.proofs.words.decimal.Goals as goal

pub returns-then-number-gt429496729-clause-none : goal.returns-then-number-gt429496729-clause-none
returns-then-number-gt429496729-clause-none c =
    inr (omega (
      arith,
      c.loop-digit.invariant.number,
      too_large c.loop-digit.number c.args.digits.now c.loop-digit.digit-index
          (omega arith) c.loop-digit-test.true,
    ))
