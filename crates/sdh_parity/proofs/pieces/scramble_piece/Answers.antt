use Rattle.std.proofs.Common.{◌≡◌, ◌-◌, inl, inr, arith}
use Rattle.std.proofs.lemmas.Bool.{cases_lt}
use Rattle.sdh_parity.proofs.Cutting.{clear-piece, added-piece}
use Rattle.sdh_parity.proofs.pieces.scramble_piece.Goals as goal

pub returns-then-at-bytes : goal.returns-then-at-bytes
returns-then-at-bytes c = clear-piece c.args.clear c.args.at c.args.bytes.now (omega arith)

pub returns : goal.returns
returns c =
    let skip = c.saturating_sub-skip.result in
    let is : skip ≡ c.args.clear - c.args.at = omega (arith, c.saturating_sub-skip.ensures) in
    added-piece c.args.clear c.args.at skip c.args.bytes.now c.add_from.new.bytes (omega arith)
    (elim (cases_lt c.args.at c.args.clear) [
      | inl before ↦ inr (omega arith)
      | inr past ↦ inl (omega arith)
    ])
    (omega arith) c.add_from.auto.bytes c.add_from.ensures
