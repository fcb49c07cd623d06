use Rattle.std.proofs.Common.{◌≡◌, ℕ, ◌≤◌, length, ap, ◌∙◌, arith}
use Rattle.sdh_report.specs.Written.{Written, with_part}
use Rattle.sdh_report.specs.Written.{room_in}
use Rattle.sdh_report.proofs.Parts.{kept_part}
use Rattle.sdh_node_cli.specs.Bench.{bytes_line}
use Rattle.sdh_node_cli.proofs.Short.{short_count}
use Rattle.sdh_node_cli.proofs.answer.Answer.close.Goals as goal

fits : (count : ℕ) (w : Written) → 32 ≤ w.room → count ≤ 77760 → length (bytes_line count) ≤ w.room
fits count w room few = omega (arith, room, short_count count (omega (arith, few)))

kept : (count : ℕ) (w v : Written) → 32 ≤ w.room → count ≤ 77760 → v ≡ with_part w (bytes_line count) → room_in v ≡ room_in w
kept count w v room few is = ap room_in is ∙ kept_part w (bytes_line count) (fits count w room few)

pub put_count-requires : goal.put_count-requires
put_count-requires c = fits c.count.result c.args.self.now.lines c.requires c.count.ensures.few

pub put_lines-requires : goal.put_lines-requires
put_lines-requires c =
    omega (
      arith,
      ap length c.bytes.ensures,
      kept c.count.result c.args.self.now.lines c.put_count.new.text c.requires c.count.ensures.few c.put_count.ensures,
      c.args.self.now.lines_room,
    )

pub invariant_of-self : goal.invariant_of-self
invariant_of-self c = record {
  lines_room =
      kept c.count.result c.args.self.now.lines c.put_count.new.text c.requires c.count.ensures.few c.put_count.ensures
      ∙ c.args.self.now.lines_room;
}
