use Rattle.std.proofs.Common.{ap, sym, ◌∙◌}
use Rattle.sdh_overhead.specs.Landing.{LandedFrame}
use Rattle.sdh_report.specs.Written.{room_in}
use Rattle.sdh_node_cli.proofs.rooms.Rooms.try_new.Goals as goal

pub invariant_of-result : goal.invariant_of-result
invariant_of-result c = record {
  line_room = ap room_in c.in_ok-line.ensures;
  same_rate = c.in_ok-answer.ensures ∙ sym (ap (λ (l : LandedFrame). l.rate) c.in_ok-inbox.ensures);
}

pub returns : goal.returns
returns c = ap (λ (l : LandedFrame). l.rate) c.in_ok-inbox.ensures
