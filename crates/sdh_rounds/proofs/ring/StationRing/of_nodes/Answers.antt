use Rattle.std.proofs.Common.{ap, ◌∙◌, length}
use Rattle.sdh_basics.proofs.CellsLaws.{length-cells}
use Rattle.sdh_rounds.proofs.ring.StationRing.of_nodes.Goals as goal

pub invariant_of-result : goal.invariant_of-result
invariant_of-result g c = record {
  arrived = c.requires.arrived;
  west = c.requires.west;
  east = c.requires.east;
  ring = record {
    ids = c.len.ensures.ids;
    circuits = c.len-2.ensures.form;
    slots = c.requires.slots;
    kept = c.requires.kept;
    size = ap length c.requires.nodes ∙ length-cells _ (length c.args.map);
  };
}
