use Rattle.std.proofs.Common.{sym, ◌∙◌}
use Rattle.sdh_node.proofs.cross.CrossConnect.take.Goals as goal

pub invariant_of-self : goal.invariant_of-self
invariant_of-self c =
    let inv = c.self.invariant.cross in
    let west = c.take-west.ensures in
    let east = c.take-east.ensures in
    record {
      ring = c.self.invariant.ring;
      place = c.self.invariant.place;
      cross = record {
        inside = inv.inside;
        far = inv.far;
        rates = east.rate ∙ inv.rates ∙ sym west.rate;
        west_rate = west.in_rate ∙ sym west.rate;
        east_rate = east.in_rate ∙ inv.rates ∙ sym west.rate;
      };
    }
