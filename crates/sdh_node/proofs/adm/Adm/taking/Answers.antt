use Rattle.std.proofs.Common.{◌/◌, ◌≤◌, get_or, sym, subst}
use Rattle.sdh_ringmap.specs.Rates.{n_of}
use Rattle.sdh_ringmap.specs.declared.terms.Rate.{Rate}
use Rattle.sdh_node.proofs.adm.Adm.taking.Goals as goal

pub take_out-requires-clause-ports : goal.take_out-requires-clause-ports
take_out-requires-clause-ports g c = λ k d lt.
    let inv = c.self.invariant.node in
    let is = inv.ports k d lt in
    (is.first, subst (λ (r : Rate). (get_or c.self.inside.ports k d).slot.0 ≤ n_of r / 2) (sym inv.west_rate) is.last)
