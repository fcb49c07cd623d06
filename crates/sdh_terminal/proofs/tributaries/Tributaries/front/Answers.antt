use Rattle.std.proofs.Common.{◌*◌, ◌≤◌, ap, sym, ◌∙◌}
use Rattle.sdh_ringmap.specs.Rates.{n_of}
use Rattle.sdh_payload.specs.Outlet.{front_of}
use Rattle.sdh_terminal.specs.Lines.{dropped_by}
use Rattle.sdh_terminal.proofs.Found.{found_has}
use Rattle.sdh_terminal.proofs.Waiting.{delivered_here}
use Rattle.sdh_terminal.proofs.tributaries.Tributaries.front.Goals as goal

pub front-requires-clause-first : goal.front-requires-clause-first
front-requires-clause-first g c =
    (found_has (λ t. (1 ≤ t.slot.0) × (2 * t.slot.0 ≤ n_of (g.X.Matrix.lines c.args.cross.now).rate)) c.args.id c.args.self.now
    c.in-Some.port.now c.requires.ports c.in-Some.ensures.found).0.0

pub front-requires-clause-last : goal.front-requires-clause-last
front-requires-clause-last g c =
    (found_has (λ t. (1 ≤ t.slot.0) × (2 * t.slot.0 ≤ n_of (g.X.Matrix.lines c.args.cross.now).rate)) c.args.id c.args.self.now
    c.in-Some.port.now c.requires.ports c.in-Some.ensures.found).0.1

pub returns : goal.returns
returns g c =
    c.front.ensures
    ∙ sym (ap front_of (delivered_here (λ t. dropped_by (g.X.Matrix.lines c.args.cross.now) (g.X.Matrix.drops c.args.cross.now t.side t.slot.0))
    c.args.id c.args.self.now c.in-Some.port.now c.in-Some.ensures.found))
