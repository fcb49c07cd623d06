use Rattle.std.proofs.Common.{◌≡◌, ◌%◌, ◌*◌, ◌+◌, ◌<◌, ◌≤◌, refl, ap, ◌∙◌, arith}
use Rattle.sdh_payload.specs.Walk.{Walked, containers_from}
use Rattle.sdh_payload.proofs.Walking.{text_is, containers_here}
use Rattle.sdh_payload.proofs.walk.Walk.text_run.Goals as goal

pub returns-clause-bytes : goal.returns-clause-bytes
returns-clause-bytes c =
    let at : 2349 * c.self.inside.number + c.self.inside.index ≡ c.args.self.now.at = ap (λ (w : Walked). w.at) c.self.view_is in
    let inside : 0 < c.self.inside.index % 261 = omega (arith, at, c.requires.inside) in
    let fits : c.self.inside.index % 261 + c.args.count ≤ 261 = omega (arith, at, c.requires.fits) in
    let within : c.self.inside.index + c.args.count ≤ 2349 = omega (arith, c.self.invariant.0.index_within, inside, fits) in
    containers_here _ _ _ _ _ _ c.args.count _ _ c.self.invariant.0
    (text_is _ _ _ _ _ _ _ _ _ c.self.invariant.0 inside fits c.self.invariant.1 c.from.ensures.bytes) within refl
    ∙ ap (λ (w : Walked). containers_from w.port w.at c.args.count) c.self.view_is
