use Rattle.std.proofs.Common.{◌≡◌, ◌%◌, ◌/◌, ◌*◌, ◌+◌, get_or, refl, ap, ◌∙◌, arith}
use Rattle.sdh_payload.specs.Stream.{path_overhead}
use Rattle.sdh_payload.specs.Walk.{Walked, containers_from}
use Rattle.sdh_payload.proofs.Walking.{IsAt-overhead, overhead_is, containers_here}
use Rattle.sdh_payload.proofs.walk.Walk.next_overhead.Goals as goal

pub invariant_of-self : goal.invariant_of-self
invariant_of-self c =
    let at : 2349 * c.self.inside.number + c.self.inside.index ≡ c.args.self.now.at = ap (λ (w : Walked). w.at) c.self.view_is in
    let first : c.self.inside.index % 261 ≡ 0 = omega (arith, at, c.requires.start) in (
      IsAt-overhead _ _ _ _ _ _ _ c.self.invariant.0 first (c.overhead_byte-byte.ensures
          ∙ ap (λ t. get_or (path_overhead t c.self.inside.b3 c.self.inside.number) (c.self.inside.index / 261) 0) c.trace.ensures.trace)
          (omega arith),
      c.self.invariant.1,
    )

pub returns-clause-byte : goal.returns-clause-byte
returns-clause-byte c =
    let at : 2349 * c.self.inside.number + c.self.inside.index ≡ c.args.self.now.at = ap (λ (w : Walked). w.at) c.self.view_is in
    let first : c.self.inside.index % 261 ≡ 0 = omega (arith, at, c.requires.start) in
    let byte =
    overhead_is c.self.inside.port c.self.inside.number c.self.inside.index c.self.inside.b3 c.overhead_byte-byte.result first
    (c.overhead_byte-byte.ensures ∙ ap (λ t. get_or (path_overhead t c.self.inside.b3 c.self.inside.number)
    (c.self.inside.index / 261) 0) c.trace.ensures.trace) in
    containers_here _ _ _ _ _ _ 1 _ _ c.self.invariant.0 byte (omega (arith, c.self.invariant.0.index_within)) refl
    ∙ ap (λ (w : Walked). containers_from w.port w.at 1) c.self.view_is
