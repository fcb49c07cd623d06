use Rattle.std.proofs.Common.{◌≡◌, ◌%◌, ◌*◌, ◌+◌, ◌<◌, ◌≤◌, ℕ, refl, ap, sym, subst, arith, bit_xor}
use Rattle.sdh_payload.specs.Walk.{Walked, IsAt}
use Rattle.sdh_payload.proofs.Walking.{IsAt-text, IsAt-next}
use Rattle.sdh_payload.proofs.walk.Walk.pass_text.Goals as goal

pub invariant_of-self : goal.invariant_of-self
invariant_of-self c =
    let at : 2349 * c.self.inside.number + c.self.inside.index ≡ c.args.self.now.at = ap (λ (w : Walked). w.at) c.self.view_is in
    let inside : 0 < c.self.inside.index % 261 = omega (arith, at, c.requires.inside) in
    let fits : c.self.inside.index % 261 + c.args.count ≤ 261 = omega (arith, at, c.requires.fits) in
    let Here : ℕ → Type 0 =
    λ place. IsAt c.self.inside.port (c.self.inside.number + 1) 0 (bit_xor c.self.inside.parity c.parity.result) 0 place in (
      subst Here (sym c.behind-self-inside.ensures)
          (IsAt-next _ _ _ _ _ _ _ _ _ _ _ c.self.invariant.0 inside fits c.self.invariant.1 refl refl c.parity.ensures c.if-self-eq-VC4_LEN.true),
      c.self.invariant.1,
    )

pub invariant_of-self-else-self-eq-VC4_LEN : goal.invariant_of-self-else-self-eq-VC4_LEN
invariant_of-self-else-self-eq-VC4_LEN c =
    let at : 2349 * c.self.inside.number + c.self.inside.index ≡ c.args.self.now.at = ap (λ (w : Walked). w.at) c.self.view_is in
    let inside : 0 < c.self.inside.index % 261 = omega (arith, at, c.requires.inside) in
    let fits : c.self.inside.index % 261 + c.args.count ≤ 261 = omega (arith, at, c.requires.fits) in
    let within : c.self.inside.index + c.args.count < 2349 =
    omega (arith, c.self.invariant.0.index_within, inside, fits, c.if-self-eq-VC4_LEN.false) in
    let Here : ℕ → Type 0 =
    λ place. IsAt c.self.inside.port c.self.inside.number (c.self.inside.index + c.args.count) c.self.inside.b3
    (bit_xor c.self.inside.parity c.parity.result) place in (
      subst Here (sym c.behind-self-inside.ensures)
          (IsAt-text _ _ _ _ _ _ _ _ _ _ _ c.self.invariant.0 inside fits c.self.invariant.1 refl refl c.parity.ensures within),
      c.self.invariant.1,
    )
