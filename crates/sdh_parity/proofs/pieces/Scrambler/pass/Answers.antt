use Rattle.std.proofs.Common.{◌≡◌, ◌-◌, ap, ◌∙◌, arith}
use Rattle.sdh_parity.specs.Pieces.{Position, scrambled_from}
use Rattle.sdh_parity.proofs.Cutting.{passed-piece}
use Rattle.sdh_parity.proofs.Mixing.{all-small}
use Rattle.sdh_parity.proofs.pieces.Scrambler.pass.Goals as goal

pub returns-clause-bytes : goal.returns-clause-bytes
returns-clause-bytes c =
    let s = c.self.inside in
    let clear : s.clear ≡ c.args.self.now.clear = ap (λ (p : Position). p.clear) c.self.view_is in
    let at : s.at ≡ c.args.self.now.at = ap (λ (p : Position). p.at) c.self.view_is in
    passed-piece s.clear s.at c.args.bytes.now c.pass-passed.new.bytes
    (omega (arith, clear, at, c.requires.behind)) c.pass-passed.auto.bytes c.pass-passed.ensures.bytes
    ∙ ap (λ (p : Position). scrambled_from p.clear p.at c.args.bytes.now) c.self.view_is

pub returns-clause-small : goal.returns-clause-small
returns-clause-small c =
    all-small c.args.bytes.now c.pass-passed.new.bytes (c.self.inside.at - c.self.inside.clear) c.pass-passed.ensures.bytes
    (λ i. omega (arith, c.type_inv.bytes i))
