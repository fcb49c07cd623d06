use Rattle.std.proofs.Common.{◌-◌, [], length, get_or, ap, ◌∙◌, arith}
use Rattle.std.proofs.lemmas.List.{get_or_default}
use Rattle.sdh_interchange.specs.Taking.{Held}
use Rattle.sdh_interchange.proofs.Holding.{given_long}
use Rattle.sdh_interchange.proofs.taken.Taken.give.Goals as goal

pub returns-clause-full : goal.returns-clause-full
returns-clause-full c =
    let items = c.self.inside.payloads.items in
    let half = ap (λ (h : Held). h.half) c.self.view_is in
    let there =
    c.index_mut.ensures.value ∙ get_or_default items (c.args.au - 1) _ []
    (omega (
      arith,
      c.self.invariant.payloads,
      c.self.invariant.few,
      half,
      c.provide.ensures.held.rate,
      c.requires.first,
      c.requires.last,
    )) in
    ap length (c.swap.ensures.y_after ∙ there ∙ ap (λ (h : Held). get_or h.payloads (c.args.au - 1) []) c.self.view_is)
    ∙ given_long c.args.frame.now c.provide.new.self c.args.au c.provide.ensures.held c.requires.first c.requires.last c.provide.ensures.here
