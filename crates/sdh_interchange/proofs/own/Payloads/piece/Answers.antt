use Rattle.std.proofs.Common.{ℕ, List, Bor, [], length, sym, ap, ◌∙◌, arith}
use Rattle.std.proofs.lemmas.List.{get_or-map, length-map}
use Rattle.sdh_interchange.proofs.own.Payloads.piece.Goals as goal

pub returns-clause-full : goal.returns-clause-full
returns-clause-full c =
    ap length (sym (get_or-map _ c.self.inside.pieces c.args.a _ []
    (omega (arith, c.requires, c.self.invariant.many, length-map c.self.inside.pieces (λ (p : Bor (List ℕ)). p.now)))))
    ∙ c.self.invariant.each c.args.a c.requires
