use Rattle.std.proofs.Common.{◌-◌, ℕ, List, [], length, get_or, set, map, Bor, ap, ◌∙◌, inl, inr, arith}
use Rattle.std.proofs.lemmas.Bool.{cases_eq}
use Rattle.std.proofs.lemmas.List.{map-set, length-set, get_or-set_same, get_or-set_other}
use Rattle.sdh_interchange.proofs.own.Payloads.put.Goals as goal

pub invariant_of-self : goal.invariant_of-self
invariant_of-self c =
    let k : ℕ = c.args.k - 1 in
    let new = c.args.payload.now in
    let old : List (List ℕ) = map (λ (p : Bor (List ℕ)). p.now) c.self.inside.pieces in
    let is = map-set (λ (p : Bor (List ℕ)). p.now) c.self.inside.pieces k c.args.payload in
    record {
      many = ap length is ∙ length-set old k new ∙ c.self.invariant.many;
      each = λ a h. ap (λ l. length (get_or l a [])) is ∙ elim (cases_eq a k) [
        | inl e ↦ (ap (λ m. length (get_or (set old k new) m [])) e
            ∙ ap length (get_or-set_same old k new [] (omega (arith, c.self.invariant.many, c.requires.last, c.requires.first)))
            ∙ c.requires.payload)
        | inr d ↦ (ap length (get_or-set_other old k a new [] d) ∙ c.self.invariant.each a h)
      ];
    }

pub returns-clause-here : goal.returns-clause-here
returns-clause-here c =
    let k : ℕ = c.args.k - 1 in
    let old : List (List ℕ) = map (λ (p : Bor (List ℕ)). p.now) c.self.inside.pieces in
    ap (λ l. get_or l k []) (map-set (λ (p : Bor (List ℕ)). p.now) c.self.inside.pieces k c.args.payload)
    ∙ get_or-set_same old k c.args.payload.now [] (omega (arith, c.self.invariant.many, c.requires.last, c.requires.first))

pub returns-clause-others : goal.returns-clause-others
returns-clause-others c = λ m d.
    let k : ℕ = c.args.k - 1 in
    let old : List (List ℕ) = map (λ (p : Bor (List ℕ)). p.now) c.self.inside.pieces in
    ap (λ l. get_or l m []) (map-set (λ (p : Bor (List ℕ)). p.now) c.self.inside.pieces k c.args.payload)
    ∙ get_or-set_other old k m c.args.payload.now [] d ∙ ap (λ l. get_or l m []) c.self.view_is
