-- What is given and held then are the front and the rest of the bytes held and the chunk.
use Rattle.std.proofs.Common.{◌≡◌, ℕ, ◌+◌, ◌-◌, ◌++◌, ◌∷◌, [], length, take, drop, get_or, ap, sym, ◌∙◌}
use Rattle.std.proofs.lemmas.List.{drop-drop}
use Rattle.sdh_elastic.proofs.Chunks.{joined, renewed, long_after, kept_after}
use Rattle.sdh_elastic.proofs.held.Held.take_and_give.Goals as goal

pub returns-clause-given : goal.returns-clause-given
returns-clause-given c =
    let i = c.self.inside in
    let x = c.args.input.now in
    let chunks : c.renew-oldest.new.chunks.items ≡ drop 1 i.chunks.items ++ x ∷ [] = ap (λ b. b.items) c.renew-oldest.ensures.chunks in
    rw (← c.self.view_is) (
    c.give.ensures ∙ ap (λ cs. take c.args.count (drop (i.given - c.renew-oldest.result) (joined cs))) chunks
    ∙ ap (λ (n : ℕ). take c.args.count (drop (i.given - n) (joined (drop 1 i.chunks.items ++ x ∷ [])))) c.renew-oldest.ensures.oldest
    ∙ ap (take c.args.count) (renewed i.chunks.items i.given x c.self.invariant.2)
    )

pub returns-clause-left : goal.returns-clause-left
returns-clause-left c =
    let i = c.self.inside in
    let x = c.args.input.now in
    let chunks : c.renew-oldest.new.chunks.items ≡ drop 1 i.chunks.items ++ x ∷ [] = ap (λ b. b.items) c.renew-oldest.ensures.chunks in
    rw (← c.self.view_is) (
    ap (λ cs. drop (i.given - c.renew-oldest.result + c.args.count) (joined cs)) chunks
    ∙ ap (λ (n : ℕ). drop (i.given - n + c.args.count) (joined (drop 1 i.chunks.items ++ x ∷ []))) c.renew-oldest.ensures.oldest
    ∙ sym (drop-drop c.args.count (i.given - length (get_or i.chunks.items 0 [])) (joined (drop 1 i.chunks.items ++ x ∷ [])))
    ∙ ap (drop c.args.count) (renewed i.chunks.items i.given x c.self.invariant.2)
    )

pub invariant_of-self : goal.invariant_of-self
invariant_of-self c =
    let i = c.self.inside in
    let x = c.args.input.now in
    let n = c.args.count in
    let there = rw (← c.self.view_is) at c.requires.there in
    let left = rw (← c.self.view_is) at c.requires.left in
    rw (c.renew-oldest.ensures.chunks, c.renew-oldest.ensures.oldest) (
      c.self.invariant.0,
      long_after i.chunks.items i.given x i.len n c.self.invariant.2 c.self.invariant.1,
      kept_after i.chunks.items i.given x n c.self.invariant.2 c.requires.least c.requires.most there left,
    )
