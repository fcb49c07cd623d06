use Rattle.std.proofs.Common.{ap, ap₂, ◌∙◌, subst, List, ℕ, ◌++◌, append_assoc, take-append-drop}
use Rattle.sdh_path.specs.Kept.{IsTallyOf}
use Rattle.sdh_path.proofs.watch.tally_with.Goals as goal

pub returns-then-goes_on-clause-more : goal.returns-then-goes_on-clause-more
returns-then-goes_on-clause-more c = λ e run is.
    let joined =
    ap₂ (λ (a b : List ℕ). a ++ b) c.split_at.ensures.front c.split_at.ensures.back ∙ take-append-drop c.args.start c.args.bytes.now in
    subst (λ (l : List ℕ). IsTallyOf l c.with-then-goes_on.result) (append_assoc run _ _ ∙ ap (λ (l : List ℕ). run ++ l) joined)
    (c.with-then-goes_on.ensures.counts _ (c.with.ensures.counts run is))
