use Rattle.std.proofs.Common.{◌≡◌, ◌∙◌, ◌++◌, ◌-◌, ◌*◌, ◌≤◌, ℕ, List, codes, decimal, length, sym, ap, arith, append_assoc}
use Rattle.sdh_verdicts.specs.declared.failure.Failure.{Failure}
use Rattle.sdh_verdicts.specs.Failures.{failure_at}
use Rattle.sdh_whatif_cli.specs.Lines.{failure_text}
use Rattle.sdh_whatif_cli.proofs.Named.{ring_text, own_text}
use Rattle.sdh_whatif_cli.proofs.names.put_digit.Goals as goal

pub returns-then-digit-nodes-clause-text : goal.returns-then-digit-nodes-clause-text
returns-then-digit-nodes-clause-text c =
    let nodes = c.args.map.now in
    let d = c.args.digit in
    let old = c.args.line.now in
    let size : c.len-nodes.result ≡ length nodes = c.len-nodes.ensures.len in
    let low : d ≤ 10 * length nodes = omega (arith, size, c.if-digit-nodes.true) in
    c.put_failure_name.ensures.text
    ∙ ap (λ (f : Failure). old ++ failure_text nodes f) (c.failure_at.ensures.is ∙ ap (λ n. failure_at n (d - 1)) size)
    ∙ ap (λ (t : List ℕ). old ++ t) (sym (ring_text nodes d low))

pub returns-else-digit-nodes-clause-text : goal.returns-else-digit-nodes-clause-text
returns-else-digit-nodes-clause-text c =
    let nodes = c.args.map.now in
    let d = c.args.digit in
    let old = c.args.line.now in
    let size : c.len-nodes.result ≡ length nodes = c.len-nodes.ensures.len in
    let number : d - 10 * c.len-nodes.result ≡ d - 10 * length nodes = ap (λ n. d - 10 * n) size in
    c.put_small.ensures.text ∙ ap (λ (l : List ℕ). l ++ decimal (d - 10 * c.len-nodes.result)) c.put.ensures
    ∙ append_assoc old (codes "own ") (decimal (d - 10 * c.len-nodes.result))
    ∙ ap (λ k. old ++ (codes "own " ++ decimal k)) number
    ∙ ap (λ (t : List ℕ). old ++ t) (sym (own_text nodes d (λ low. omega (arith, size, low, c.if-digit-nodes.false))))
