use Rattle.std.proofs.Common.{◌≡◌, ◌∙◌, ◌*◌, ◌<◌, Some, length, sym, ap, arith}
use Rattle.std.specs.Str.{bytes_eq}
use Rattle.sdh_verdicts.specs.declared.failure.Failure.{Failure}
use Rattle.sdh_verdicts.specs.Failures.{failure_at}
use Rattle.sdh_whatif_cli.specs.Lines.{failure_text}
use Rattle.sdh_whatif_cli.proofs.Naming.{named_here, named_later, named_none}
use Rattle.sdh_whatif_cli.proofs.own.failure_named.Goals as goal

pub returns-then-is_named-clause-is : goal.returns-then-is_named-clause-is
returns-then-is_named-clause-is c =
    let nodes = c.args.map.now in
    let i = c.loop-number.number in
    let size : c.len-nodes.result ≡ length nodes = c.len-nodes.ensures.len in
    let low : i < 10 * length nodes = omega (arith, size, c.loop-number-test.true) in
    let one : c.failure_at-failure.result ≡ failure_at (length nodes) i = c.failure_at-failure.ensures.is ∙ ap (λ n. failure_at n i) size in
    ap (λ (f : Failure). Some f) one
    ∙ sym (named_here nodes c.args.name.now i low
    (ap (λ (f : Failure). bytes_eq (failure_text nodes f) c.args.name.now) (sym one) ∙ sym c.is_named.ensures ∙ c.if-is_named.true)
    c.loop-number.invariant.others)

pub loop-number-preserved : goal.loop-number-preserved
loop-number-preserved c =
    let nodes = c.args.map.now in
    let i = c.loop-number.number in
    let size : c.len-nodes.result ≡ length nodes = c.len-nodes.ensures.len in
    let low : i < 10 * length nodes = omega (arith, size, c.loop-number-test.true) in
    let one : c.failure_at-failure.result ≡ failure_at (length nodes) i = c.failure_at-failure.ensures.is ∙ ap (λ n. failure_at n i) size in
    record {
      others = named_later nodes c.args.name.now i low
          (ap (λ (f : Failure). bytes_eq (failure_text nodes f) c.args.name.now) (sym one) ∙ sym c.is_named.ensures ∙ c.if-is_named.false)
          c.loop-number.invariant.others;
    }

pub returns-clause-is : goal.returns-clause-is
returns-clause-is c =
    let nodes = c.args.map.now in
    let size : c.len-nodes.result ≡ length nodes = c.len-nodes.ensures.len in
    sym (named_none nodes c.args.name.now
    (λ k d less. c.loop-number.invariant.others k d (omega (arith, less, size, c.loop-number-test.false))))
