-- Each chunk gives its part of the run.
use Rattle.std.proofs.Common.{◌+◌, ◌-◌, ◌<◌, ◌++◌, length, take, drop, ap, sym, ◌∙◌, arith}
use Rattle.std.proofs.lemmas.List.{append-nil}
use Rattle.sdh_elastic.proofs.Chunks.{joined, next_run, no_more}
use Rattle.sdh_elastic.proofs.held.give.Goals as goal

pub loop-i-preserved : goal.loop-i-preserved
loop-i-preserved c =
    let e = c.give_part.ensures in
    let rest = joined (drop (c.loop-i.i + 1) c.args.chunks.now.items) in
    let within : c.loop-i.i < length c.args.chunks.now.items = omega (arith, c.loop-i-test.true, c.len-i-end.ensures.len) in
    record {
      room = e.room;
      run =
          ap (λ l. l ++ take c.give_part.result.1 (drop c.give_part.result.0 rest)) e.given
          ∙ ap (λ k. (c.loop-i.out ++ take c.loop-i.left (drop c.loop-i.skip c.chunk_at.result.now))
          ++ take k (drop c.give_part.result.0 rest)) e.left
          ∙ ap (λ k. (c.loop-i.out ++ take c.loop-i.left (drop c.loop-i.skip c.chunk_at.result.now))
          ++ take (c.loop-i.left - (length c.chunk_at.result.now - c.loop-i.skip)) (drop k rest)) e.skip
          ∙ next_run c.args.chunks.now.items c.loop-i.i c.loop-i.skip c.loop-i.left c.loop-i.out c.chunk_at.result.now within c.chunk_at.ensures.bytes
          ∙ c.loop-i.invariant.run;
    }

pub returns-after-loop-i : goal.returns-after-loop-i
returns-after-loop-i c =
    sym (no_more c.args.chunks.now.items c.loop-i.i c.loop-i.skip c.loop-i.left c.loop-i.out
    (omega (arith, c.loop-i-test.false, c.len-i-end.ensures.len))) ∙ c.loop-i.invariant.run

pub returns-then-left-eq0 : goal.returns-then-left-eq0
returns-then-left-eq0 c =
    let rest = drop c.loop-i.skip (joined (drop c.loop-i.i c.args.chunks.now.items)) in
    sym (append-nil c.loop-i.out) ∙ ap (λ k. c.loop-i.out ++ take k rest) (sym c.if-left-eq0.true) ∙ c.loop-i.invariant.run
