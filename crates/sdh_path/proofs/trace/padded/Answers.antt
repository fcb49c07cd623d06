use Rattle.std.proofs.Common.{◌≡◌, ◌%◌, get_or, sym, ap, ◌∙◌, arith}
use Rattle.std.proofs.lemmas.List.{ext_get_or}
use Rattle.sdh_payload.specs.Stream.{padded}
use Rattle.sdh_path.proofs.Tracing.{length-padded}
use Rattle.sdh_path.proofs.trace.padded.Goals as goal

pub returns : goal.returns
returns c =
    let trace = c.args.trace.now in
    let all = c.loop-i.invariant in
    ext_get_or 0 _ (padded trace) (all.enough ∙ sym (length-padded trace c.requires))
    (λ k h. let place : k % 64 ≡ k = omega (arith, all.enough) in all.same k (omega (arith, all.enough))
    ∙ ap (λ j. get_or (padded trace) j 0) place)
