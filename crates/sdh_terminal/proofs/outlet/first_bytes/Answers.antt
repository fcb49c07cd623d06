use Rattle.std.proofs.Common.{◌≡◌, ◌∷◌, ◌++◌, [], length, get_or, sym, ◌∙◌, arith}
use Rattle.std.proofs.lemmas.List.{take_more, take_more_set, length-set}
use Rattle.sdh_basics.proofs.CellsLaws.{length-cells}
use Rattle.sdh_ringmap.specs.Rates.{n_of}
use Rattle.sdh_frame.specs.Aus.{payload_of}
use Rattle.sdh_terminal.proofs.outlet.first_bytes.Goals as goal

pub loop-k-preserved : goal.loop-k-preserved
unfolding payload_of
loop-k-preserved c =
    let payload = payload_of (n_of c.args.frame.now.rate) c.args.au c.args.frame.now.bytes in
    let bytes = c.loop-k.bytes in
    let k = c.loop-k.k in
    let byte = c.payload.result in
    let few = c.loop-k-test.true in
    let len = c.loop-k.invariant.len in
    let long : length payload ≡ 2349 = length-cells _ 2349 in
    let view = c.au-view.ensures in
    let is : byte ≡ get_or payload k 0 =
    c.payload.ensures ∙ (λ j. get_or (payload_of (n_of (view.frame j).rate) (view.au j) (view.frame j).bytes) k 0) in
    record {
      done = take_more_set bytes k byte (omega (arith, few, len)) ∙ (λ j. c.loop-k.invariant.done j ++ is j ∷ [])
          ∙ sym (take_more payload k 0 (omega (arith, few, long)));
      len = length-set bytes k byte ∙ len;
    }
