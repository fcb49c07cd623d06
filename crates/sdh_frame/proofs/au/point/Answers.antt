use Rattle.std.proofs.Common.{◌≡◌, ap, refl, inl, inr, arith}
use Rattle.sdh_ringmap.specs.declared.terms.Rate.TheVariants.{Four, Sixteen}
use Rattle.sdh_ringmap.specs.Rates.{n_of}
use Rattle.sdh_frame.proofs.ByColumns.{column_small}
use Rattle.sdh_frame.proofs.Moves.{pointed}
use Rattle.sdh_frame.proofs.au.point.Goals as goal

pub returns-in-Four : goal.returns-in-Four
returns-in-Four c =
    let n : n_of c.args.rate ≡ 4 = ap n_of c.in-Four.is in
    rw c.in-Four.is (pointed Four c.args.au c.args.bytes.now c.put_pointer.new.bytes (omega arith) (omega arith)
    (omega arith) c.args.pointers.now (λ i lt. c.put_pointer.ensures.inside i (omega arith) (column_small 4 i (inl refl) lt)))

pub returns-in-Sixteen : goal.returns-in-Sixteen
returns-in-Sixteen c =
    let n : n_of c.args.rate ≡ 16 = ap n_of c.in-Sixteen.is in
    rw c.in-Sixteen.is (pointed Sixteen c.args.au c.args.bytes.now c.put_pointer-in-Sixteen.new.bytes (omega arith) (omega arith)
    (omega arith) c.args.pointers.now (λ i lt. c.put_pointer-in-Sixteen.ensures.inside i (omega arith)
    (column_small 16 i (inr refl) lt)))
