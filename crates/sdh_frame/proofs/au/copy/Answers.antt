use Rattle.std.proofs.Common.{◌≡◌, ap, refl, inl, inr, arith}
use Rattle.sdh_ringmap.specs.declared.terms.Rate.TheVariants.{Four, Sixteen}
use Rattle.sdh_ringmap.specs.Rates.{n_of}
use Rattle.sdh_frame.proofs.ByColumns.{column_small}
use Rattle.sdh_frame.proofs.Moves.{copied}
use Rattle.sdh_frame.proofs.au.copy.Goals as goal

pub returns-in-Four : goal.returns-in-Four
returns-in-Four c =
    let n : n_of c.args.rate ≡ 4 = ap n_of c.in-Four.is in
    rw c.in-Four.is (copied Four c.args.to c.args.bytes.now c.copy_rows.new.bytes (omega arith) (omega arith)
    (omega arith) c.args.from c.args.source.now c.requires.from_low (omega arith)
    (λ i lt. c.copy_rows.ensures.inside i (omega arith) (column_small 4 i (inl refl) lt)))

pub returns-in-Sixteen : goal.returns-in-Sixteen
returns-in-Sixteen c =
    let n : n_of c.args.rate ≡ 16 = ap n_of c.in-Sixteen.is in
    rw c.in-Sixteen.is (copied Sixteen c.args.to c.args.bytes.now c.copy_rows-in-Sixteen.new.bytes (omega arith) (omega arith)
    (omega arith) c.args.from c.args.source.now c.requires.from_low (omega arith)
    (λ i lt. c.copy_rows-in-Sixteen.ensures.inside i (omega arith) (column_small 16 i (inr refl) lt)))
