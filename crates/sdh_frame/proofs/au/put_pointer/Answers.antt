use Rattle.std.proofs.Common.{◌≡◌, ℕ, ◌+◌, ◌*◌, ◌-◌, ◌/◌, ◌%◌, ◌<◌, inl, inr, length, get_or, set, refl, ap, sym, arith}
use Rattle.sdh_frame.specs.Aus.{is_pointer}
use Rattle.sdh_frame.proofs.ByColumns.{column_of, front_is_none, pointer_is, none_written, further_written, one_written}
use Rattle.sdh_frame.proofs.au.put_pointer.Goals as goal

pub loop-p-init : goal.loop-p-init
loop-p-init g c =
    none_written g.row.N (is_pointer g.row.N c.args.au) (λ i. get_or c.args.pointers.now (i % (270 * g.row.N) / g.row.N) 0) 0
    (810 + 0) c.args.bytes.now (λ i low high. front_is_none g.row.N c.args.au i c.requires.rate (inl (omega arith)))

pub loop-p-preserved : goal.loop-p-preserved
loop-p-preserved g c =
    let n = g.row.N in
    let p = c.loop-p.p in
    let mid = c.loop-p.bytes in
    let value = λ (i : ℕ). get_or c.args.pointers.now (i % (270 * n) / n) 0 in
    let w : ℕ = c.byte_of-i.result - 1 + c.args.au in
    let v = get_or c.args.pointers.now p 0 in
    let small : p < 9 = omega arith in
    let place : w + 1 ≡ n * (810 + p) + c.args.au = omega (arith, c.byte_of-i.ensures.place, c.byte_of-i.ensures.some) in
    let inside : w < length mid = omega (arith, c.byte_of-i.ensures.within, c.byte_of-i.ensures.some, c.requires.high) in
    let turn : w % (270 * n) / n ≡ p =
    (pointer_is n c.args.au p w c.requires.rate small (column_of n
    (810 + p) c.args.au w c.requires.rate c.requires.low c.requires.high place)).1 in
    further_written n (is_pointer n c.args.au) value 0 (810 + p) (810 + p + 1) (810 + (p + 1)) c.args.bytes.now mid (set mid w v)
    (omega arith) (omega arith) (omega arith) c.loop-p.invariant
    (one_written n (is_pointer n c.args.au) value (810 + p) c.args.au w v mid c.requires.rate c.requires.low c.requires.high
    (λ i e. (pointer_is n c.args.au p i c.requires.rate small e).0) place inside (ap (λ k. get_or c.args.pointers.now k 0) (sym turn)))

pub returns : goal.returns
returns g c =
    let n = g.row.N in
    let value = λ (i : ℕ). get_or c.args.pointers.now (i % (270 * n) / n) 0 in
    further_written n (is_pointer n c.args.au) value 0 (810 + c.loop-p.p) 2430 2430 c.args.bytes.now c.loop-p.bytes c.loop-p.bytes
    (omega arith) (omega arith) refl c.loop-p.invariant
    (none_written n (is_pointer n c.args.au) value (810 + c.loop-p.p) 2430 c.loop-p.bytes
    (λ i low high. front_is_none n c.args.au i c.requires.rate (inr (omega arith))))
