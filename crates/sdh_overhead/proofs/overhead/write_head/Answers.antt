use Rattle.std.proofs.Common.{◌≢◌, ◌<◌, set, arith, get_or-set_same, get_or-set_other, ◌∙◌, length, refl}
use Rattle.sdh_overhead.specs.Overhead.{Added}
use Rattle.sdh_overhead.proofs.Heads.{row-first, row-second, row-fifth, row-pointers, row-other}
use Rattle.sdh_overhead.proofs.overhead.write_head.Goals as goal

pub returns-in-1 : goal.returns-in-1
returns-in-1 c =
    let added : Added = record { k1 = c.args.k1; k2 = c.args.k2; b1 = c.args.b1; b2 = c.args.b2.now } in
    rw c.in-1.is (row-first added c.args.n c.requires.some c.args.head.now c.write_framing.new.head c.write_framing.ensures.a1 c.write_framing.ensures.a2 c.write_framing.ensures.j0 c.write_framing.ensures.fixed)

pub returns-in-2 : goal.returns-in-2
returns-in-2 c =
    let added : Added = record { k1 = c.args.k1; k2 = c.args.k2; b1 = c.args.b1; b2 = c.args.b2.now } in
    let filled = c.fill_part.new.bytes in
    let long : 0 < length filled = omega arith in
    rw c.in-2.is (row-second added c.args.n c.requires.some c.args.head.now (set filled 0 c.args.b1)
    (get_or-set_same filled 0 c.args.b1 0 long)
    (λ i some h. (let other : i ≢ 0 = λ e. omega arith in get_or-set_other filled 0 i c.args.b1 0 other
    ∙ c.fill_part.ensures.inside i (omega arith) h)))

pub returns-in-4 : goal.returns-in-4
returns-in-4 c =
    let added : Added = record { k1 = c.args.k1; k2 = c.args.k2; b1 = c.args.b1; b2 = c.args.b2.now } in
    rw c.in-4.is (row-pointers added c.args.n c.requires.some c.args.head.now c.args.head.now (λ i h. refl))

pub returns-in-5 : goal.returns-in-5
returns-in-5 c =
    let added : Added = record { k1 = c.args.k1; k2 = c.args.k2; b1 = c.args.b1; b2 = c.args.b2.now } in
    let e = c.write_multiplex.ensures in
    rw c.in-5.is (row-fifth added c.args.n c.requires.some c.args.head.now c.write_multiplex.new.head e.b2 e.k1 e.k2 e.low e.high)

pub returns-in_default : goal.returns-in_default
returns-in_default c =
    let added : Added = record { k1 = c.args.k1; k2 = c.args.k2; b1 = c.args.b1; b2 = c.args.b2.now } in
    let r1 : c.args.row ≢ 1 = λ e. omega arith in
    let r2 : c.args.row ≢ 2 = λ e. omega arith in
    let r4 : c.args.row ≢ 4 = λ e. omega arith in
    let r5 : c.args.row ≢ 5 = λ e. omega arith in
    row-other added c.args.n c.requires.some c.args.head.now c.fill_part-in_default.new.bytes c.args.row r1 r2 r4 r5
    (λ i h. c.fill_part-in_default.ensures.inside i (omega arith) h)
