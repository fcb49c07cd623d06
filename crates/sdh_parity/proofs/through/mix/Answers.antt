use Rattle.std.proofs.Common.{◌+◌, ◌*◌, ◌/◌, ◌%◌, ap, refl, ◌∙◌, arith}
use Rattle.std.specs.Prelude.{if◌then◌else◌}
use Rattle.sdh_basics.specs.Parity.{bip8}
use Rattle.sdh_parity.specs.Parity.{every}
use Rattle.sdh_parity.proofs.Mixing.{none-mixed, mixed-at, mixed-next}
use Rattle.sdh_parity.proofs.through.mix.Goals as goal

pub mix_row-sums-requires-clause-sums : goal.mix_row-sums-requires-clause-sums
mix_row-sums-requires-clause-sums c = c.thirds.invariant.mixed.copied.summed.longs

pub mix_row-sums-requires-in-last-clause-sums : goal.mix_row-sums-requires-in-last-clause-sums
mix_row-sums-requires-in-last-clause-sums c = c.last.invariant.mixed.copied.summed.longs

pub thirds-init : goal.thirds-init
thirds-init c = record {
  key = omega arith;
  mixed =
      none-mixed c.args.clear_after c.args.at _ c.args.bytes.now _ _ _ refl c.no_sums-sums.ensures.a c.no_sums-sums.ensures.b c.no_sums-sums.ensures.c;
}

pub thirds-preserved : goal.thirds-preserved
thirds-preserved c =
    let one =
    mixed-next c.args.clear_after c.args.at c.args.bytes.now c.thirds.bytes c.mix_row-sums.new.bytes c.thirds.sums.a c.thirds.sums.b c.thirds.sums.c c.mix_row-sums.result.a c.mix_row-sums.result.b c.mix_row-sums.result.c
    (3 * c.thirds.t) (c.thirds.k) (144 * c.thirds.t) (omega arith) c.thirds.invariant.mixed c.mix_row-sums.ensures.below c.mix_row-sums.ensures.inside c.mix_row-sums.ensures.above c.mix_row-sums.ensures.small c.mix_row-sums.ensures.longs
    c.mix_row-sums.ensures.a c.mix_row-sums.ensures.b c.mix_row-sums.ensures.c in
    let two =
    mixed-next c.args.clear_after c.args.at c.args.bytes.now c.mix_row-sums.new.bytes c.mix_row-sums-in-thirds.new.bytes c.mix_row-sums.result.a c.mix_row-sums.result.b c.mix_row-sums.result.c c.mix_row-sums-in-thirds.result.a c.mix_row-sums-in-thirds.result.b c.mix_row-sums-in-thirds.result.c
    (3 * c.thirds.t + 1) (c.thirds.k + 48) (144 * c.thirds.t + 48) (omega arith) one c.mix_row-sums-in-thirds.ensures.below c.mix_row-sums-in-thirds.ensures.inside c.mix_row-sums-in-thirds.ensures.above c.mix_row-sums-in-thirds.ensures.small c.mix_row-sums-in-thirds.ensures.longs
    c.mix_row-sums-in-thirds.ensures.a c.mix_row-sums-in-thirds.ensures.b c.mix_row-sums-in-thirds.ensures.c in
    let to =
    mixed-at c.args.clear_after c.args.at c.args.bytes.now c.mix_row-sums-in-thirds.new.bytes c.mix_row-sums-in-thirds.result.a c.mix_row-sums-in-thirds.result.b c.mix_row-sums-in-thirds.result.c (3 * c.thirds.t + 1 + 1) (3 * c.thirds.t + 2) (c.thirds.k + 48 + 48) (c.thirds.k + 96) (omega arith) (ap (λ n. n % 1016) (omega arith)) two in
    let three =
    mixed-next c.args.clear_after c.args.at c.args.bytes.now c.mix_row-sums-in-thirds.new.bytes c.mix_row-sums-in-thirds-2.new.bytes c.mix_row-sums-in-thirds.result.a c.mix_row-sums-in-thirds.result.b c.mix_row-sums-in-thirds.result.c c.mix_row-sums-in-thirds-2.result.a c.mix_row-sums-in-thirds-2.result.b c.mix_row-sums-in-thirds-2.result.c
    (3 * c.thirds.t + 2) (c.thirds.k + 96) (144 * c.thirds.t + 96) (omega arith) to c.mix_row-sums-in-thirds-2.ensures.below c.mix_row-sums-in-thirds-2.ensures.inside c.mix_row-sums-in-thirds-2.ensures.above c.mix_row-sums-in-thirds-2.ensures.small c.mix_row-sums-in-thirds-2.ensures.longs
    c.mix_row-sums-in-thirds-2.ensures.a c.mix_row-sums-in-thirds-2.ensures.b c.mix_row-sums-in-thirds-2.ensures.c in
    record {
      key = omega (arith, c.after_three-k.ensures);
      mixed =
          mixed-at c.args.clear_after c.args.at c.args.bytes.now c.mix_row-sums-in-thirds-2.new.bytes c.mix_row-sums-in-thirds-2.result.a c.mix_row-sums-in-thirds-2.result.b c.mix_row-sums-in-thirds-2.result.c (3 * c.thirds.t + 2 + 1) (3 * (c.thirds.t + 1)) (c.thirds.k + 96 + 48) (c.after_three-k.result) (omega arith) (omega (arith, c.after_three-k.ensures)) three;
    }

pub last-init : goal.last-init
last-init c = record {
  key = omega (arith, c.thirds.invariant.key);
  mixed =
      mixed-at c.args.clear_after c.args.at c.args.bytes.now c.thirds.bytes c.thirds.sums.a c.thirds.sums.b c.thirds.sums.c (3 * c.thirds.t) (3 * (c.args.rows / 3)) (c.thirds.k) (c.thirds.k) (omega arith) (refl) c.thirds.invariant.mixed;
}

pub last-preserved : goal.last-preserved
last-preserved c = record {
  key = omega (arith, c.last.invariant.key);
  mixed =
      mixed-next c.args.clear_after c.args.at c.args.bytes.now c.last.bytes c.mix_row-sums-in-last.new.bytes c.last.sums.a c.last.sums.b c.last.sums.c c.mix_row-sums-in-last.result.a c.mix_row-sums-in-last.result.b c.mix_row-sums-in-last.result.c
      (c.last.r) (c.last.k) (48 * c.last.r) (omega arith) c.last.invariant.mixed c.mix_row-sums-in-last.ensures.below c.mix_row-sums-in-last.ensures.inside c.mix_row-sums-in-last.ensures.above c.mix_row-sums-in-last.ensures.small c.mix_row-sums-in-last.ensures.longs
      c.mix_row-sums-in-last.ensures.a c.mix_row-sums-in-last.ensures.b c.mix_row-sums-in-last.ensures.c;
}

pub returns-clause-bytes : goal.returns-clause-bytes
returns-clause-bytes c = λ i h. c.last.invariant.mixed.copied.keyed.done i (omega arith)

pub returns-clause-a : goal.returns-clause-a
returns-clause-a c = λ j h.
    c.last.invariant.mixed.copied.summed.first j h
    ∙ ap (λ n. bip8 (every j 48 n (if c.args.clear_after then c.last.bytes else c.args.bytes.now))) (omega arith)

pub returns-clause-b : goal.returns-clause-b
returns-clause-b c = λ j h.
    c.last.invariant.mixed.copied.summed.second j h
    ∙ ap (λ n. bip8 (every (16 + j) 48 n (if c.args.clear_after then c.last.bytes else c.args.bytes.now))) (omega arith)

pub returns-clause-c : goal.returns-clause-c
returns-clause-c c = λ j h.
    c.last.invariant.mixed.copied.summed.third j h
    ∙ ap (λ n. bip8 (every (32 + j) 48 n (if c.args.clear_after then c.last.bytes else c.args.bytes.now))) (omega arith)

pub returns-clause-longs : goal.returns-clause-longs
returns-clause-longs c = c.last.invariant.mixed.copied.summed.longs
