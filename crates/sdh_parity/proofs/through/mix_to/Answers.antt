use Rattle.std.proofs.Common.{◌+◌, ◌*◌, ◌/◌, ◌%◌, ap, refl, ◌∙◌, arith}
use Rattle.std.specs.Prelude.{if◌then◌else◌}
use Rattle.sdh_basics.specs.Parity.{bip8}
use Rattle.sdh_parity.specs.Parity.{every}
use Rattle.sdh_parity.proofs.Mixing.{none-copied, copied-at, copied-row}
use Rattle.sdh_parity.proofs.through.mix_to.Goals as goal

pub thirds-init : goal.thirds-init
thirds-init c = record {
  key = omega arith;
  copied =
      none-copied c.args.clear_after c.args.at _ c.args.from.now c.args.to.now _ _ _ refl c.no_sums-sums.ensures.a c.no_sums-sums.ensures.b
      c.no_sums-sums.ensures.c;
}

pub thirds-preserved : goal.thirds-preserved
thirds-preserved c =
    let one =
    copied-row c.args.clear_after c.args.at c.args.from.now c.thirds.to c.mix_row_to.new.to c.thirds.sums.a c.thirds.sums.b c.thirds.sums.c c.xor_sums-sums.result.a c.xor_sums-sums.result.b c.xor_sums-sums.result.c
    (3 * c.thirds.t) (c.thirds.k) (144 * c.thirds.t) (omega arith) c.thirds.invariant.copied c.mix_row_to.ensures.below c.mix_row_to.ensures.inside c.mix_row_to.ensures.small
    c.xor_sums-sums.ensures.longs c.mix_row_to.result.a c.mix_row_to.result.b c.mix_row_to.result.c c.xor_sums-sums.ensures.a c.xor_sums-sums.ensures.b c.xor_sums-sums.ensures.c c.mix_row_to.ensures.a c.mix_row_to.ensures.b c.mix_row_to.ensures.c in
    let two =
    copied-row c.args.clear_after c.args.at c.args.from.now c.mix_row_to.new.to c.mix_row_to-in-thirds.new.to c.xor_sums-sums.result.a c.xor_sums-sums.result.b c.xor_sums-sums.result.c c.xor_sums-sums-in-thirds.result.a c.xor_sums-sums-in-thirds.result.b c.xor_sums-sums-in-thirds.result.c
    (3 * c.thirds.t + 1) (c.thirds.k + 48) (144 * c.thirds.t + 48) (omega arith) one c.mix_row_to-in-thirds.ensures.below c.mix_row_to-in-thirds.ensures.inside c.mix_row_to-in-thirds.ensures.small
    c.xor_sums-sums-in-thirds.ensures.longs c.mix_row_to-in-thirds.result.a c.mix_row_to-in-thirds.result.b c.mix_row_to-in-thirds.result.c c.xor_sums-sums-in-thirds.ensures.a c.xor_sums-sums-in-thirds.ensures.b c.xor_sums-sums-in-thirds.ensures.c c.mix_row_to-in-thirds.ensures.a c.mix_row_to-in-thirds.ensures.b c.mix_row_to-in-thirds.ensures.c in
    let to =
    copied-at c.args.clear_after c.args.at c.args.from.now c.mix_row_to-in-thirds.new.to c.xor_sums-sums-in-thirds.result.a c.xor_sums-sums-in-thirds.result.b c.xor_sums-sums-in-thirds.result.c
    (3 * c.thirds.t + 1 + 1) (3 * c.thirds.t + 2) (c.thirds.k + 48 + 48) (c.thirds.k + 96) (omega arith) (ap (λ n. n % 1016) (omega arith)) two in
    let three =
    copied-row c.args.clear_after c.args.at c.args.from.now c.mix_row_to-in-thirds.new.to c.mix_row_to-in-thirds-2.new.to c.xor_sums-sums-in-thirds.result.a c.xor_sums-sums-in-thirds.result.b c.xor_sums-sums-in-thirds.result.c c.xor_sums-sums-in-thirds-2.result.a c.xor_sums-sums-in-thirds-2.result.b c.xor_sums-sums-in-thirds-2.result.c
    (3 * c.thirds.t + 2) (c.thirds.k + 96) (144 * c.thirds.t + 96) (omega arith) to c.mix_row_to-in-thirds-2.ensures.below c.mix_row_to-in-thirds-2.ensures.inside c.mix_row_to-in-thirds-2.ensures.small
    c.xor_sums-sums-in-thirds-2.ensures.longs c.mix_row_to-in-thirds-2.result.a c.mix_row_to-in-thirds-2.result.b c.mix_row_to-in-thirds-2.result.c c.xor_sums-sums-in-thirds-2.ensures.a c.xor_sums-sums-in-thirds-2.ensures.b c.xor_sums-sums-in-thirds-2.ensures.c c.mix_row_to-in-thirds-2.ensures.a c.mix_row_to-in-thirds-2.ensures.b c.mix_row_to-in-thirds-2.ensures.c in
    record {
      key = omega (arith, c.after_three-k.ensures);
      copied =
          copied-at c.args.clear_after c.args.at c.args.from.now c.mix_row_to-in-thirds-2.new.to c.xor_sums-sums-in-thirds-2.result.a c.xor_sums-sums-in-thirds-2.result.b c.xor_sums-sums-in-thirds-2.result.c
          (3 * c.thirds.t + 2 + 1) (3 * (c.thirds.t + 1)) (c.thirds.k + 96 + 48) (c.after_three-k.result) (omega arith)
          (omega (arith, c.after_three-k.ensures)) three;
    }

pub last-init : goal.last-init
last-init c = record {
  key = omega (arith, c.thirds.invariant.key);
  copied =
      copied-at c.args.clear_after c.args.at c.args.from.now c.thirds.to c.thirds.sums.a c.thirds.sums.b c.thirds.sums.c (3 * c.thirds.t) (3 * (c.args.rows / 3))
      (c.thirds.k) (c.thirds.k) (omega arith) refl c.thirds.invariant.copied;
}

pub last-preserved : goal.last-preserved
last-preserved c = record {
  key = omega (arith, c.last.invariant.key);
  copied =
      copied-row c.args.clear_after c.args.at c.args.from.now c.last.to c.mix_row_to-in-last.new.to c.last.sums.a c.last.sums.b c.last.sums.c c.xor_sums-sums-in-last.result.a c.xor_sums-sums-in-last.result.b c.xor_sums-sums-in-last.result.c
      (c.last.r) (c.last.k) (48 * c.last.r) (omega arith) c.last.invariant.copied c.mix_row_to-in-last.ensures.below c.mix_row_to-in-last.ensures.inside c.mix_row_to-in-last.ensures.small
      c.xor_sums-sums-in-last.ensures.longs c.mix_row_to-in-last.result.a c.mix_row_to-in-last.result.b c.mix_row_to-in-last.result.c c.xor_sums-sums-in-last.ensures.a c.xor_sums-sums-in-last.ensures.b c.xor_sums-sums-in-last.ensures.c c.mix_row_to-in-last.ensures.a c.mix_row_to-in-last.ensures.b c.mix_row_to-in-last.ensures.c;
}

pub returns-clause-bytes : goal.returns-clause-bytes
returns-clause-bytes c = λ i h. c.last.invariant.copied.keyed.done i (omega arith)

pub returns-clause-a : goal.returns-clause-a
returns-clause-a c = λ j h.
    c.last.invariant.copied.summed.first j h
    ∙ ap (λ n. bip8 (every j 48 n (if c.args.clear_after then c.last.to else c.args.from.now))) (omega arith)

pub returns-clause-b : goal.returns-clause-b
returns-clause-b c = λ j h.
    c.last.invariant.copied.summed.second j h
    ∙ ap (λ n. bip8 (every (16 + j) 48 n (if c.args.clear_after then c.last.to else c.args.from.now))) (omega arith)

pub returns-clause-c : goal.returns-clause-c
returns-clause-c c = λ j h.
    c.last.invariant.copied.summed.third j h
    ∙ ap (λ n. bip8 (every (32 + j) 48 n (if c.args.clear_after then c.last.to else c.args.from.now))) (omega arith)

pub returns-clause-longs : goal.returns-clause-longs
returns-clause-longs c = c.last.invariant.copied.summed.longs
