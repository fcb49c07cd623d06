use Rattle.std.proofs.Common.{◌≡◌, ℕ, ◌+◌, ◌-◌, ◌*◌, ◌/◌, ◌<◌, ◌≤◌, length, arith, refl, ◌∙◌}
use Rattle.sdh_basics.proofs.Parts.{length-part}
use Rattle.sdh_parity.proofs.Parts.{added, left}
use Rattle.sdh_parity.proofs.scrambler.add_sequence.Goals as goal

pub loop-b-preserved : goal.loop-b-preserved
loop-b-preserved c =
    let a : ℕ = c.loop-b.b * 1016 in
    let n : ℕ = a + 1016 - a in
    let room : a + n ≤ length c.loop-b.bytes = omega arith in
    let len : length c.add_part.new.part ≡ n = c.add_part.auto.part ∙ length-part a n c.loop-b.bytes room in
    record {
      done = λ k h. let lt : k < a + n =
          omega arith in added c.args.bytes.now c.loop-b.bytes c.add_part.new.part a n c.loop-b.b refl room len c.add_part.ensures c.loop-b.invariant.done c.loop-b.invariant.rest k lt;
      rest = λ k h. let ge : a + n ≤ k =
          omega arith in left c.args.bytes.now c.loop-b.bytes c.add_part.new.part a n room len c.loop-b.invariant.rest k ge;
    }

pub returns : goal.returns
returns c =
    let a : ℕ = length c.args.bytes.now / 1016 * 1016 in
    let n : ℕ = length c.loop-b.bytes - a in
    let room : a + n ≤ length c.loop-b.bytes = omega arith in
    let len : length c.add_part-2.new.part ≡ n = c.add_part-2.auto.part ∙ length-part a n c.loop-b.bytes room in
    let same : c.loop-b.b ≡ length c.args.bytes.now / 1016 = omega arith in
    λ k h. let lt : k < a + n = omega arith in
    added c.args.bytes.now c.loop-b.bytes c.add_part-2.new.part a n (length c.args.bytes.now / 1016) refl room len c.add_part-2.ensures
    (λ i g. let m : i < c.loop-b.b * 1016 = omega arith in c.loop-b.invariant.done i m)
    (λ i g. let m : c.loop-b.b * 1016 ≤ i = omega arith in c.loop-b.invariant.rest i m) k lt
