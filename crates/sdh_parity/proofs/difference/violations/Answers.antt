use Rattle.std.proofs.Common.{◌≡◌, ◌≤◌, ℕ, List, take, ap, ◌∙◌, arith, length}
use Rattle.std.proofs.lemmas.List.{take_all}
use Rattle.sdh_parity.specs.Violations.{violations_of}
use Rattle.sdh_parity.proofs.Differing.{violations_of-more}
use Rattle.sdh_parity.proofs.difference.violations.Goals as goal

whole : (xs ys : List ℕ) (i : ℕ) → length xs ≤ i → length ys ≤ i → violations_of (take i xs) (take i ys) ≡ violations_of xs ys
whole xs ys i hx hy = ap (λ zs. violations_of zs (take i ys)) (take_all i xs hx) ∙ ap (violations_of xs) (take_all i ys hy)

pub loop-i-preserved : goal.loop-i-preserved
loop-i-preserved c = record {
  counted =
      (let more = violations_of-more c.args.left.now c.args.right.now c.loop-i.i c.requires.same_length (omega arith) in omega
      (arith, c.differing_bits-count.ensures.bits));
  few = omega (arith, c.differing_bits-count.ensures.few);
}

pub returns : goal.returns
returns c = c.loop-i.invariant.counted ∙ whole c.args.left.now c.args.right.now c.loop-i.i (omega arith) (omega arith)
