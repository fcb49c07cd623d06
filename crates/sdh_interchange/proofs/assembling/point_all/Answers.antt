use Rattle.std.proofs.Common.{◌≡◌, ◌+◌, [], length, get_or, refl, ap, ◌∙◌, arith}
use Rattle.sdh_frame.specs.Sizes.{Frame}
use Rattle.sdh_ringmap.specs.Rates.{n_of}
use Rattle.sdh_frame.specs.Aus.{with_pointers}
use Rattle.sdh_frame.proofs.AuProofs.{length-with_pointers}
use Rattle.sdh_interchange.proofs.Pointing.{pointed-none, pointed-more, pointed-all}
use Rattle.sdh_interchange.proofs.assembling.point_all.Goals as goal

pub loop-k-init : goal.loop-k-init
loop-k-init c = record {
  rate = refl;
  long = c.requires.long;
  done = λ i inside. pointed-none (n_of c.args.frame.now.rate) c.args.pointers.now i (get_or c.args.frame.now.bytes i 0);
}

pub loop-k-preserved : goal.loop-k-preserved
loop-k-preserved c =
    let rate = c.args.frame.now.rate in
    let frame = c.loop-k.frame in
    let k = c.loop-k.k in
    let ps = get_or c.args.pointers.now k [] in
    let bytes : c.put_pointers.new.self.bytes ≡ with_pointers (n_of rate) (k + 1) ps frame.bytes =
    ap (λ (f : Frame). f.bytes) c.put_pointers.ensures ∙ ap
    (λ r. with_pointers (n_of r) (k + 1) ps frame.bytes) c.loop-k.invariant.rate in
    record {
      rate = ap (λ (f : Frame). f.rate) c.put_pointers.ensures ∙ c.loop-k.invariant.rate;
      long = ap length bytes ∙ length-with_pointers rate frame.bytes c.loop-k.invariant.long (k + 1) ps;
      done =
          λ i inside. ap (λ l. get_or l i 0) bytes ∙ pointed-more rate c.args.pointers.now k frame.bytes i
          (get_or c.args.frame.now.bytes i 0) c.loop-k.invariant.long inside (c.loop-k.invariant.done i inside);
    }

pub returns-clause-pointed : goal.returns-clause-pointed
returns-clause-pointed c =
    λ i inside. c.loop-k.invariant.done i inside ∙ pointed-all c.args.frame.now.rate c.args.pointers.now c.loop-k.k i
    (get_or c.args.frame.now.bytes i 0) (omega (arith, c.requires.len))
