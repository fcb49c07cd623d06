use Rattle.std.proofs.Common.{◌≡◌, ◌<◌, ◌∙◌, ℕ, List, sym, ap, length, map, arith}
use Rattle.std.specs.Prelude.{count_by}
use Rattle.std.proofs.lemmas.List.{take_all}
use Rattle.std.proofs.lemmas.Option.{get_or_from_slice_get}
use Rattle.sdh_circuits.specs.Provisioned.{Provisioned}
use Rattle.sdh_circuits.specs.Provisioning.{Provisioning}
use Rattle.sdh_restoration.specs.Applied.{highest}
use Rattle.sdh_restoration.proofs.Highest.{highest_step}
use Rattle.sdh_verdicts.specs.Verdicts.{hops_of}
use Rattle.sdh_whatif_cli.specs.declared.counting.Counts.{Counts}
use Rattle.sdh_whatif_cli.specs.declared.counting.Fate.TheVariants.{Kept, Impaired, Over, Lost}
use Rattle.sdh_whatif_cli.specs.Counting.{same_fate, fate_of, fate_count, longest_of}
use Rattle.sdh_whatif_cli.proofs.Parts.{there, count_next}
use Rattle.sdh_whatif_cli.proofs.counting.counts_of.Goals as goal

pub told_hops-hops-requires : goal.told_hops-hops-requires
told_hops-hops-requires c =
    let plan = c.args.plan.now in
    let size : c.len-i-end.result ≡ length plan.circuits =
    c.len-i-end.ensures.len ∙ ap (λ (v : Provisioning). length v.circuits) c.circuits.ensures in
    record { number = omega (arith, size, c.loop-i-test.true); case = (c.requires.case.0, c.requires.case.1.applied) }

pub loop-i-preserved : goal.loop-i-preserved
loop-i-preserved c =
    let plan = c.args.plan.now in
    let i = c.loop-i.i in
    let size : c.len-i-end.result ≡ length plan.circuits =
    c.len-i-end.ensures.len ∙ ap (λ (v : Provisioning). length v.circuits) c.circuits.ensures in
    let low : i < length plan.circuits = omega (arith, size, c.loop-i-test.true) in
    let here = there plan.circuits i low in
    let was = c.loop-i.counts in
    let now = c.with_fate-counts.result in
    record {
      low = (
        omega (arith, c.with_fate-counts.ensures.low, c.loop-i.invariant.low),
        omega (arith, c.with_fate-counts.ensures.low, c.loop-i.invariant.low),
        omega (arith, c.with_fate-counts.ensures.low, c.loop-i.invariant.low),
        omega (arith, c.with_fate-counts.ensures.low, c.loop-i.invariant.low),
      );
      kept = λ case are.
          count_next (λ k. same_fate Kept (fate_of plan case k)) plan.circuits i here.0 (same_fate Kept c.fate_of-fate.result) was.kept now.kept low
          here.1 (ap (same_fate Kept) (c.fate_of-fate.ensures case here.0 are here.1)) (c.loop-i.invariant.kept case are) c.with_fate-counts.ensures.kept;
      impaired = λ case are.
          count_next (λ k. same_fate Impaired (fate_of plan case k)) plan.circuits i here.0 (same_fate Impaired c.fate_of-fate.result) was.impaired now.impaired low
          here.1 (ap (same_fate Impaired) (c.fate_of-fate.ensures case here.0 are here.1)) (c.loop-i.invariant.impaired case are) c.with_fate-counts.ensures.impaired;
      over = λ case are.
          count_next (λ k. same_fate Over (fate_of plan case k)) plan.circuits i here.0 (same_fate Over c.fate_of-fate.result) was.over now.over low
          here.1 (ap (same_fate Over) (c.fate_of-fate.ensures case here.0 are here.1)) (c.loop-i.invariant.over case are) c.with_fate-counts.ensures.over;
      lost = λ case are.
          count_next (λ k. same_fate Lost (fate_of plan case k)) plan.circuits i here.0 (same_fate Lost c.fate_of-fate.result) was.lost now.lost low
          here.1 (ap (same_fate Lost) (c.fate_of-fate.ensures case here.0 are here.1)) (c.loop-i.invariant.lost case are) c.with_fate-counts.ensures.lost;
      hops = λ case are.
          highest_step (hops_of plan case) plan.circuits i here.0 c.told_hops-hops.result was.hops now.hops low
          (c.told_hops-hops.ensures case here.0 are.applied here.1
          ∙ ap (hops_of plan case) (sym (get_or_from_slice_get plan.circuits i here.0 here.0 here.1)))
          (c.loop-i.invariant.hops case are) c.with_fate-counts.ensures.hops;
    }

pub returns : goal.returns
returns c = λ case are. (
    let plan = c.args.plan.now in
    let size : c.len-i-end.result ≡ length plan.circuits =
    c.len-i-end.ensures.len ∙ ap (λ (v : Provisioning). length v.circuits) c.circuits.ensures in
    let all = take_all c.loop-i.i plan.circuits (omega (arith, size, c.loop-i-test.false)) in
    let of : ℕ → ℕ → ℕ → ℕ → ℕ → Counts =
    λ k i o l h. record { kept = k; impaired = i; over = o; lost = l; hops = h } in
    let was = c.loop-i.counts in
    let kept : was.kept ≡ fate_count plan case Kept =
    c.loop-i.invariant.kept case are ∙ ap (count_by (λ k. same_fate Kept (fate_of plan case k))) all in
    let impaired : was.impaired ≡ fate_count plan case Impaired =
    c.loop-i.invariant.impaired case are ∙ ap (count_by (λ k. same_fate Impaired (fate_of plan case k))) all in
    let over : was.over ≡ fate_count plan case Over =
    c.loop-i.invariant.over case are ∙ ap (count_by (λ k. same_fate Over (fate_of plan case k))) all in
    let lost : was.lost ≡ fate_count plan case Lost =
    c.loop-i.invariant.lost case are ∙ ap (count_by (λ k. same_fate Lost (fate_of plan case k))) all in
    let hops : was.hops ≡ longest_of plan case =
    c.loop-i.invariant.hops case are ∙ ap (λ (cs : List Provisioned). highest (map (hops_of plan case) cs)) all in
    ap (λ x. of x was.impaired was.over was.lost was.hops) kept
    ∙ ap (λ x. of (fate_count plan case Kept) x was.over was.lost was.hops) impaired
    ∙ ap (λ x. of (fate_count plan case Kept) (fate_count plan case Impaired) x was.lost was.hops) over
    ∙ ap (λ x. of (fate_count plan case Kept) (fate_count plan case Impaired) (fate_count plan case Over) x was.hops) lost
    ∙ ap (of (fate_count plan case Kept) (fate_count plan case Impaired) (fate_count plan case Over) (fate_count plan case Lost)) hops)
