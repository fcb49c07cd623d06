use Rattle.std.proofs.Common.{◌≡◌, ◌≤◌, List, map, take}
use Rattle.std.specs.Prelude.{count_by}
use Rattle.sdh_restoration.specs.Applied.{highest}
use Rattle.sdh_verdicts.specs.declared.failure.Failure.{Failure}
use Rattle.sdh_verdicts.specs.Verdicts.{hops_of}
use Rattle.sdh_whatif_cli.specs.declared.counting.Fate.TheVariants.{Kept, Impaired, Over, Lost}
use Rattle.sdh_whatif_cli.specs.Counting.{AreSpansOf, same_fate, fate_of}
use Rattle.sdh_whatif_cli.proofs.counting.counts_of.Given as goal

abbrev pub invariant-loop-i : goal.invariant-loop-i
invariant-loop-i l = record {
  low : (l.counts.kept ≤ l.i) × (l.counts.impaired ≤ l.i) × (l.counts.over ≤ l.i) × (l.counts.lost ≤ l.i);
  kept : (case : List Failure) → AreSpansOf l.fn.plan case l.fn.spans
      → l.counts.kept ≡ count_by (λ c. same_fate Kept (fate_of l.fn.plan case c)) (take l.i l.fn.plan.circuits);
  impaired : (case : List Failure) → AreSpansOf l.fn.plan case l.fn.spans
      → l.counts.impaired ≡ count_by (λ c. same_fate Impaired (fate_of l.fn.plan case c)) (take l.i l.fn.plan.circuits);
  over : (case : List Failure) → AreSpansOf l.fn.plan case l.fn.spans
      → l.counts.over ≡ count_by (λ c. same_fate Over (fate_of l.fn.plan case c)) (take l.i l.fn.plan.circuits);
  lost : (case : List Failure) → AreSpansOf l.fn.plan case l.fn.spans
      → l.counts.lost ≡ count_by (λ c. same_fate Lost (fate_of l.fn.plan case c)) (take l.i l.fn.plan.circuits);
  hops : (case : List Failure) → AreSpansOf l.fn.plan case l.fn.spans
      → l.counts.hops ≡ highest (map (hops_of l.fn.plan case) (take l.i l.fn.plan.circuits));
}
