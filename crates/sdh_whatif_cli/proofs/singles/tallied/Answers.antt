use Rattle.std.proofs.Common.{◌≡◌, ◌∙◌, ◌∷◌, [], ℕ, false, List, sym, ap, length}
use Rattle.std.specs.Prelude.{if◌then◌else◌}
use Rattle.sdh_verdicts.specs.declared.failure.Failure.{Failure}
use Rattle.sdh_whatif_cli.specs.declared.counting.Counts.{Counts}
use Rattle.sdh_whatif_cli.specs.declared.counting.Fate.TheVariants.{Lost}
use Rattle.sdh_verdicts.specs.Failures.{failure_at}
use Rattle.sdh_verdicts.specs.Verdicts.{mends}
use Rattle.sdh_whatif_cli.specs.Counting.{AreSpansOf, fate_count}
use Rattle.sdh_whatif_cli.specs.Singles.{with_case, lost_by}
use Rattle.sdh_whatif_cli.proofs.Parts.{sides_long}
use Rattle.sdh_whatif_cli.proofs.singles.tallied.Goals as goal

pub mends-requires-clause-sides : goal.mends-requires-clause-sides
mends-requires-clause-sides c = sides_long c.args.plan.now c.args.sides.now c.requires.sides

pub spans-spans-requires-clause-sides : goal.spans-spans-requires-clause-sides
spans-spans-requires-clause-sides c = sides_long c.args.plan.now c.args.sides.now c.requires.sides

pub counts_of-requires : goal.counts_of-requires
counts_of-requires c = record {
  case = (
    c.failure_at-failure.result ∷ [],
    record {
      applied = c.spans-spans.ensures.applied c.args.plan.now c.requires.sides;
      troubled = c.spans-spans.ensures.troubled c.args.plan.now c.requires.sides;
    },
  );
}

pub returns-clause-is : goal.returns-clause-is
returns-clause-is c =
    let plan = c.args.plan.now in
    let number = c.args.number in
    let t = c.args.tally in
    let size : c.len.result ≡ length plan.nodes = c.len.ensures.len ∙ ap (λ (l : List ℕ). length l) c.map.ensures in
    let failure : c.failure_at-failure.result ≡ failure_at (length plan.nodes) number =
    c.failure_at-failure.ensures.is ∙ ap (λ n. failure_at n number) size in
    let are : AreSpansOf plan (c.failure_at-failure.result ∷ []) c.spans-spans.result = record {
      applied = c.spans-spans.ensures.applied plan c.requires.sides;
      troubled = c.spans-spans.ensures.troubled plan c.requires.sides;
    } in
    let lost : c.counts_of.result.lost ≡ lost_by plan number =
    ap (λ (k : Counts). k.lost) (c.counts_of.ensures (c.failure_at-failure.result ∷ []) are)
    ∙ ap (λ (f : Failure). fate_count plan (f ∷ []) Lost) failure in
    let told : mends plan (failure_at (length plan.nodes) number) ≡ false =
    ap (mends plan) (sym failure) ∙ sym (c.mends.ensures plan c.requires.sides) ∙ c.if-mends.false in
    c.with_case.ensures ∙ ap (λ k. with_case k t) lost ∙ ap (λ b. if b then t else with_case (lost_by plan number) t) (sym told)
