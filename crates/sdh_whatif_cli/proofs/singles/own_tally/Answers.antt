use Rattle.std.specs.Prelude.{if◌then◌else◌, ◌==◌}
use Rattle.std.proofs.Common.{◌≡◌, ◌∙◌, ◌+◌, ◌≤◌, Bool, true, false, [], ℕ, List, All, suc, get_or, length, sym, ap, subst, arith}
use Rattle.sdh_verdicts.specs.declared.failure.Failure.{Failure}
use Rattle.sdh_verdicts.specs.Failures.{IsFailureIn}
use Rattle.sdh_whatif_cli.specs.declared.counting.Counts.{Counts}
use Rattle.sdh_whatif_cli.specs.declared.counting.Fate.TheVariants.{Lost}
use Rattle.sdh_whatif_cli.specs.Counting.{AreSpansOf, fate_count}
use Rattle.sdh_whatif_cli.specs.Singles.{with_case, own_tally}
use Rattle.sdh_whatif_cli.specs.Cases.{worst_last}
use Rattle.sdh_whatif_cli.proofs.Named.{own_within}
use Rattle.sdh_whatif_cli.proofs.Severe.{all_kept}
use Rattle.sdh_whatif_cli.proofs.Parts.{sides_long}
use Rattle.sdh_whatif_cli.proofs.singles.own_tally.Goals as goal

-- a case more is one in which circuits are lost, or isn't
one_more : (none : Bool) → (if none then 0 else 1) ≤ 1
one_more true = omega arith
one_more false = omega arith

pub spans-spans-requires-clause-sides : goal.spans-spans-requires-clause-sides
spans-spans-requires-clause-sides c = sides_long c.args.scene.now.plan.now c.args.scene.now.sides.now c.requires.scene.sides

-- the failures in one of the user's own are failures of the ring
pub spans-spans-requires-clause-case : goal.spans-spans-requires-clause-case
spans-spans-requires-clause-case c =
    let scene = c.args.scene.now in
    subst (All (IsFailureIn (length scene.sides.now.map.now)))
    (sym (c.as_slice.ensures ∙ c.worst_last-case.ensures ∙ ap (λ (fs : List Failure). worst_last fs) c.list.ensures))
    (subst (λ (l : List ℕ). All (IsFailureIn (length l)) (worst_last (get_or scene.own.now c.loop-k.k []))) (sym c.requires.scene.sides.nodes)
    (all_kept (IsFailureIn (length scene.plan.now.nodes)) (get_or scene.own.now c.loop-k.k [])
    (own_within (length scene.plan.now.nodes) scene.own.now c.loop-k.k c.requires.scene.own)))

pub counts_of-requires : goal.counts_of-requires
counts_of-requires c = record {
  case = (
    c.as_slice.result.now,
    record {
      applied = c.spans-spans.ensures.applied c.args.scene.now.plan.now c.requires.scene.sides;
      troubled = c.spans-spans.ensures.troubled c.args.scene.now.plan.now c.requires.scene.sides;
    },
  );
}

pub with_case-tally-requires : goal.with_case-tally-requires
with_case-tally-requires c = record {
  few = (
    omega (arith, c.loop-k.invariant.cases, c.loop-k-test.true, c.len-k-end.ensures, c.requires.scene.own.few),
    omega (arith, c.loop-k.invariant.losing, c.loop-k-test.true, c.len-k-end.ensures, c.requires.scene.own.few),
  );
}

pub loop-k-preserved : goal.loop-k-preserved
loop-k-preserved c =
    let plan = c.args.scene.now.plan.now in
    let own = c.args.scene.now.own.now in
    let k = c.loop-k.k in
    let next : suc k ≡ k + 1 = omega arith in
    let are : AreSpansOf plan c.as_slice.result.now c.spans-spans.result = record {
      applied = c.spans-spans.ensures.applied plan c.requires.scene.sides;
      troubled = c.spans-spans.ensures.troubled plan c.requires.scene.sides;
    } in
    let lost : c.counts_of.result.lost ≡ fate_count plan (worst_last (get_or own k [])) Lost =
    ap (λ (x : Counts). x.lost) (c.counts_of.ensures c.as_slice.result.now are)
    ∙ ap (λ (fs : List Failure). fate_count plan fs Lost)
    (c.as_slice.ensures ∙ c.worst_last-case.ensures ∙ ap (λ (fs : List Failure). worst_last fs) c.list.ensures) in
    record {
      is = c.with_case-tally.ensures ∙ ap (λ x. with_case x c.loop-k.tally) lost
          ∙ ap (with_case (fate_count plan (worst_last (get_or own k [])) Lost)) c.loop-k.invariant.is ∙ ap (own_tally plan own) next;
      cases = omega (arith, ap (λ t. t.cases) c.with_case-tally.ensures, c.loop-k.invariant.cases);
      losing = omega (arith, ap (λ t. t.losing) c.with_case-tally.ensures, c.loop-k.invariant.losing, one_more (c.counts_of.result.lost == 0));
    }
