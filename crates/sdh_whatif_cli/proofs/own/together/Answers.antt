use Rattle.std.proofs.Common.{◌≡◌, ◌∙◌, ◌∷◌, [], List, ℕ, Bor, Some, None, All, length, sym, ap, subst, refl, arith, length-append}
use Rattle.std.proofs.lemmas.List.Elements.{All-nil, All-cons, All-append}
use Rattle.sdh_verdicts.specs.declared.failure.Failure.{Failure}
use Rattle.sdh_verdicts.specs.Failures.{IsFailureIn}
use Rattle.sdh_whatif_cli.specs.Own.{failure_named, unspaced}
use Rattle.sdh_whatif_cli.proofs.Naming.{Together, left, begun, cut_left, more_named, unnamed, too_many, all_named}
use Rattle.sdh_whatif_cli.proofs.own.together.Goals as goal

pub loop-rest-init : goal.loop-rest-init
loop-rest-init c = record {
  named = subst (λ (l : List Failure). Together (λ (text : Bor (List ℕ)). text.now) c.args.map.now c.args.text.now l (Some c.args.text))
      (sym c.new-list.ensures.items) (begun (λ (text : Bor (List ℕ)). text.now) c.args.map.now c.args.text c.args.text.now refl);
  short = omega (arith, ap (λ (l : List Failure). length l) c.new-list.ensures.items);
  within = subst (All (IsFailureIn (length c.args.map.now))) (sym c.new-list.ensures.items) (All-nil (IsFailureIn (length c.args.map.now)));
}

-- a 17th name
pub returns-then-len-eq16-clause-is : goal.returns-then-len-eq16-clause-is
returns-then-len-eq16-clause-is c =
    let f = λ (text : Bor (List ℕ)). text.now in
    let nodes = c.args.map.now in
    sym (too_many f nodes c.args.text.now c.loop-rest.list.items c.loop-rest.rest c.cut.result.1
    (failure_named nodes (unspaced c.cut.result.0.now)) c.loop-rest.invariant.named
    (ap (left f nodes) c.in-Some.is ∙ cut_left f nodes c.in-Some.text c.cut.result.0.now c.cut.result.1 c.cut.ensures.cut)
    (omega (arith, c.loop-rest.list.ok.0, c.len.ensures, c.if-len-eq16.true)))

-- a name of no failure
pub returns-in-None-clause-is : goal.returns-in-None-clause-is
returns-in-None-clause-is c =
    let f = λ (text : Bor (List ℕ)). text.now in
    let nodes = c.args.map.now in
    let none : failure_named nodes (unspaced c.cut.result.0.now) ≡ None =
    ap (failure_named nodes) (sym c.unspaced.ensures) ∙ sym c.failure_named.ensures.is ∙ c.in-None.is in
    sym (unnamed f nodes c.args.text.now c.loop-rest.list.items c.loop-rest.rest c.cut.result.1 c.loop-rest.invariant.named
    (ap (left f nodes) c.in-Some.is ∙ cut_left f nodes c.in-Some.text c.cut.result.0.now c.cut.result.1 c.cut.ensures.cut
    ∙ ap (λ o. o ∷ left f nodes c.cut.result.1) none))

pub loop-rest-preserved : goal.loop-rest-preserved
loop-rest-preserved c =
    let f = λ (text : Bor (List ℕ)). text.now in
    let nodes = c.args.map.now in
    let Is = IsFailureIn (length nodes) in
    let one = c.in-Some-failure_named.failure in
    let some : failure_named nodes (unspaced c.cut.result.0.now) ≡ Some one =
    ap (failure_named nodes) (sym c.unspaced.ensures) ∙ sym c.failure_named.ensures.is ∙ c.in-Some-failure_named.is in
    record {
      named = subst (λ (l : List Failure). Together f nodes c.args.text.now l c.cut.result.1) (sym c.in_ok-push-in-Some-failure_named.ensures.items)
          (more_named f nodes c.args.text.now c.loop-rest.list.items c.loop-rest.rest c.cut.result.1 one c.loop-rest.invariant.named
          (ap (left f nodes) c.in-Some.is ∙ cut_left f nodes c.in-Some.text c.cut.result.0.now c.cut.result.1 c.cut.ensures.cut
          ∙ ap (λ o. o ∷ left f nodes c.cut.result.1) some));
      short = omega (
        arith,
        ap (λ (l : List Failure). length l) c.in_ok-push-in-Some-failure_named.ensures.items,
        length-append c.loop-rest.list.items (one ∷ []),
        c.len.ensures,
        c.loop-rest.list.ok.0,
        c.if-len-eq16.false,
        c.loop-rest.invariant.short,
      );
      within = subst (All Is) (sym c.in_ok-push-in-Some-failure_named.ensures.items)
          (All-append Is c.loop-rest.list.items (one ∷ []) c.loop-rest.invariant.within
          (All-cons Is one [] c.in-Some-failure_named.ensures.within (All-nil Is)));
    }

pub returns-clause-is : goal.returns-clause-is
returns-clause-is c =
    let f = λ (text : Bor (List ℕ)). text.now in
    let nodes = c.args.map.now in
    sym (all_named f nodes c.args.text.now c.loop-rest.list.items
    (subst (λ rest. Together f nodes c.args.text.now c.loop-rest.list.items rest) c.in_default.is c.loop-rest.invariant.named)
    c.loop-rest.invariant.short)
