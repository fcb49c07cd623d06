use Rattle.std.proofs.Common.{◌∙◌, ◌+◌, ◌<◌, ◌-◌, ◌*◌, ◌++◌, ◌∷◌, [], List, All, length, take, get_or, sym, ap, arith}
use Rattle.std.proofs.Common.{append_assoc, length-append, subst}
use Rattle.std.proofs.lemmas.List.{take_more, take_all, append-nil}
use Rattle.std.proofs.lemmas.List.Elements.{All-append, All-cons, All-nil, All-get_or}
use Rattle.sdh_verdicts.specs.declared.failure.Failure.{Failure}
use Rattle.sdh_ringmap.specs.declared.Side.TheVariants.{West}
use Rattle.sdh_verdicts.specs.declared.failure.Failure.TheVariants.{Degraded}
use Rattle.sdh_verdicts.specs.Failures.{IsFailureIn}
use Rattle.sdh_whatif_cli.proofs.Named.{nothing_at, ring_at, own_at, own_short, own_within}
use Rattle.sdh_whatif_cli.proofs.table.push_digit.Goals as goal

pub returns-then-digit-eq0-clause-failures : goal.returns-then-digit-eq0-clause-failures
returns-then-digit-eq0-clause-failures c =
    sym (append-nil c.args.case.now)
    ∙ ap (λ (fs : List Failure). c.args.case.now ++ fs)
    (sym (nothing_at c.args.nodes c.args.own.now c.args.digit c.if-digit-eq0.true))

-- a failure of the ring
pub returns-then-digit-nodes-clause-failures : goal.returns-then-digit-nodes-clause-failures
returns-then-digit-nodes-clause-failures c =
    c.push.ensures ∙ ap (λ (f : Failure). c.args.case.now ++ f ∷ []) c.failure_at.ensures.is
    ∙ ap (λ (fs : List Failure). c.args.case.now ++ fs)
    (sym (ring_at c.args.nodes c.args.own.now c.args.digit c.if-digit-eq0.false c.if-digit-nodes.true))

pub returns-then-digit-nodes-clause-within : goal.returns-then-digit-nodes-clause-within
returns-then-digit-nodes-clause-within c =
    let Is = IsFailureIn c.args.nodes in
    subst (All Is) (sym c.push.ensures)
    (All-append Is c.args.case.now (c.failure_at.result ∷ []) c.requires.within
    (All-cons Is c.failure_at.result [] c.failure_at.ensures.within (All-nil Is)))

-- there is room: one of the user's own has up to 16 failures
pub push-requires-in-loop-failure : goal.push-requires-in-loop-failure
push-requires-in-loop-failure c =
    let at = c.args.digit - (10 * c.args.nodes + 1) in
    omega (
      arith,
      c.loop-failure.invariant.short,
      c.requires.room,
      ap (λ (l : List Failure). length l) c.list-failure-items.ensures,
      c.loop-failure-test.true,
      own_short c.args.nodes c.args.own.now at c.requires.own,
    )

-- the failures in one of the user's own, one by one
pub loop-failure-preserved : goal.loop-failure-preserved
loop-failure-preserved c =
    let Is = IsFailureIn c.args.nodes in
    let at = c.args.digit - (10 * c.args.nodes + 1) in
    let fs = get_or c.args.own.now at [] in
    let i = c.loop-failure.failure-index in
    let some = Degraded (record { 0 = 0 }) West in
    let one = get_or c.list-failure-items.result.now i some in
    let low : i < length fs = omega (arith, ap (λ (l : List Failure). length l) c.list-failure-items.ensures, c.loop-failure-test.true) in
    record {
      failures = c.push-in-loop-failure.ensures
          ∙ ap (λ (l : List Failure). l ++ one ∷ []) c.loop-failure.invariant.failures
          ∙ append_assoc c.args.case.now (take i fs) (one ∷ [])
          ∙ ap (λ (l : List Failure). c.args.case.now ++ (take i fs ++ get_or l i some ∷ [])) c.list-failure-items.ensures
          ∙ ap (λ (l : List Failure). c.args.case.now ++ l) (sym (take_more fs i some low));
      short = omega (
        arith,
        ap (λ (l : List Failure). length l) c.push-in-loop-failure.ensures,
        length-append c.loop-failure.case (one ∷ []),
        c.loop-failure.invariant.short,
      );
      within = subst (All Is) (sym c.push-in-loop-failure.ensures)
          (All-append Is c.loop-failure.case (one ∷ []) c.loop-failure.invariant.within
          (All-cons Is one []
          (subst (λ (l : List Failure). Is (get_or l i some)) (sym c.list-failure-items.ensures)
          (All-get_or Is fs i some low (own_within c.args.nodes c.args.own.now at c.requires.own)))
          (All-nil Is)));
    }

pub returns-clause-failures : goal.returns-clause-failures
returns-clause-failures c =
    let at = c.args.digit - (10 * c.args.nodes + 1) in
    let fs = get_or c.args.own.now at [] in
    c.loop-failure.invariant.failures
    ∙ ap (λ (l : List Failure). c.args.case.now ++ l)
    (take_all c.loop-failure.failure-index fs (omega (arith, ap (λ (l : List Failure). length l) c.list-failure-items.ensures, c.loop-failure-test.false))
    ∙ sym (own_at c.args.nodes c.args.own.now c.args.digit c.if-digit-eq0.false (λ low. omega (arith, low, c.if-digit-nodes.false))))

pub returns-clause-short : goal.returns-clause-short
returns-clause-short c =
    let at = c.args.digit - (10 * c.args.nodes + 1) in
    let fs = get_or c.args.own.now at [] in
    omega (
      arith,
      ap (λ (l : List Failure). length l) (c.loop-failure.invariant.failures ∙ ap (λ (l : List Failure). c.args.case.now ++ l)
          (take_all c.loop-failure.failure-index fs
          (omega (arith, ap (λ (l : List Failure). length l) c.list-failure-items.ensures, c.loop-failure-test.false)))),
      length-append c.args.case.now fs,
      own_short c.args.nodes c.args.own.now at c.requires.own,
    )
