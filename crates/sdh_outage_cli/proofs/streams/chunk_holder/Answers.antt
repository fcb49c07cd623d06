use Rattle.std.proofs.Common.{◌≤◌, length, Some, None, ap, sym, subst, ◌∙◌, arith}
use Rattle.sdh_scripts.proofs.Lists.{some_at}
use Rattle.sdh_outage_cli.specs.Streams.{AreNear, AreEarly}
use Rattle.sdh_outage_cli.proofs.Holding.{holder_next, holder_end}
use Rattle.sdh_outage_cli.proofs.streams.chunk_holder.Goals as goal

pub end_of_other-requires-clause-index : goal.end_of_other-requires-clause-index
end_of_other-requires-clause-index c =
    omega (arith, c.loop-i-test.true, c.len-i-end.ensures.len, ap length c.loop-i.invariant.same, c.requires.many)

pub end_of_other-requires-clause-early : goal.end_of_other-requires-clause-early
end_of_other-requires-clause-early c = subst AreEarly (sym c.loop-i.invariant.same) c.requires.early

pub returns-in-Some-clause-holder : goal.returns-in-Some-clause-holder
returns-in-Some-clause-holder c = λ circuits round near.
    let i = c.loop-i.i in
    let own = c.args.own in
    let chunk = c.args.chunk.now in
    let inv = c.loop-i.invariant in
    let x = some_at circuits i (omega (arith, c.loop-i-test.true, c.len-i-end.ensures.len, c.requires.many, near.many)) in
    let held = c.end_of_other.ensures.held circuits x.0 round (subst (AreNear circuits round) (sym inv.same) near) x.1 in
    sym (inv.passed circuits round near ∙ holder_next own i circuits x.0 round chunk (Some c.in-Some.end) x.1 (sym held ∙ c.in-Some.is))

pub loop-i-preserved : goal.loop-i-preserved
loop-i-preserved c = record {
  same = c.end_of_other.ensures.same ∙ c.loop-i.invariant.same;
  passed = λ circuits round near. (
      let i = c.loop-i.i in
      let own = c.args.own in
      let chunk = c.args.chunk.now in
      let inv = c.loop-i.invariant in
      let x = some_at circuits i (omega (arith, c.loop-i-test.true, c.len-i-end.ensures.len, c.requires.many, near.many)) in
      let held = c.end_of_other.ensures.held circuits x.0 round (subst (AreNear circuits round) (sym inv.same) near) x.1 in
      inv.passed circuits round near ∙ holder_next own i circuits x.0 round chunk None x.1 (sym held ∙ c.in_default.is));
}

pub returns-clause-holder : goal.returns-clause-holder
returns-clause-holder c = λ circuits round near.
    let past : length circuits ≤ c.loop-i.i =
    omega (arith, c.loop-i-test.false, c.len-i-end.ensures.len, c.requires.many, near.many) in
    sym (c.loop-i.invariant.passed circuits round near ∙ holder_end c.args.own c.loop-i.i circuits round c.args.chunk.now past)
