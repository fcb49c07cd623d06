use Rattle.std.proofs.Common.{◌<◌, length, refl, ap, rules, arith}
use Rattle.sdh_outside.proofs.Moved.{Appends-more}
use Rattle.sdh_outside.proofs.writing.write_text.Goals as goal

pub loop-sent-preserved : goal.loop-sent-preserved
loop-sent-preserved g c = record {
  within = search rules;
  appended = Appends-more _ _ _ c.args.text.now c.loop-sent.sent c.in-Ok.count c.loop-sent.invariant.appended c.in-Ok.ensures.bytes;
  stays = search rules;
  later = search rules;
  untouched = λ none. let moved : 0 < c.in-Ok.count = search rules in absurd (omega arith);
}

pub returns-clause-empty : goal.returns-clause-empty
returns-clause-empty g c e = (refl, c.loop-sent.invariant.untouched (omega (arith, ap length e)))
