use Rattle.std.proofs.Common.{inl, inr, refl}
use Rattle.sdh_node_cli.proofs.Faults.{quiet}
use Rattle.sdh_node_cli.proofs.top.bench_in.Goals as goal

pub returns-in-Ok-Some-clause-reads : goal.returns-in-Ok-Some-clause-reads
returns-in-Ok-Some-clause-reads g c =
    quiet _ _ _ _ (λ e. cc) (λ e. c.plan_in.ensures.counted.none e (λ f. cc)) c.plan_in.ensures.later

pub returns-in-Ok-None-clause-ends : goal.returns-in-Ok-None-clause-ends
returns-in-Ok-None-clause-ends g c =
    let head = c.in-Ok.ensures.plan in
    inr (record {
      document = head.document;
      first = head.first;
      plan = c.in-Ok.plan;
      plan_is = head.plan_is;
      of_plan = inl (record { none = c.in-Ok-None.ensures.none c.in-Ok-None.field-0-is; read = head.read; how_is = refl; text_is = refl });
    })
