use Rattle.std.proofs.Common.{length, ap, arith}
use Rattle.sdh_node.specs.Rings.Held.{HeldRing}
use Rattle.sdh_scripts.proofs.Plans.{may_start_of}
use Rattle.sdh_owed.proofs.Steps.{may_new}
use Rattle.sdh_owed.proofs.Plans.{adm_new}
use Rattle.sdh_aps_cli.specs.Plans.{signalling_account}
use Rattle.sdh_aps_cli.specs.Running.{running_ring, MaySignal}
use Rattle.sdh_aps_cli.proofs.run.frames_run.Goals as goal

pub returns-clause-is_of : goal.returns-clause-is_of
returns-clause-is_of c =
    let parts = c.in_ok-parts.ensures in
    record { form = parts.form; ring_is = parts.ring; script_is = parts.script }

pub returns-clause-ready : goal.returns-clause-ready
returns-clause-ready c =
    let is = returns-clause-is_of c in
    let of = is.script_is in
    may_start_of running_ring signalling_account c.args.plan _ is MaySignal adm_new (λ f. (
      may_new 65536 c.args.plan c.in_ok-parts.parts.ring _ _ _ f is.form is.ring_is of.rate of.nodes of.steps,
      (let ids = ap (λ (v : HeldRing). length v.ids) is.ring_is in omega (arith, ids, c.requires.at)),
    ))
