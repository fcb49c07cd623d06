use Rattle.std.proofs.Common.{◌≡◌, sym, subst, ◌∙◌}
use Rattle.std.specs.Prelude.{IfOk, OnOk, OnErr}
use Rattle.std.proofs.lemmas.Result.{IfOk-weaker}
use Rattle.sdh_circuits.specs.declared.PortId.{PortId}
use Rattle.sdh_laws.specs.Carrying.Windows.{layout_in, HasCircuits}
use Rattle.sdh_node.specs.Rings.Held.{HeldRing}
use Rattle.sdh_node.specs.Rings.Rounds.{world}
use Rattle.sdh_node.specs.Rings.Clocks.{HasPortIn, clock_at}
use Rattle.sdh_node.specs.Rings.Fixed.{IsRested}
use Rattle.sdh_ring.specs.Observed.{Hears, IsStopped}
use Rattle.sdh_ring.specs.Promises.{KeepsPromises}
use Rattle.sdh_ring.proofs.Settling.{promises_kept}
use Rattle.sdh_ring.proofs.There.{there}
use Rattle.sdh_ring.proofs.ring.Ring.settle_recording.Given.{Over}
use Rattle.sdh_ring.proofs.ring.Ring.settle_recording.Goals as goal
use Rattle.sdh_ring.proofs.ring.Ring.settle_recording.Goals.{Joined-self}

begun : (g : Over) (c : Joined-self g) → c.into_form-running.result ≡ c.args.self.now
begun g c = c.into_form-running.ensures ∙ there _ c.self.inside.nodes c.in-Some.nodes c.args.self.now
    (sym c.take.ensures.value ∙ c.in-Some.is) c.self.view_is

pub returns-clause-laws : goal.returns-clause-laws
returns-clause-laws g c =
    let f = g.P.Plant.fibres c.args.plant.now in
    let end = g.P.Plant.fibres c.settle_recording-ended.new.plant in
    let from = begun g c in
    let fit = subst (λ (r : HeldRing). HasCircuits (layout_in r)) (c.nodes.ensures ∙ sym from) c.circuits_fit.ensures in
    let rested = subst (λ (r : HeldRing). (port : PortId) → HasPortIn r port → IsRested (clock_at r port))
    (c.nodes-2.ensures ∙ sym from) c.few_slips_wait.ensures in
    let kept = IfOk-weaker c.settle_recording-ended.result _ _
    (λ ended step. promises_kept (record {
      whole = c.steps_stay_whole.ensures;
      restored = c.settled_rings_are_restored.ensures;
      rests = c.steps_leave_at_rest.ensures;
      soon = c.unsettled_rings_are_restored.ensures;
      sooner = c.unsettled_followed_rings_are_restored.ensures;
      followed = c.steps_leave_followed.ensures;
      answers = c.steps_answer.ensures;
      strangers = c.steps_keep_strangers_out.ensures;
      transit = c.steps_deliver_after_transit.ensures;
      recent = c.steps_deliver_recent_bytes.ensures;
    }) (world c.into_form-running.result f) (world c.settle_recording-ended.new.ring end) c.args.limit ended fit rested
    step.outcome step.breaks)
    c.settle_recording-ended.ensures.step in
    subst (λ (r : HeldRing). IfOk c.settle_recording-ended.result (λ ended. KeepsPromises (world c.args.self.now f) c.args.limit ended (world r end)))
    (sym c.into_form.ensures)
    (subst (λ (r : HeldRing). IfOk c.settle_recording-ended.result
    (λ ended. KeepsPromises (world r f) c.args.limit ended (world c.settle_recording-ended.new.ring end))) from kept)

pub returns-clause-heard : goal.returns-clause-heard
returns-clause-heard g c =
    let f = g.P.Plant.fibres c.args.plant.now in
    let end = g.P.Plant.fibres c.settle_recording-ended.new.plant in
    subst (λ (r : HeldRing). IfOk c.settle_recording-ended.result (λ ended. OnOk ended (Hears
    (λ at k. g.O.Recorder.Records c.args.recorder.now c.args.log.now at k c.settle_recording-ended.new.recorder c.settle_recording-ended.new.log)
    (world c.args.self.now f) c.args.limit (world r end)))) (sym c.into_form.ensures)
    (subst (λ (r : HeldRing). IfOk c.settle_recording-ended.result (λ ended. OnOk ended (Hears
    (λ at k. g.O.Recorder.Records c.args.recorder.now c.args.log.now at k c.settle_recording-ended.new.recorder c.settle_recording-ended.new.log)
    (world r f) c.args.limit (world c.settle_recording-ended.new.ring end)))) (begun g c) c.settle_recording-ended.ensures.heard)

pub returns-clause-stopped : goal.returns-clause-stopped
returns-clause-stopped g c =
    let f = g.P.Plant.fibres c.args.plant.now in
    let end = g.P.Plant.fibres c.settle_recording-ended.new.plant in
    subst (λ (r : HeldRing). OnErr c.settle_recording-ended.result (IsStopped g.P.Plant.exact
    (λ at k. g.O.Recorder.Stops c.args.recorder.now c.args.log.now at k c.settle_recording-ended.new.recorder c.settle_recording-ended.new.log)
    (world c.args.self.now f) c.args.limit (world r end) (g.P.Plant.faults c.args.plant.now)
    (g.P.Plant.faults c.settle_recording-ended.new.plant))) (sym c.into_form.ensures)
    (subst (λ (r : HeldRing). OnErr c.settle_recording-ended.result (IsStopped g.P.Plant.exact
    (λ at k. g.O.Recorder.Stops c.args.recorder.now c.args.log.now at k c.settle_recording-ended.new.recorder c.settle_recording-ended.new.log)
    (world r f) c.args.limit (world c.settle_recording-ended.new.ring end) (g.P.Plant.faults c.args.plant.now)
    (g.P.Plant.faults c.settle_recording-ended.new.plant))) (begun g c) c.settle_recording-ended.ensures.stopped)
