use Rattle.std.proofs.Common.{ℕ, ◌≤◌, length, ap, sym, subst, ◌∙◌}
use Rattle.sdh_circuits.specs.Provisioning.{Provisioning}
use Rattle.sdh_request.specs.declared.settings.Settings.{Settings}
use Rattle.sdh_node.specs.Rings.Held.{HeldRing, new_ring}
use Rattle.sdh_scripts.specs.Ports.{lines_room}
use Rattle.sdh_scripts.specs.Texts.{room_for}
use Rattle.sdh_scripts.proofs.Plans.{may_start_of}
use Rattle.sdh_owed.proofs.Steps.{may_new}
use Rattle.sdh_owed.proofs.Plans.{adm_new}
use Rattle.sdh_watch.specs.Running.{running_ring, MayWatch}
use Rattle.sdh_watch.specs.Plans.{watch_account}
use Rattle.sdh_watch.proofs.run.new_run.Goals as goal

pub returns-clause-is_of : goal.returns-clause-is_of
returns-clause-is_of c = record {
  form = c.into_parts-map.ensures.form;
  ring_is =
      c.in_ok-ring.ensures.ring ∙ (λ i. new_ring (c.settings-settings.ensures.settings i) (c.into_parts-map.ensures.ring i)
      (c.into_parts-map.ensures.circuits i));
  script_is = record {
    rate = ap (λ (s : Settings). s.rate) c.settings-settings.ensures.settings;
    nodes = c.len-nodes.ensures.len ∙ ap length c.map.ensures;
    steps = c.into_parts-map.ensures.steps;
    limit = c.limit-limit.ensures.limit;
  };
}

pub returns-clause-ready : goal.returns-clause-ready
returns-clause-ready c =
    let is = returns-clause-is_of c in
    let of = is.script_is in
    let circuits = ap (λ (r : HeldRing). r.circuits) is.ring_is in
    let many = c.in_ok-watches.ensures ∙ ap (λ (p : Provisioning). length p.circuits) (c.circuits-2.ensures ∙ sym circuits) in
    may_start_of running_ring watch_account c.args.plan _ is MayWatch adm_new
    (λ f. record { ring_may = may_new 65664 c.args.plan c.in_ok-ring.ring _ _ _ f is.form is.ring_is of.rate of.nodes of.steps; many = many })

pub returns-clause-room : goal.returns-clause-room
returns-clause-room c =
    let is = returns-clause-is_of c in
    let each =
    c.lines_room.ensures.room ∙ ap (λ (p : Provisioning). lines_room (length p.circuits))
    (c.circuits.ensures ∙ sym (ap (λ (r : HeldRing). r.circuits) is.ring_is)) in
    subst (λ (k : ℕ). k ≤ c.make_room.new.self.room) (c.script_room.ensures ∙ ap (λ (k : ℕ). room_for k 0) each) c.in_ok-make_room.ensures.room
