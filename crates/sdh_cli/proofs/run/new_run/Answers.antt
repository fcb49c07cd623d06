use Rattle.std.proofs.Common.{◌≡◌, ℕ, ◌≤◌, List, length, ap, ap₂, sym, subst, ◌∙◌}
use Rattle.sdh_circuits.specs.Provisioning.{Provisioning}
use Rattle.sdh_request.specs.declared.settings.Settings.{Settings}
use Rattle.sdh_node.specs.Rings.Held.{HeldRing, new_ring}
use Rattle.sdh_scripts.specs.Texts.{room_for}
use Rattle.sdh_scripts.proofs.Plans.{may_start_of}
use Rattle.sdh_owed.proofs.Steps.{may_new}
use Rattle.sdh_owed.proofs.Plans.{adm_new}
use Rattle.sdh_cli.specs.Room.{report_room, MayList}
use Rattle.sdh_cli.specs.Running.{running_ring, MayRun}
use Rattle.sdh_cli.specs.Plans.{adm_account}
use Rattle.sdh_cli.proofs.run.new_run.Goals as goal

pub returns-clause-is_of : goal.returns-clause-is_of
returns-clause-is_of c = record {
  form = c.into_parts-map.ensures.form;
  ring_is =
      c.in_ok-ring.ensures.ring ∙ (λ i. new_ring (c.settings-settings.ensures.settings i) (c.into_parts-map.ensures.ring i)
      (c.into_parts-map.ensures.circuits i));
  script_is = record {
    rate = ap (λ (s : Settings). s.rate) c.settings-settings.ensures.settings;
    nodes = c.len-nodes.ensures.len ∙ ap length c.map.ensures;
    steps = c.into_parts-map.ensures.steps;
    limit = c.limit-limit.ensures.limit;
  };
}

pub returns-clause-ready : goal.returns-clause-ready
returns-clause-ready c =
    let is = returns-clause-is_of c in
    let listing =
    subst (λ (p : Provisioning). MayList (length p.circuits) c.args.listing)
    (sym (ap (λ (r : HeldRing). r.circuits) is.ring_is)) c.requires.listing in
    may_start_of running_ring adm_account c.args.plan _ is MayRun adm_new
    (λ f. (listing, may_new 65536 c.args.plan c.in_ok-ring.ring _ _ _ f is.form is.ring_is is.script_is.rate is.script_is.nodes is.script_is.steps))

pub returns-clause-room : goal.returns-clause-room
returns-clause-room c =
    let is = returns-clause-is_of c in
    let ids : c.map-2.result.now ≡ c.in_ok-ring.ring.ids = c.map-2.ensures ∙ sym (ap (λ (r : HeldRing). r.ids) is.ring_is) in
    let circuits : c.circuits.result.now ≡ c.in_ok-ring.ring.circuits =
    c.circuits.ensures ∙ sym (ap (λ (r : HeldRing). r.circuits) is.ring_is) in
    let each =
    c.report_room.ensures.room ∙ ap₂ (λ (l : List ℕ) (p : Provisioning). report_room c.args.listing (length l)
    (length p.circuits)) ids circuits in
    subst (λ (k : ℕ). k ≤ c.make_room.new.self.room) (c.script_room.ensures ∙ ap (λ (k : ℕ). room_for k 0) each) c.in_ok-make_room.ensures.room
