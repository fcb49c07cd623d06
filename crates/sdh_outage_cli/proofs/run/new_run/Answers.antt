use Rattle.std.proofs.Common.{◌≡◌, ℕ, ◌≤◌, length, ap, sym, subst, ◌∙◌}
use Rattle.sdh_circuits.specs.Provisioning.{Provisioning}
use Rattle.sdh_request.specs.declared.settings.Settings.{Settings}
use Rattle.sdh_node.specs.Rings.Held.{HeldRing, new_ring}
use Rattle.sdh_scripts.specs.Texts.{room_for}
use Rattle.sdh_scripts.proofs.Plans.{may_start_of}
use Rattle.sdh_owed.proofs.Steps.{may_new}
use Rattle.sdh_owed.proofs.Plans.{adm_new}
use Rattle.sdh_basics.specs.Cells.{cells}
use Rattle.sdh_plan.specs.Planned.{provisioning_of}
use Rattle.sdh_outage_cli.specs.Ports.{AreAt, AreReady, ports_by_node}
use Rattle.sdh_outage_cli.specs.Rooms.{ports_at}
use Rattle.sdh_outage_cli.proofs.Counting.{ports_new}
use Rattle.sdh_outage_cli.specs.Streams.{AreNear}
use Rattle.sdh_outage_cli.specs.Running.{MayListOutages, outage_lines_room, running_ring, MayListen}
use Rattle.sdh_outage_cli.specs.Plans.{outage_account}
use Rattle.sdh_outage_cli.proofs.run.new_run.Goals as goal

pub returns-clause-is_of : goal.returns-clause-is_of
returns-clause-is_of c = record {
  form = c.into_parts-map.ensures.form;
  ring_is =
      c.in_ok-ring.ensures.ring ∙ (λ i. new_ring (c.settings-settings.ensures.settings i) (c.into_parts-map.ensures.ring i)
      (c.into_parts-map.ensures.circuits i));
  script_is = record {
    rate = ap (λ (s : Settings). s.rate) c.settings-settings.ensures.settings;
    nodes = c.len-nodes.ensures.len ∙ ap length c.map.ensures;
    steps = c.into_parts-map.ensures.steps;
    limit = c.limit-limit.ensures.limit;
  };
}

pub returns-clause-ready : goal.returns-clause-ready
returns-clause-ready c =
    let is = returns-clause-is_of c in
    let of = is.script_is in
    let circuits = ap (λ (r : HeldRing). r.circuits) is.ring_is in
    let rounds = ap (λ (r : HeldRing). r.rounds) is.ring_is in
    let listing = subst (λ (p : Provisioning). MayListOutages (length p.circuits) c.args.listing) (sym circuits) c.requires.listing in
    let each_there = ap (λ (p : Provisioning). length p.circuits) (c.circuits-2.ensures ∙ sym circuits) in
    let near = subst (λ n. AreNear c.in_ok-ring.ring.circuits.circuits n c.in_ok-streams.streams.pairs.items) (sym rounds)
    (subst (λ (p : Provisioning). AreNear p.circuits 0 c.in_ok-streams.streams.pairs.items)
    (c.circuits-3.ensures ∙ sym circuits) c.in_ok-streams.ensures) in
    let ready : AreReady c.in_ok-ring.ring.circuits.circuits c.in_ok-ring.ring.rounds c.in_ok-items.items.items c.in_ok-streams.streams.pairs.items =
    record {
      many = c.in_ok-items.ensures.many ∙ each_there;
      rounds_are = subst (λ n. AreAt n c.in_ok-items.items.items) (sym rounds) c.in_ok-items.ensures.rounds;
      near = near;
    } in
    let cs = (provisioning_of c.args.plan).circuits in
    let ports : cells (ports_at c.circuits-4.result.now.circuits) c.len-nodes.result ≡ ports_by_node c.in_ok-ring.ring =
    ap (λ (p : Provisioning). cells (ports_at p.circuits) c.len-nodes.result) c.circuits-4.ensures ∙ ap (cells (ports_at cs)) of.nodes
    ∙ sym (ports_new c.args.plan.settings c.args.plan.nodes cs (length c.args.plan.nodes)) ∙ ap ports_by_node (sym is.ring_is) in
    may_start_of running_ring outage_account c.args.plan _ is MayListen adm_new
    (λ f. (
      listing,
      record { ring_may = may_new 65536 c.args.plan c.in_ok-ring.ring _ _ _ f is.form is.ring_is of.rate of.nodes of.steps; ready = ready },
      c.in_ok-rooms.ensures ∙ ports,
    ))

pub returns-clause-room : goal.returns-clause-room
returns-clause-room c =
    let is = returns-clause-is_of c in
    let each =
    c.lines_room.ensures.room ∙ ap (λ (p : Provisioning). outage_lines_room c.args.listing (length p.circuits))
    (c.circuits.ensures ∙ sym (ap (λ (r : HeldRing). r.circuits) is.ring_is)) in
    subst (λ (k : ℕ). k ≤ c.make_room.new.self.room) (c.script_room.ensures ∙ ap (λ (k : ℕ). room_for k 0) each) c.in_ok-make_room.ensures.room
