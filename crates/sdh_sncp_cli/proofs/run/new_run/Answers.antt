use Rattle.std.proofs.Common.{ℕ, ◌≤◌, length, ap, sym, subst, ◌∙◌, arith}
use Rattle.sdh_circuits.specs.Provisioning.{Provisioning}
use Rattle.sdh_request.specs.declared.settings.Settings.{Settings}
use Rattle.sdh_scripts.specs.Ports.{lines_room}
use Rattle.sdh_scripts.specs.Texts.{room_for}
use Rattle.sdh_basics.proofs.Answered.{err_as}
use Rattle.sdh_scripts.proofs.Plans.{may_start_of}
use Rattle.sdh_sncp.specs.Ring.{HeldPath, new_ring}
use Rattle.sdh_sncp.specs.Fixed.{AreAlone}
use Rattle.sdh_sncp.specs.Sharing.{AreFirstToShare}
use Rattle.sdh_sncp_cli.specs.Running.{running_ring, MayRunPath}
use Rattle.sdh_sncp_cli.specs.Plans.{path_account}
use Rattle.sdh_sncp_cli.proofs.Stepping.{may_new}
use Rattle.sdh_sncp_cli.proofs.Plans.{path_new}
use Rattle.sdh_sncp_cli.proofs.run.new_run.Goals as goal

pub returns-clause-is_of : goal.returns-clause-is_of
returns-clause-is_of c = record {
  form = c.into_parts-map.ensures.form;
  ring_is =
      c.in-Ok.ensures.ring ∙ (λ i. new_ring (c.settings-settings.ensures.settings i) (c.into_parts-map.ensures.ring i)
      (c.into_parts-map.ensures.circuits i));
  script_is = record {
    rate = ap (λ (s : Settings). s.rate) c.settings-settings.ensures.settings;
    nodes = c.len-nodes.ensures.len ∙ ap length c.map.ensures;
    steps = c.into_parts-map.ensures.steps;
    limit = c.limit-limit.ensures.limit;
  };
}

pub returns-clause-ready : goal.returns-clause-ready
returns-clause-ready c =
    let is = returns-clause-is_of c in
    let of = is.script_is in
    let circuits = ap (λ (r : HeldPath). r.circuits) is.ring_is in
    may_start_of running_ring path_account c.args.plan _ is MayRunPath path_new
    (λ f. may_new c.args.plan c.in-Ok.ring _ _ _ f is.form c.requires.known is.ring_is of.rate of.nodes of.steps)

pub returns-clause-room : goal.returns-clause-room
returns-clause-room c =
    let is = returns-clause-is_of c in
    let each =
    c.lines_room.ensures.room ∙ ap (λ (p : Provisioning). lines_room (length p.circuits))
    (c.circuits.ensures ∙ sym (ap (λ (r : HeldPath). r.circuits) is.ring_is)) in
    subst (λ (k : ℕ). k ≤ c.make_room.new.self.room) (c.script_room.ensures ∙ ap (λ (k : ℕ). room_for k 0) each) c.in_ok-make_room.ensures.room

pub returns-in-Err-clause-same_slot : goal.returns-in-Err-clause-same_slot
returns-in-Err-clause-same_slot c first second e =
    subst (λ (p : Provisioning). AreFirstToShare p.circuits first second) c.into_parts-map.ensures.circuits
    (c.try_new.ensures.same_slot first second (err_as _ _ _ c.in-Err.is e))

pub returns-clause-alone : goal.returns-clause-alone
returns-clause-alone c = subst (λ (p : Provisioning). AreAlone p.circuits) c.into_parts-map.ensures.circuits c.in-Ok.ensures.alone

-- room for all reports is room for a line
pub returns-in-Err-clause-line : goal.returns-in-Err-clause-line
returns-in-Err-clause-line c first second e = omega (arith, c.script_room.ensures, c.in_ok-make_room.ensures.room)
