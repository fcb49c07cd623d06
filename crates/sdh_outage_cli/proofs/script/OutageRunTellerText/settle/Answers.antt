use Rattle.std.proofs.Common.{◌+◌, ◌++◌, refl, ap, sym, subst, arith, length, ◌∙◌}
use Rattle.sdh_circuits.specs.declared.PortId.{PortId}
use Rattle.sdh_node.specs.Rings.Held.{HeldRing}
use Rattle.sdh_node.specs.Rings.Rounds.{World, world}
use Rattle.sdh_node.specs.Rings.Runs.{course_with}
use Rattle.sdh_scripts.proofs.Reporting.{ended_with}
use Rattle.sdh_owed.proofs.Standing.{long_step}
use Rattle.sdh_owed.proofs.Steps.{settled_held, settled_whole}
use Rattle.sdh_outage_cli.specs.Outages.{outaged_in}
use Rattle.sdh_outage_cli.specs.Scripts.{outage_walk}
use Rattle.sdh_outage_cli.specs.Running.{MayListOutages, outage_lines_room}
use Rattle.sdh_outage_cli.proofs.Listening.{listening_none}
use Rattle.sdh_outage_cli.specs.Ports.{ports_by_node}
use Rattle.sdh_outage_cli.proofs.Steps.{listens_only, rooms_left, few_before, many_then, listed_is, heard_next}
use Rattle.sdh_outage_cli.specs.Lines.{outages_listed}
use Rattle.std.proofs.lemmas.Result.{err_from_is_err_and}
use Rattle.sdh_shell.proofs.Failing.{counted_as}
use Rattle.sdh_scripts.proofs.Tellers.{stops_by, silent_begun, ends_by, none_written, fault_on, fault_back}
use Rattle.sdh_outage_cli.proofs.script.OutageRunTellerText.settle.Goals as goal

pub begin_all-requires : goal.begin_all-requires
begin_all-requires g c = c.requires.may.1.1.ready.many

pub settle_with-requires-clause-ready : goal.settle_with-requires-clause-ready
settle_with-requires-clause-ready g c = λ at is. (
  listening_none c.args.self.now.ring c.args.self.now.listeners.items.items c.begin_all.new.items.items
      c.args.self.now.listeners.streams.pairs.items
      (few_before c.args.number _ _ _ c.requires.may.1.1.ring_may) c.requires.may.1.1.ready c.begin_all.ensures.many c.begin_all.ensures.each at (ap (λ (v : World). v.ring) (sym is)),
  c.requires.may.1.2 ∙ ap (λ (v : World). ports_by_node v.ring) (sym is),
)

pub put_step-requires-clause-many : goal.put_step-requires-clause-many
put_step-requires-clause-many g c = many_then _ _ c.args.limit c.settle_with.new.listeners.items.items c.settle_with.new.listeners.streams.pairs.items (listens_only c.in_ok-settle_with.ensures.heard)

pub put_step-requires-clause-listing : goal.put_step-requires-clause-listing
put_step-requires-clause-listing g c =
    subst (λ (r : HeldRing). MayListOutages (length r.circuits.circuits) c.args.self.now.listing)
    (sym (settled_held _ _ c.args.limit c.in_ok-settle_with.ensures.step.outcome)) c.requires.may.1.0

pub put_step-requires-clause-room : goal.put_step-requires-clause-room
put_step-requires-clause-room g c =
    let same =
    ap (λ (x : HeldRing). outage_lines_room c.args.self.now.listing (length x.circuits.circuits))
    (settled_held _ _ c.args.limit c.in_ok-settle_with.ensures.step.outcome) in
    omega (arith, same, c.requires.room)

pub returns-clause-ok : goal.returns-clause-ok
returns-clause-ok g c =
    let means = g.P.Plant.fibres in
    let w = world c.args.self.now.ring (means c.args.plant.now) in
    let left = world c.settle_with.new.ring (means c.settle_with.new.plant) in
    let x = (listens_only c.in_ok-settle_with.ensures.heard) in
    let told = outaged_in (c.args.number + 1) (course_with x.settles.rounds w) (length x.settles.rounds) in
    record {
      told = told;
      ended = ended_with outage_walk refl c.args.limit (c.args.number + 1) w left x.settles;
      text =
          c.put_step.ensures.bytes ∙ ap (λ l. c.args.output.now.bytes ++ l)
          (listed_is w left c.args.limit c.settle_with.new.listeners.items.items c.settle_with.new.listeners.streams.pairs.items x c.args.self.now.listing (c.args.number + 1));
    }

pub returns-clause-next : goal.returns-clause-next
returns-clause-next g c later may =
    let means = g.P.Plant.fibres in
    let w = world c.args.self.now.ring (means c.args.plant.now) in
    let left = world c.settle_with.new.ring (means c.settle_with.new.plant) in
    let s = c.in_ok-settle_with.ensures.step.outcome in
    let long = long_step w.ring left.ring c.args.limit may.1.ring_may.begins c.in_ok-settle_with.ensures.step.numbers in
    let none = λ (port : PortId). c.in_ok-settle_with.ensures.laws.slips port (omega (arith, long.1)) in (
      subst (λ (r : HeldRing). MayListOutages (length r.circuits.circuits) c.args.self.now.listing)
          (sym (settled_held w left c.args.limit s)) may.0,
      heard_next w left c.args.limit c.settle_with.new.listeners.items.items c.settle_with.new.listeners.streams.pairs.items (listens_only c.in_ok-settle_with.ensures.heard) c.args.number c.args.self.now.listeners.items.items c.args.self.now.listeners.streams.pairs.items c.requires.few long.0 none
          (c.in_ok-settle_with.ensures.step.prepared (settled_whole w left c.args.limit s may.1.ring_may.whole)) later may.1,
      rooms_left w left c.args.limit _ _ _ c.in_ok-settle_with.ensures.heard,
    )

pub returns-clause-room : goal.returns-clause-room
returns-clause-room g c more takes =
    let same =
    ap (λ (x : HeldRing). outage_lines_room c.args.self.now.listing (length x.circuits.circuits))
    (settled_held _ _ c.args.limit c.in_ok-settle_with.ensures.step.outcome) in
    omega (arith, same, takes, c.put_step.ensures.room)

pub returns-clause-same_room : goal.returns-clause-same_room
returns-clause-same_room g c =
    ap (λ (x : HeldRing). outage_lines_room c.args.self.now.listing (length x.circuits.circuits))
    (settled_held _ _ c.args.limit c.in_ok-settle_with.ensures.step.outcome)

-- ---- the settle step didn't end: the text is as it was

pub returns-in_err-settle_with-clause-err : goal.returns-in_err-settle_with-clause-err
returns-in_err-settle_with-clause-err g c =
    let means = g.P.Plant.fibres in
    let w = world c.args.self.now.ring (means c.args.plant.now) in
    let left = world c.settle_with.new.ring (means c.settle_with.new.plant) in
    let why = c.in_err-settle_with.field-0.0 in
    let ends = ends_by outage_walk c.args.limit (c.args.number + 1) w left why c.in_err-settle_with.ensures.step.outcome in
    let p = err_from_is_err_and c.from_residual.result c.from_residual.ensures.1 in
    rw (p.1, p.2) (stops_by outage_walk c.args.limit (c.args.number + 1) w left why ends)

pub returns-in_err-settle_with-clause-begun : goal.returns-in_err-settle_with-clause-begun
returns-in_err-settle_with-clause-begun g c =
    let means = g.P.Plant.fibres in
    let w = world c.args.self.now.ring (means c.args.plant.now) in
    let left = world c.settle_with.new.ring (means c.settle_with.new.plant) in
    let why = c.in_err-settle_with.field-0.0 in
    let ends = ends_by outage_walk c.args.limit (c.args.number + 1) w left why c.in_err-settle_with.ensures.step.outcome in
    let p = err_from_is_err_and c.from_residual.result c.from_residual.ensures.1 in
    rw (p.1, p.2) (silent_begun outage_walk c.args.limit (c.args.number + 1) w left (outages_listed c.args.self.now.listing) c.args.output.now.bytes why ends)

pub returns-in_err-settle_with-clause-cut : goal.returns-in_err-settle_with-clause-cut
returns-in_err-settle_with-clause-cut g c =
    let p = err_from_is_err_and c.from_residual.result c.from_residual.ensures.1 in
    rw (p.1, p.2) (λ e. absurd (none_written c.in_err-settle_with.field-0.0 e))

pub returns-in_err-settle_with-clause-failed : goal.returns-in_err-settle_with-clause-failed
returns-in_err-settle_with-clause-failed g c =
    let p = err_from_is_err_and c.from_residual.result c.from_residual.ensures.1 in
    rw (p.1, p.2) (λ e. c.in_err-settle_with.ensures.step.failed (fault_back c.in_err-settle_with.field-0.0 e))

pub returns-in_err-settle_with-clause-counted : goal.returns-in_err-settle_with-clause-counted
returns-in_err-settle_with-clause-counted g c =
    let p = err_from_is_err_and c.from_residual.result c.from_residual.ensures.1 in
    let why = c.in_err-settle_with.field-0.0 in
    rw (p.1, p.2) (counted_as _ _ _ (fault_back why) (fault_on why) c.in_err-settle_with.ensures.step.counted)
