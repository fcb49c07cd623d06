use Rattle.std.proofs.Common.{length, ap, sym, subst, ◌∙◌}
use Rattle.std.specs.Prelude.{slice_get}
use Rattle.sdh_outage_cli.specs.Streams.{AreEarly}
use Rattle.sdh_node.specs.Rings.Held.{HeldRing}
use Rattle.sdh_outage_cli.specs.Ports.{ports_by_node}
use Rattle.sdh_outage_cli.proofs.Counting.{ports_ran}
use Rattle.sdh_outage_cli.proofs.Listening.{many_more, near_many, few_heard, few_near, listening_more}
use Rattle.sdh_outage_cli.proofs.listeners.ListenersObserverRunning.look.Goals as goal

pub look_all-requires-clause-many : goal.look_all-requires-clause-many
look_all-requires-clause-many c =
    let r = c.requires in many_more r.0 r.1 c.args.ring.now c.args.self.now.items.items c.args.self.now.streams.pairs.items r.3.0 r.2

pub look_all-requires-clause-streams : goal.look_all-requires-clause-streams
look_all-requires-clause-streams c =
    let r = c.requires in near_many r.0 r.1 c.args.ring.now c.args.self.now.items.items c.args.self.now.streams.pairs.items r.3.0 r.2

pub look_all-requires-clause-few : goal.look_all-requires-clause-few
look_all-requires-clause-few c =
    let r = c.requires in few_heard r.0 r.1 c.args.self.now.items.items c.args.self.now.streams.pairs.items r.2.few r.3.0

pub look_all-requires-clause-early : goal.look_all-requires-clause-early
look_all-requires-clause-early c =
    let r = c.requires in few_near r.0 r.1 c.args.self.now.items.items c.args.self.now.streams.pairs.items r.2.few r.3.0

pub step_all-requires : goal.step_all-requires
step_all-requires c =
    let r = c.requires in
    subst AreEarly (sym c.look_all.ensures.streams)
    (few_near r.0 r.1 c.args.self.now.items.items c.args.self.now.streams.pairs.items r.2.few r.3.0)

pub returns : goal.returns
returns c = λ at k ran heard. (
  let same = c.look_all.ensures.streams in
      listening_more at k c.args.ring.now c.args.self.now.items.items c.look_all.new.items.items c.args.self.now.streams.pairs.items
      c.step_all.new.streams.pairs.items heard.0 ran c.look_all.ensures.many c.look_all.ensures.each (c.step_all.ensures.many ∙ ap length same)
      (λ i before after was here. c.step_all.ensures.each i before after (ap (λ l. slice_get l i) same ∙ was) here),
  c.look_all.ensures.rooms ∙ heard.1 ∙ ports_ran at k c.args.ring.now ran ∙ ap (λ (v : HeldRing). ports_by_node v) ran.ring_is,
)

pub look_all-requires-clause-rooms : goal.look_all-requires-clause-rooms
look_all-requires-clause-rooms c =
    let r = c.requires in r.3.1 ∙ ports_ran r.0 r.1 c.args.ring.now r.2
