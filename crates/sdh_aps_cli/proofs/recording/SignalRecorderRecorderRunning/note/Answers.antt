use Rattle.std.proofs.Common.{length, refl, ap, sym, subst, ◌∙◌, arith}
use Rattle.std.specs.Io.KnownBytes.{Appends}
use Rattle.sdh_outside.specs.Writing.{AppendsFewer}
use Rattle.sdh_aps_cli.specs.Signalled.{changes_to}
use Rattle.sdh_aps_cli.specs.Listing.{changes_text}
use Rattle.sdh_aps_cli.proofs.Rounds.{same_size, has_run, recorded_more, cut_more, none_more, one_fails}
use Rattle.sdh_aps_cli.proofs.recording.SignalRecorderRecorderRunning.note.Goals as goal

pub look-requires-clause-many : goal.look-requires-clause-many
look-requires-clause-many g c = let r = c.requires in r.6.1.ready.many ∙ sym (same_size r.2 r.3 c.args.ring.now r.4)

pub look-requires-clause-ran : goal.look-requires-clause-ran
look-requires-clause-ran g c = let r = c.requires in has_run r.2 r.3 c.args.ring.now r.4

pub look-requires-clause-room : goal.look-requires-clause-room
look-requires-clause-room g c =
    let r = c.requires in
    let size = same_size r.2 r.3 c.args.ring.now r.4 in
    omega (arith, size, r.6.1.ready.room)

pub returns-in-Ok-clause-goes : goal.returns-in-Ok-clause-goes
returns-in-Ok-clause-goes g c first begun at k ran same kept =
    let ring = c.args.ring.now in
    let old = g.W.Sink.written begun in
    let mid = g.W.Sink.written c.args.log.now in
    let new = g.W.Sink.written c.write_text.new.sink in (
      c.look.ensures.listing ∙ kept.0,
      recorded_more at k ring ran first.listing c.look.new.self.text.bytes c.args.self.now.before.items kept.1.shown
          (λ was are. c.look.ensures.bytes was are ∙ ap (λ l. changes_text l (changes_to was ring (length ring.ids))) kept.0)
          c.look.new.self.before.items c.args.self.now.text c.look.new.self.text old mid new kept.1 c.look.ensures.many c.look.ensures.shown
          c.look.ensures.room (subst (Appends mid new) c.bytes.ensures c.in-Ok.ensures.ok),
      none_more g.W.Sink.exact (g.W.Sink.faults begun) (g.W.Sink.faults c.args.log.now) (g.W.Sink.faults c.write_text.new.sink) kept.2
          c.write_text.ensures.later (λ e. c.in-Ok.ensures.counted.none e (λ x. cc)),
    )

pub returns-in-Err-clause-stops : goal.returns-in-Err-clause-stops
returns-in-Err-clause-stops g c first begun at k ran same kept =
    let ring = c.args.ring.now in
    let old = g.W.Sink.written begun in
    let mid = g.W.Sink.written c.args.log.now in
    let new = g.W.Sink.written c.write_text.new.sink in (
      cut_more at k ring ran first.listing c.look.new.self.text.bytes c.args.self.now.before.items kept.1.shown
          (λ was are. c.look.ensures.bytes was are ∙ ap (λ l. changes_text l (changes_to was ring (length ring.ids))) kept.0)
          c.args.self.now.text old mid new kept.1 (subst (AppendsFewer mid new) c.bytes.ensures c.in-Err.ensures.front),
      one_fails g.W.Sink.exact (g.W.Sink.faults begun) (g.W.Sink.faults c.args.log.now) (g.W.Sink.faults c.write_text.new.sink) kept.2
          c.write_text.ensures.later c.in-Err.ensures.fault (λ e. c.in-Err.ensures.counted.one e refl),
    )
