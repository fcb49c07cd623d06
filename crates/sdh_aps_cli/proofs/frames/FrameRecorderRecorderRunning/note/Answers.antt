use Rattle.std.proofs.Common.{◌≡◌, suc, ◌-◌, true, false, Some, None, [], refl, ap, sym, ◌∙◌, subst, arith}
use Rattle.std.specs.List.{flat_map}
use Rattle.std.specs.Io.KnownBytes.{Appends}
use Rattle.std.proofs.KnownBytes.{Appends-nil}
use Rattle.sdh_outside.specs.Writing.{AppendsFewer}
use Rattle.sdh_plant.specs.Fibres.{Fibres}
use Rattle.sdh_node.specs.Rings.Held.{HeldRing}
use Rattle.sdh_aps_cli.specs.Frames.{sent_last, is_wanted}
use Rattle.sdh_aps_cli.proofs.Rounds.{has_run, none_more, one_fails}
use Rattle.sdh_aps_cli.proofs.FrameRounds.{place_next, not_wanted, one_frame, no_frame, written_more, cut_more, wanted_as, frame_as}
use Rattle.sdh_aps_cli.proofs.frames.FrameRecorderRecorderRunning.note.Goals as goal

-- the plant has the node: its fibres are those of the world after the round
pub overflow_sub-round : goal.overflow_sub-round
overflow_sub-round g c =
    let r = c.requires in
    let ran = has_run r.2 r.3 c.args.ring.now r.4 in
    omega (arith, ran, c.rounds-round.ensures)

pub carried-requires : goal.carried-requires
carried-requires g c =
    let r = c.requires in
    let place = place_next r.0.ask r.2 r.3 c.args.ring.now r.4 r.6.1.place in
    let nodes = ap (λ (f : Fibres). f.nodes) r.5 in
    let at = ap (λ a. a.at.0) r.6.0 in
    record { at = omega (arith, place, nodes, at) }

-- the round isn't asked for
pub returns-then-not-is_wanted-clause-goes : goal.returns-then-not-is_wanted-clause-goes
returns-then-not-is_wanted-clause-goes g c first begun at k ran same kept =
    let ring = c.args.ring.now in
    let old = g.W.Sink.written begun in
    let now = g.W.Sink.written c.args.log.now in
    let off : c.is_wanted.result ≡ false = grind arith in
    let round : is_wanted first.ask (sent_last (at (suc k))).round ≡ false =
    wanted_as c.args.self.now.ask first.ask c.args.ring.now.rounds _ (c.rounds-round.result - 1) kept.0
    (ap (λ (r : HeldRing). r.rounds) ran.ring_is) (ap (λ n. n - 1) c.rounds-round.ensures) (sym c.is_wanted.ensures ∙ off) in (
      kept.0,
      written_more first.ask at k ring ran [] old now now (ap (flat_map (λ frame. frame)) (not_wanted first.ask (sent_last (at (suc k))) round)) kept.1
          (Appends-nil now),
      kept.2,
    )

-- the round is asked for, and the plant shows what was sent in it, as `same` says; `wanted_as` and `frame_as` take both
-- to the course
pub returns-in-Ok-clause-goes : goal.returns-in-Ok-clause-goes
returns-in-Ok-clause-goes g c first begun at k ran same kept =
    let ring = c.args.ring.now in
    let old = g.W.Sink.written begun in
    let mid = g.W.Sink.written c.args.log.now in
    let new = g.W.Sink.written c.write_text.new.sink in
    let frame = c.in-Some.frame.now.bytes in
    let on : c.is_wanted.result ≡ true = grind arith in
    let round : is_wanted first.ask (sent_last (at (suc k))).round ≡ true =
    wanted_as c.args.self.now.ask first.ask c.args.ring.now.rounds _ (c.rounds-round.result - 1) kept.0
    (ap (λ (r : HeldRing). r.rounds) ran.ring_is) (ap (λ n. n - 1) c.rounds-round.ensures) (sym c.is_wanted.ensures ∙ on) in
    let sent = frame_as c.args.self.now.ask first.ask _ _ (Some frame) kept.0 same c.in-Some.ensures.some in (
      kept.0,
      written_more first.ask at k ring ran frame old mid new (one_frame first.ask (sent_last (at (suc k))) frame round sent) kept.1
          (subst (Appends mid new) c.bytes.ensures.bytes c.in-Ok.ensures.ok),
      none_more g.W.Sink.exact (g.W.Sink.faults begun) (g.W.Sink.faults c.args.log.now) (g.W.Sink.faults c.write_text.new.sink) kept.2
          c.write_text.ensures.later (λ e. c.in-Ok.ensures.counted.none e (λ x. cc)),
    )

pub returns-in-Err-clause-stops : goal.returns-in-Err-clause-stops
returns-in-Err-clause-stops g c first begun at k ran same kept =
    let ring = c.args.ring.now in
    let old = g.W.Sink.written begun in
    let mid = g.W.Sink.written c.args.log.now in
    let new = g.W.Sink.written c.write_text.new.sink in
    let frame = c.in-Some.frame.now.bytes in
    let on : c.is_wanted.result ≡ true = grind arith in
    let round : is_wanted first.ask (sent_last (at (suc k))).round ≡ true =
    wanted_as c.args.self.now.ask first.ask c.args.ring.now.rounds _ (c.rounds-round.result - 1) kept.0
    (ap (λ (r : HeldRing). r.rounds) ran.ring_is) (ap (λ n. n - 1) c.rounds-round.ensures) (sym c.is_wanted.ensures ∙ on) in
    let sent = frame_as c.args.self.now.ask first.ask _ _ (Some frame) kept.0 same c.in-Some.ensures.some in (
      cut_more first.ask at k ring ran frame old mid new (one_frame first.ask (sent_last (at (suc k))) frame round sent) kept.1
          (subst (AppendsFewer mid new) c.bytes.ensures.bytes c.in-Err.ensures.front),
      one_fails g.W.Sink.exact (g.W.Sink.faults begun) (g.W.Sink.faults c.args.log.now) (g.W.Sink.faults c.write_text.new.sink) kept.2
          c.write_text.ensures.later c.in-Err.ensures.fault (λ e. c.in-Err.ensures.counted.one e refl),
    )

-- the fibre carries nothing
pub returns-in_default-clause-goes : goal.returns-in_default-clause-goes
returns-in_default-clause-goes g c first begun at k ran same kept =
    let now = g.W.Sink.written c.args.log.now in
    let none = frame_as c.args.self.now.ask first.ask _ _ None kept.0 same c.in_default.ensures.none in (
      kept.0,
      written_more first.ask at k c.args.ring.now ran [] (g.W.Sink.written begun) now now (no_frame first.ask (sent_last (at (suc k))) none) kept.1
          (Appends-nil now),
      kept.2,
    )
