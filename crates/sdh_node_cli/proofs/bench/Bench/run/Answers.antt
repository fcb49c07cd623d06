use Rattle.std.proofs.Common.{◌≡◌, ◌<◌, ◌^◌, [], length, ap, sym, subst, ◌∙◌, arith}
use Rattle.sdh_ringmap.specs.declared.Side.TheVariants.{West, East}
use Rattle.sdh_request.specs.declared.settings.Settings.{Settings}
use Rattle.sdh_report.specs.Written.{Written}
use Rattle.sdh_report.specs.Written.{room_in}
use Rattle.sdh_node_cli.specs.Bench.{Bench}
use Rattle.sdh_node_cli.specs.Pairs.{frame_on, written}
use Rattle.sdh_node_cli.proofs.Rounds.{round_is, answered}
use Rattle.sdh_node_cli.proofs.bench.Bench.run.Goals as goal

pub send_through-requires : goal.send_through-requires
send_through-requires c =
    let inv = c.self.invariant in
    record {
      west = inv.2;
      east = inv.3;
      later = inv.0.forward;
      within = inv.0.within;
      few = subst (λ (b : Bench). b.node.rounds < 2 ^ 32) (sym c.self.view_is) c.requires.few;
      fits = c.requires.frames ∙ sym (ap (λ (b : Bench). b.node.settings.rate) c.self.view_is);
    }

-- the room that is left in an empty text
left : (w : Written) → room_in w ≡ 12448 → w.bytes ≡ [] → w.room ≡ 12448
left w is empty = omega (arith, is, ap length empty)

pub put_shown-requires : goal.put_shown-requires
put_shown-requires c = record { room = omega (arith, left c.args.answer.now.lines c.args.answer.now.lines_room c.requires.empty) }

pub put_ports-requires : goal.put_ports-requires
put_ports-requires c = record {
  there = λ port own. c.send_through.ensures.goes_on.ports port (c.self.invariant.0.ports port own);
  room =
      omega (
        arith,
        left c.args.answer.now.lines c.args.answer.now.lines_room c.requires.empty,
        c.put_shown.ensures.room,
        c.self.invariant.0.few,
      );
}

pub close-requires : goal.close-requires
close-requires c =
    omega (
      arith,
      left c.args.answer.now.lines c.args.answer.now.lines_room c.requires.empty,
      c.put_shown.ensures.room,
      c.put_ports.ensures.room,
      c.self.invariant.0.few,
    )

pub invariant_of-answer : goal.invariant_of-answer
invariant_of-answer c = record {
  lines_room = c.put_ports.ensures.kept ∙ c.put_shown.ensures.kept ∙ c.args.answer.now.lines_room;
}

pub invariant_of-self : goal.invariant_of-self
invariant_of-self c =
    let inv = c.self.invariant in
    let on = c.send_through.ensures.goes_on in
    let rates = c.send_through.ensures.rates in
    let rate = ap (λ (s : Settings). s.rate) (sym on.settings) in (
      record {
        forward = omega (arith, on.moment);
        within = inv.0.within;
        few = inv.0.few;
        ports = λ port own. on.ports port (inv.0.ports port own);
      },
      omega (arith, inv.1, on.rounds),
      rates.0 ∙ inv.2 ∙ rate,
      rates.1 ∙ inv.3 ∙ rate,
    )

pub returns-clause-bench : goal.returns-clause-bench
returns-clause-bench c = round_is _ _ c.send_through.new.self c.self.view_is c.send_through.ensures.node

pub returns-clause-bytes : goal.returns-clause-bytes
returns-clause-bytes c =
    let answer = c.close.new.self in
    let frames = c.send_through.new.exit in
    sym (ap (λ (b : Bench). written b.mode answer.lines.bytes answer.frames) c.self.view_is)
    ∙ answered _ _ c.send_through.new.self (frame_on West frames) (frame_on East frames) c.self.inside.rounds c.args.answer.now.lines.bytes
    c.put_shown.new.text.bytes c.put_ports.new.text.bytes (written c.self.inside.mode answer.lines.bytes answer.frames) c.self.view_is
    c.send_through.ensures.node c.send_through.ensures.west c.send_through.ensures.east (omega (arith, c.self.invariant.1, c.send_through.ensures.goes_on.rounds))
    c.requires.empty c.put_shown.ensures.bytes c.put_ports.ensures.bytes c.close.ensures.bytes
