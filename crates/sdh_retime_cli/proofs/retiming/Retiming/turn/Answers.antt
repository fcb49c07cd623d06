use Rattle.std.proofs.Common.{◌≤◌, length, ◌∙◌, arith}
use Rattle.sdh_retime_cli.specs.Lines.{turn_line, given_line}
use Rattle.sdh_retime_cli.proofs.Short.{turn_line_short, given_line_short}
use Rattle.sdh_retime_cli.proofs.Turns.{read_action, next_reading, room_after, lines_after}
use Rattle.sdh_retime_cli.proofs.retiming.Retiming.turn.Goals as goal

pub put_turn_line-requires : goal.put_turn_line-requires
put_turn_line-requires c =
    omega (arith, turn_line_short c.args.number c.step-action.result c.fill.result c.ranges.number.fits c.fill.type_inv)

pub put_given-requires : goal.put_given-requires
put_given-requires c =
    let line = turn_line c.args.number c.step-action.result c.fill.result in
    let few : length c.as_slice.result.now ≤ 2352 = rw c.as_slice.ensures.bytes c.as_slice.ensures.few in
    omega (
      arith,
      few,
      c.requires.room,
      turn_line_short c.args.number c.step-action.result c.fill.result c.ranges.number.fits c.fill.type_inv,
      room_after c.args.text.now c.put_turn_line.new.text line c.put_turn_line.ensures,
      given_line_short c.step-action.result c.as_slice.result.now few,
    )

pub returns-clause-reads : goal.returns-clause-reads
returns-clause-reads c =
    next_reading c.args.self.now.interp c.step-action.new.self c.args.self.now.store c.turn.new.self c.word.result.0 c.requires.reads c.word.ensures.kept c.step-action.ensures.next c.in_ok-turn.ensures.heard.1

pub returns-clause-room : goal.returns-clause-room
returns-clause-room c =
    let line = turn_line c.args.number c.step-action.result c.fill.result in
    let few : length c.as_slice.result.now ≤ 2352 = rw c.as_slice.ensures.bytes c.as_slice.ensures.few in
    omega (
      arith,
      few,
      turn_line_short c.args.number c.step-action.result c.fill.result c.ranges.number.fits c.fill.type_inv,
      room_after c.args.text.now c.put_turn_line.new.text line c.put_turn_line.ensures,
      given_line_short c.step-action.result c.as_slice.result.now few,
      room_after c.put_turn_line.new.text c.put_given.new.text (given_line c.step-action.result c.as_slice.result.now) c.put_given.ensures,
    )

pub returns-clause-lines : goal.returns-clause-lines
returns-clause-lines c = λ past came number.
    let on = c.in_ok-turn.ensures.history 0 past came in
    let reads =
    read_action c.args.self.now.interp c.args.self.now.store c.turn.new.self c.word.result.0 c.step-action.result c.in_ok-turn.field-0 c.requires.reads c.word.ensures.kept c.step-action.ensures.action c.in_ok-turn.ensures.heard.0 in
    lines_after c.args.text.now c.put_turn_line.new.text c.put_given.new.text c.args.number c.step-action.result c.fill.result c.as_slice.result.now c.args.input.now past
    c.put_turn_line.ensures c.put_given.ensures number (reads ∙ on.action) (c.fill.ensures.history 0 _ on.store)
    (c.as_slice.ensures.bytes ∙ on.bytes)
