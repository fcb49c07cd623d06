use Rattle.std.proofs.Common.{sym, ◌∙◌, arith, refl}
use Rattle.sdh_node_cli.proofs.Faults.{none_made, well_alone, no_write_part, write_not_read, err_same}
use Rattle.sdh_node_cli.proofs.Turning.{ran_by, cut_by, part_stops, both_stay}
use Rattle.sdh_node_cli.proofs.turn.run_round.Goals as goal

pub take_both-requires : goal.take_both-requires
take_both-requires g c = record {
  ahead = c.requires.ahead;
  pair = c.args.rooms.now.same_rate ∙ c.requires.rate;
  inbox = c.requires.rate;
}

pub answer_round-requires : goal.answer_round-requires
answer_round-requires g c =
    let stay = both_stay _ _ _ _ _ _ c.in-Ok.ensures.ok in
    record {
      few = omega (arith, c.requires.few, stay.0);
      frames = c.take_both.ensures.pair ∙ c.args.rooms.now.same_rate ∙ c.requires.rate ∙ sym stay.1;
    }

pub returns-in-Err-clause-stops : goal.returns-in-Err-clause-stops
returns-in-Err-clause-stops g c = part_stops c.args.bench.now c.args.came.west c.args.came.east c.in-Err.stop _ _ _ c.in-Err.ensures.part

pub returns-in-Err-clause-reads : goal.returns-in-Err-clause-reads
returns-in-Err-clause-reads g c = c.in-Err.ensures.reads

pub returns-in-Err-clause-writes : goal.returns-in-Err-clause-writes
returns-in-Err-clause-writes g c = none_made _ _ _ (λ e. no_write_part _ _ _ _ c.in-Err.ensures.part (err_same _ _ e))

pub returns-in-Ok-answer_round-clause-ran : goal.returns-in-Ok-answer_round-clause-ran
returns-in-Ok-answer_round-clause-ran g c =
    ran_by _ _ _ _ _ _ _ _ _ c.in-Ok.ensures.ok c.answer_round.ensures.bench c.in-Ok-answer_round.ensures.ok

pub returns-in-Ok-answer_round-clause-reads : goal.returns-in-Ok-answer_round-clause-reads
returns-in-Ok-answer_round-clause-reads g c = well_alone _ _ _ _ _ c.in-Ok.ensures.reads _ _ refl (λ e. cc)

pub returns-in-Ok-answer_round-clause-writes : goal.returns-in-Ok-answer_round-clause-writes
returns-in-Ok-answer_round-clause-writes g c = c.in-Ok-answer_round.ensures.writes

pub returns-in-Err-answer_round-clause-stops : goal.returns-in-Err-answer_round-clause-stops
returns-in-Err-answer_round-clause-stops g c =
    cut_by _ _ _ _ _ _ _ _ _ c.in-Err-answer_round.ensures.why c.in-Ok.ensures.ok c.in-Err-answer_round.ensures.front

pub returns-in-Err-answer_round-clause-reads : goal.returns-in-Err-answer_round-clause-reads
returns-in-Err-answer_round-clause-reads g c =
    well_alone _ _ _ _ _ c.in-Ok.ensures.reads _ _ refl (write_not_read _ c.in-Err-answer_round.ensures.why)

pub returns-in-Err-answer_round-clause-writes : goal.returns-in-Err-answer_round-clause-writes
returns-in-Err-answer_round-clause-writes g c = c.in-Err-answer_round.ensures.writes
