use Rattle.std.proofs.Common.{◌∙◌}
use Rattle.sdh_programs.proofs.Calls.{shown_as, fault_as, counted_own, wrote_line}
use Rattle.sdh_programs.proofs.Carried.{short_line}
use Rattle.sdh_programs.proofs.answering.answer_line.Goals as goal

pub write_ended-requires : goal.write_ended-requires
write_ended-requires g c =
    let m = g.M.Program in
    record {
      shown =
          shown_as m.program.endings _ c.endings_agree.ensures c.ended-said.result.ending c.args.how
          (c.ended-said.ensures.ending ∙ c.ending_of.ensures) c.requires.whole;
      room =
          g.met.O.Output.fewer _ 96 c.args.output.now
          (short_line c.args.line.bytes c.ended-said.result.text.bytes _ c.requires.empty c.ended-said.ensures.text c.ended-said.ensures.short)
          c.requires.takes;
    }

pub returns-clause-wrote : goal.returns-clause-wrote
returns-clause-wrote g c =
    let m = g.M.Program in
    wrote_line m.program.endings _ c.endings_agree.ensures c.args.how c.ended-said.result.ending c.ending_of.result c.args.line.bytes
    c.ended-said.result.text.bytes c.write_ended.result (g.O.Output.written c.args.output.now) (g.O.Output.written c.write_ended.new.output)
    c.ended-said.ensures.ending c.ending_of.ensures c.requires.empty c.ended-said.ensures.text c.write_ended.ensures.wrote

pub returns-clause-fault : goal.returns-clause-fault
returns-clause-fault g c e =
    c.write_ended.ensures.fault (fault_as g.M.Program.program.endings _ c.endings_agree.ensures c.write_ended.result e)

pub returns-clause-writes : goal.returns-clause-writes
returns-clause-writes g c =
    counted_own g.M.Program.program.endings _ c.endings_agree.ensures c.write_ended.result _ _ _ c.write_ended.ensures.writes
