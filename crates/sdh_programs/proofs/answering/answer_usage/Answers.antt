use Rattle.std.proofs.Common.{◌≡◌, refl, rules}
use Rattle.sdh_report.specs.Lines.{own_line}
use Rattle.sdh_status.specs.declared.Status.TheVariants as status
use Rattle.sdh_programs.proofs.Calls.{shown_as, fault_as, counted_own, wrote_as}
use Rattle.sdh_programs.proofs.Carried.{short_usage}
use Rattle.sdh_programs.proofs.answering.answer_usage.Goals as goal

pub write_ended-requires : goal.write_ended-requires
write_ended-requires g c =
    let m = g.M.Program in
    let text : c.own_line.new.self.bytes ≡ own_line m.program.usage = search rules in
    record {
      shown = shown_as m.program.endings _ c.endings_agree.ensures c.ending_of-ending.result status.Usage c.ending_of-ending.ensures refl;
      room =
          g.met.O.Output.fewer _ 96 c.args.output.now
          (short_usage m.program.usage c.usage.result.now c.own_line.new.self.bytes c.usage.ensures.line c.usage.ensures.short text)
          c.requires.takes;
    }

pub returns-clause-wrote : goal.returns-clause-wrote
returns-clause-wrote g c =
    let m = g.M.Program in
    let text : c.own_line.new.self.bytes ≡ own_line m.program.usage = search rules in
    wrote_as m.program.endings _ c.endings_agree.ensures c.ending_of-ending.result (m.program.endings.of status.Usage)
    c.own_line.new.self.bytes (own_line m.program.usage) c.write_ended.result (g.O.Output.written c.args.output.now)
    (g.O.Output.written c.write_ended.new.output) c.ending_of-ending.ensures text c.write_ended.ensures.wrote

pub returns-clause-fault : goal.returns-clause-fault
returns-clause-fault g c e =
    c.write_ended.ensures.fault (fault_as g.M.Program.program.endings _ c.endings_agree.ensures c.write_ended.result e)

pub returns-clause-writes : goal.returns-clause-writes
returns-clause-writes g c =
    counted_own g.M.Program.program.endings _ c.endings_agree.ensures c.write_ended.result _ _ _ c.write_ended.ensures.writes
