use Rattle.std.proofs.Common.{◌≡◌, true, ◌≤◌, take, drop}
use Rattle.sdh_rounds.specs.Held.{world}
use Rattle.sdh_scripts.specs.Texts.{room_for, Went}
use Rattle.sdh_scripts.proofs.script.run_script.Given as goal

abbrev pub invariant-steps : goal.invariant-steps
invariant-steps g l =
    let means = g.P.Plant.fibres in
    let t = g.R.Teller in
    let written = g.O.Output.written in
    record {
      went : Went t.walk l.limit (t.text_of l.fn.runner) 0 (take l.step-index l.steps)
          (world (t.ring l.fn.runner) (means l.fn.plant)) (written l.fn.output) (written l.output) l.number
          (world (t.ring l.runner) (means l.plant));
      may : t.MayRun l.number (drop l.step-index l.steps) l.runner (means l.plant);
      room : g.O.Output.Takes (room_for (t.room l.fn.runner) l.number) l.output;
      same_room : t.room l.runner ≡ t.room l.fn.runner;
      writes : t.text_of l.runner ≡ t.text_of l.fn.runner;
      begins : t.begun_of l.runner ≡ t.begun_of l.fn.runner;
      later : g.P.Plant.faults l.fn.plant ≤ g.P.Plant.faults l.plant;
      none : g.P.Plant.exact ≡ true → g.P.Plant.faults l.plant ≡ g.P.Plant.faults l.fn.plant;
      later_writes : g.O.Output.faults l.fn.output ≤ g.O.Output.faults l.output;
      none_writes : g.O.Output.exact ≡ true → g.O.Output.faults l.output ≡ g.O.Output.faults l.fn.output;
    }
