use Rattle.std.proofs.Common.{◌≡◌, ◌+◌, take, drop, length}
use Rattle.sdh_basics.specs.Indexed.{map_from}
use Rattle.sdh_ringmap.specs.Rates.{n_of}
use Rattle.sdh_pointer.specs.Sending.{Generator, after_action}
use Rattle.sdh_terminal.specs.Passing.{states_of}
use Rattle.sdh_terminal.specs.Tributaries.{added_last}
use Rattle.sdh_terminal.specs.Lines.{all_fed_by}
use Rattle.sdh_terminal.proofs.Planned.{ArePlanned}
use Rattle.sdh_terminal.proofs.passing.plan_all.Given as goal

abbrev pub invariant-loop-k : goal.invariant-loop-k
invariant-loop-k g l =
    let lines = g.X.Matrix.lines l.cross in
    let input = all_fed_by lines (added_last l.ports) (g.X.Matrix.leads l.cross l.side) in
    let old = l.initial.generators.items in
    record {
      sent : take l.k l.generators.items ≡ map_from (λ k (g : Generator). after_action g (input (k + 1)).action (input (k + 1)).value) 0
          (take l.k old);
      rest : drop l.k l.generators.items ≡ drop l.k old;
      planned : ArePlanned lines l.own input (states_of old) l.sources l.pointers l.k;
      len : length l.generators.items ≡ length old;
      sources_len : length l.sources ≡ n_of lines.rate;
      pointers_len : length l.pointers ≡ n_of lines.rate;
    }
