use Rattle.std.proofs.Common.{◌≡◌, ◌+◌, take, drop, length}
use Rattle.sdh_basics.specs.Indexed.{map_from}
use Rattle.sdh_ringmap.specs.Rates.{n_of}
use Rattle.sdh_pointer.specs.Reading.{after_step, action_on}
use Rattle.sdh_terminal.specs.Receiving.{pointer_word_at}
use Rattle.sdh_terminal.proofs.intake.read_all.Given as goal

abbrev pub invariant-loop-k : goal.invariant-loop-k
invariant-loop-k l =
    let n = n_of l.frame.rate in
    let old = l.initial.interps.items in
    record {
      read : take l.k l.interps.items ≡ map_from (λ k i. after_step i (pointer_word_at n l.frame.bytes (k + 1))) 0 (take l.k old);
      acts : take l.k l.actions.items ≡ map_from (λ k i. action_on i.reading (pointer_word_at n l.frame.bytes (k + 1))) 0 (take l.k old);
      rest : drop l.k l.interps.items ≡ drop l.k old;
      interps_len : length l.interps.items ≡ n;
      actions_len : length l.actions.items ≡ n;
    }
