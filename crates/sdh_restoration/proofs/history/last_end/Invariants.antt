use Rattle.std.proofs.Common.{◌≡◌}
use Rattle.sdh_restoration.specs.History.{last_end}
use Rattle.sdh_restoration.specs.Rounds.{history_of}
use Rattle.sdh_restoration.proofs.history.last_end.Given as goal

-- no defect ended after round u
abbrev pub invariant-loop-u : goal.invariant-loop-u
invariant-loop-u l = last_end l.threshold (history_of l.rounds) l.t ≡ last_end l.threshold (history_of l.rounds) l.u
