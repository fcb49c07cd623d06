use Rattle.std.proofs.Common.{◌≡◌, length, take, map}
use Rattle.sdh_terminal.proofs.deliveries.rooms_for.Given as goal

abbrev pub invariant-loop-i : goal.invariant-loop-i
invariant-loop-i g l = map length l.rooms.items ≡ map (λ n. length (g.N.Delivers.delivered n)) (take l.i l.nodes)
