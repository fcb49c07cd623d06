use Rattle.std.proofs.Common.{◌≡◌, ◌+◌, ◌++◌, length, map, vec_capacity}
use Rattle.std.specs.Vec.Iter.{drain_items}
use Rattle.sdh_rounds.proofs.ring.form_all.Given as goal

abbrev pub invariant-loop-node : goal.invariant-loop-node
invariant-loop-node g l = (goal.iterator-loop-node g).can_next l.node-iterator
    × (goal.iterator-loop-node g).is_finite l.node-iterator
    × (l.formed.items ++ map g.N.IntoForm.form (drain_items l.node-iterator) ≡ map g.N.IntoForm.form (drain_items l.initial.node-iterator))
    × (length l.formed.items + length (drain_items l.node-iterator) ≡ length (drain_items l.initial.node-iterator))
    × (vec_capacity l.formed ≡ vec_capacity l.initial.formed)
