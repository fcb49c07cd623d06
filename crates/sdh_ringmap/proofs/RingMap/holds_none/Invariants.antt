use Rattle.std.proofs.Common.{◌≡◌, take, length, false}
use Rattle.std.specs.List.{list_any}
use Rattle.sdh_ringmap.specs.Arcs.{holds_span, arc_between}
use Rattle.sdh_ringmap.proofs.RingMap.holds_none.Given as goal

abbrev pub invariant-loop-span : goal.invariant-loop-span
invariant-loop-span l = let n = length l.self in let arc =
    arc_between n l.from.0 l.to.0 in list_any (λ s. holds_span n arc s.0) (take l.span-index l.spans) ≡ false
