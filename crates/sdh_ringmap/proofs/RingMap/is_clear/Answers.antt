use Rattle.std.proofs.Common.{◌<◌, ◌≤◌, ◌+◌, ◌-◌, length, arith, sym, ◌∙◌}
use Rattle.std.proofs.Math.Nat.{mod-lt}
use Rattle.sdh_ringmap.specs.Places.{eastwards}
use Rattle.sdh_ringmap.specs.Arcs.{arc_between}
use Rattle.sdh_ringmap.proofs.Clear.{is_clear-list}
use Rattle.sdh_ringmap.proofs.RingMap.is_clear.Goals as goal

pub returns : goal.returns
returns c =
    let n = length c.args.self.now in
    let some : 0 < n = omega (arith, c.requires.from) in
    let few : eastwards n c.args.from.0 c.args.to.0 ≤ n = omega (arith, mod-lt (c.args.to.0 + (n - c.args.from.0)) some) in
    c.holds_none.ensures ∙ sym (is_clear-list n (arc_between n c.args.from.0 c.args.to.0) c.requires.from few c.args.spans.now)
