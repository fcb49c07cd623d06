use Rattle.std.proofs.Common.{◌≡◌, ◌<◌, length, arith}
use Rattle.std.proofs.Math.ListN.{length-set}
use Rattle.std.proofs.lemmas.Option.{slice_get_within}
use Rattle.sdh_scripts.proofs.Lists.{set_upto}
use Rattle.sdh_aps.specs.declared.shown.Shown.{Shown}
use Rattle.sdh_aps_cli.specs.Signalled.{shown_at}
use Rattle.sdh_aps_cli.proofs.recorder.keep_all.Goals as goal

pub loop-i-preserved : goal.loop-i-preserved
loop-i-preserved g c =
    let r = g.R.ShowsNodes.held c.args.ring.now in
    let ws = c.loop-i.before.items in
    let i = c.loop-i.i in
    let inv = c.loop-i.invariant in
    let size = c.size-i-end.ensures.size in
    let lt : i < length ws = omega (arith, c.loop-i-test.true, c.size-i-end.ensures.size, size, inv.len, c.requires) in
    record {
      len = simp length-set (omega arith);
      each = set_upto (λ j (s : Shown). s ≡ shown_at r j) ws i c.shown_at.result lt c.shown_at.ensures.shown (λ j s lj get. inv.each j s lj get);
    }

pub returns-clause-shown : goal.returns-clause-shown
returns-clause-shown g c =
    let size = c.size-i-end.ensures.size in
    λ j s get. c.loop-i.invariant.each j s
    (let h = slice_get_within c.loop-i.before.items j s get in omega
    (arith, h, size, c.loop-i-test.false, c.size-i-end.ensures.size, c.loop-i.invariant.len, c.requires)) get
