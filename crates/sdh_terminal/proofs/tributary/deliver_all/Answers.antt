use Rattle.std.proofs.Common.{ap, ◌∙◌, arith, rules}
use Rattle.sdh_basics.proofs.Indexing.{place_more, place_all}
use Rattle.sdh_terminal.specs.Lines.{dropped_by}
use Rattle.sdh_terminal.specs.Outlets.{delivered_from}
use Rattle.sdh_terminal.specs.Tributaries.{Tributary}
use Rattle.sdh_terminal.proofs.Waiting.{all-read}
use Rattle.sdh_terminal.proofs.tributary.deliver_all.Goals as goal

pub loop-i-preserved : goal.loop-i-preserved
loop-i-preserved g c =
    let inv = c.loop-i.invariant in
    let len = inv.len in
    let x = c.index-ports-i.result in
    record {
      done =
          place_more (λ i (t : Tributary). delivered_from (dropped_by (g.X.Matrix.lines c.args.cross.now)
          (g.X.Matrix.drops c.args.cross.now t.side t.slot.0))) c.args.ports.now c.loop-i.outlets.items c.loop-i.i x _ (omega arith)
          (omega arith)
          (c.deliver.ensures.outlet
          ∙ ap (λ (t : Tributary). delivered_from (dropped_by (g.X.Matrix.lines c.args.cross.now)
          (g.X.Matrix.drops c.args.cross.now t.side t.slot.0))) c.index-ports-i.is) inv.done;
      len = search rules;
      taken = c.deliver.ensures.taken;
    }

pub returns : goal.returns
returns g c =
    let len = c.loop-i.invariant.len in
    place_all _ c.args.ports.now c.loop-i.outlets.items c.loop-i.i (omega arith) (omega arith) c.loop-i.invariant.done
    ∙ all-read (λ t. dropped_by (g.X.Matrix.lines c.args.cross.now) (g.X.Matrix.drops c.args.cross.now t.side t.slot.0)) c.args.ports.now
