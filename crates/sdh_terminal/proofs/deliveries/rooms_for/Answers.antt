use Rattle.std.proofs.Common.{length, map, ap, ◌∙◌, arith}
use Rattle.std.proofs.lemmas.List.{take_all}
use Rattle.sdh_terminal.proofs.Waiting.{size_more}
use Rattle.sdh_terminal.proofs.deliveries.rooms_for.Goals as goal

pub loop-i-preserved : goal.loop-i-preserved
loop-i-preserved g c =
    ap (map length) c.in_ok-push.ensures.items
    ∙ size_more length (λ n. length (g.N.Delivers.delivered n)) c.loop-i.rooms.items c.args.nodes.now c.loop-i.i c.in_ok-outlets.field-0
    c.index-nodes-i.result c.loop-i-test.true c.index-nodes-i.is c.in_ok-outlets.ensures c.loop-i.invariant

pub returns : goal.returns
returns g c =
    c.loop-i.invariant ∙ ap (map (λ n. length (g.N.Delivers.delivered n))) (take_all c.loop-i.i c.args.nodes.now (omega arith))
