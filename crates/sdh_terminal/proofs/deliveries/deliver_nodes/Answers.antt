use Rattle.std.proofs.Common.{length, refl, ap, sym, ◌∙◌, arith, rules}
use Rattle.sdh_basics.proofs.Indexing.{read_here, place_more, rest_more, place_all}
use Rattle.sdh_terminal.proofs.Waiting.{mapped, size_at, size_count}
use Rattle.sdh_terminal.proofs.deliveries.deliver_nodes.Goals as goal

pub loop-i-init : goal.loop-i-init
loop-i-init g c = record {
  done = refl;
  rest = refl;
  len = size_count length (λ n. length (g.N.Delivers.delivered n)) c.args.rooms.now.items c.args.nodes.now c.requires;
}

pub deliver-requires : goal.deliver-requires
deliver-requires g c =
    let i = c.loop-i.i in
    let x = c.index_mut-outlets.result.now in
    let n = c.index-nodes-i.result in
    ap length (read_here c.loop-i.rooms.items c.args.rooms.now.items i x c.loop-i.invariant.rest c.index_mut-outlets.ensures.value)
    ∙ size_at length (λ n. length (g.N.Delivers.delivered n)) c.args.rooms.now.items c.args.nodes.now i x n c.requires c.loop-i-test.true
    ∙ sym (ap (λ n. length (g.N.Delivers.delivered n)) c.index-nodes-i.is)

pub loop-i-preserved : goal.loop-i-preserved
loop-i-preserved g c =
    let inv = c.loop-i.invariant in
    let len = inv.len in
    let i = c.loop-i.i in
    record {
      done =
          place_more (λ k n. g.N.Delivers.delivered n) c.args.nodes.now c.loop-i.rooms.items i c.index-nodes-i.result _ c.loop-i-test.true
          (omega arith) (c.deliver.ensures ∙ ap (λ n. g.N.Delivers.delivered n) c.index-nodes-i.is) inv.done;
      rest = rest_more c.loop-i.rooms.items c.args.rooms.now.items i _ inv.rest;
      len = search rules;
    }

pub returns : goal.returns
returns g c =
    let len = c.loop-i.invariant.len in
    place_all _ c.args.nodes.now c.loop-i.rooms.items c.loop-i.i (omega arith) (omega arith) c.loop-i.invariant.done
    ∙ mapped (λ n. g.N.Delivers.delivered n) 0 c.args.nodes.now
