use Rattle.std.proofs.Common.{◌<◌, sym, subst, arith, rules}
use Rattle.sdh_basics.proofs.Indexing.{read_here, step_more, rest_more, place_all}
use Rattle.sdh_terminal.specs.Tributaries.{Tributary, fed, all_fed}
use Rattle.sdh_terminal.proofs.tributary.feed_all.Goals as goal

pub feed-requires : goal.feed-requires
feed-requires c =
    let x = c.index_mut-port.result.now in
    subst (λ (t : Tributary). t.feed.clock.rounds < 4294967296)
    (sym (read_here c.loop-i.ports.items c.args.ports.now.items c.loop-i.i x c.loop-i.invariant.rest c.index_mut-port.ensures.value))
    (c.requires c.loop-i.i x (omega arith))

pub loop-i-preserved : goal.loop-i-preserved
loop-i-preserved c =
    let inv = c.loop-i.invariant in
    let old = c.args.ports.now.items in
    let now = c.loop-i.ports.items in
    let i = c.loop-i.i in
    let x = c.index_mut-port.result.now in
    record {
      done =
          step_more (λ i t. fed t) old now i x _ (omega arith)
          (omega arith) inv.rest c.index_mut-port.ensures.value c.feed.ensures inv.done;
      rest = rest_more now old i _ inv.rest;
      len = search rules;
    }

pub returns : goal.returns
unfolding all_fed
returns c = place_all _ _ _ c.loop-i.i (omega arith) (omega arith) c.loop-i.invariant.done
